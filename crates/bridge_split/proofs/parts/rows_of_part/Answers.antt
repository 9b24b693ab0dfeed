use Rattle.std.proofs.Common.{sym, subst, List, ℕ, get_or}
use Rattle.cmr_base.specs.Indices.{IsAbove}
use Rattle.cmr_base.proofs.LineSetLemmas.{kept_below}
use Rattle.bridge_split.specs.PartNumbers.{is_number, number_at}
use Rattle.bridge_split.proofs.parts.rows_of_part.Goals as goal

pub push-requires : goal.push-requires
push-requires c =
    let rows = c.args.rows.now in
    let i = c.loop-row.row-index in
    subst (λ (of_part : List ℕ). IsAbove (get_or rows i 0) of_part) (sym c.loop-row.invariant)
    (kept_below (λ row. is_number c.args.number (number_at c.args.part.now row)) rows i c.requires.increasing c.loop-row-test.true)
