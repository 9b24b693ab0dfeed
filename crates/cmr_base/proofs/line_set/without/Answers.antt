use Rattle.std.proofs.Common.{sym, subst, length, get_or, List, ℕ, ap, arith, eqb, not}
use Rattle.cmr_base.specs.Indices.{IsAbove}
use Rattle.cmr_base.proofs.LineSetLemmas.{kept_below}
use Rattle.cmr_base.proofs.line_set.without.Goals as goal

pub push-requires : goal.push-requires
push-requires c =
    let lines = c.args.lines.now in
    let i = c.loop-line.line-index in
    let same = c.as_slice-line-items.ensures.items in
    rw same (subst (λ (rest : List ℕ). IsAbove (get_or lines i 0) rest) (sym c.loop-line.invariant) (kept_below (λ line. not (eqb line c.args.omitted)) lines i c.as_slice-line-items.ensures.increasing (omega (arith, ap length same))))
