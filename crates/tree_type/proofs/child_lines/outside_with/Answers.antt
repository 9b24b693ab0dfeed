use Rattle.std.proofs.Common.{sym, subst, length, get_or, List, ℕ, ap, arith, ◌||◌, not}
use Rattle.cmr_base.specs.Indices.{IsAbove}
use Rattle.tree_type.specs.Sides.{is_among}
use Rattle.cmr_base.proofs.LineSetLemmas.{kept_below}
use Rattle.tree_type.proofs.child_lines.outside_with.Goals as goal

pub push-requires : goal.push-requires
push-requires c =
    let lines = c.args.lines.now in
    let i = c.loop-line.line-index in
    let same = c.as_slice-line-items.ensures.items in
    rw same (subst (λ (rest : List ℕ). IsAbove (get_or lines i 0) rest) (sym c.loop-line.invariant) (kept_below (λ line. not (is_among c.args.set.now line) || is_among c.args.more.now line) lines i c.as_slice-line-items.ensures.increasing (omega (arith, ap length same))))
