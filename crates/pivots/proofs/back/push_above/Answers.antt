use Rattle.std.proofs.Common.{◌<◌, sym, subst, length, get_or, List, ℕ, ap, arith}
use Rattle.cmr_base.specs.Indices.{IsAbove}
use Rattle.pivots.proofs.ChosenLines.{next_above}
use Rattle.pivots.proofs.back.push_above.Goals as goal

pub push-requires : goal.push-requires
push-requires c =
    let lines = c.args.lines.now in
    let i = c.loop-line.line-index in
    let same = c.as_slice-line-items.ensures.items in
    rw same (subst (λ (made : List ℕ). IsAbove (get_or lines i 0) made) (sym c.loop-line.invariant)
    (next_above c.args.made.now lines c.args.bound i c.as_slice-line-items.ensures.increasing (omega (arith, ap length same)) (subst (λ (items : List ℕ). c.args.bound < get_or items i 0) same c.if-line-bound.true) c.requires))
