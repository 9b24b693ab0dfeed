use Rattle.std.proofs.Common.{sym, subst, length, get_or, nat_lt, List, ℕ, ap, arith}
use Rattle.cmr_base.specs.Indices.{IsAbove}
use Rattle.cmr_base.proofs.LineSetLemmas.{kept_below}
use Rattle.pivots.proofs.back.lines_below.Goals as goal

pub push-requires : goal.push-requires
push-requires c =
    let lines = c.args.lines.now in
    let i = c.loop-line.line-index in
    let same = c.as_slice-line-items.ensures.items in
    rw same (subst (λ (made : List ℕ). IsAbove (get_or lines i 0) made) (sym c.loop-line.invariant) (kept_below (λ line. nat_lt line c.args.bound) lines i c.as_slice-line-items.ensures.increasing (omega (arith, ap length same))))
