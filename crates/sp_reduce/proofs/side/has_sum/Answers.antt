use Rattle.std.proofs.Common.{◌∙◌, inl, inr, ℕ, get_or, ap, sym, arith}
use Rattle.std.proofs.lemmas.Bool.{cases_eq}
use Rattle.sp_reduce.proofs.side.has_sum.Goals as goal

pub places-preserved : goal.places-preserved
places-preserved c = λ at past h e. elim (cases_eq at c.places.place) [
  | inl q ↦ c.if-sums-place.false (ap (λ (k : ℕ). get_or c.args.sums.now k 0) (sym q) ∙ e)
  | inr d ↦ c.places.invariant at past (omega (arith, h, d)) e
]
