use Rattle.std.proofs.Common.{◌≡◌, inl, inr, subst, arith}
use Rattle.std.proofs.lemmas.Bool.{cases_lt}
use Rattle.r10_leaf.specs.Tables.{HasColumn}
use Rattle.r10_leaf.proofs.test.fits.Goals as goal

pub loop-place-preserved : goal.loop-place-preserved
loop-place-preserved c j l = elim (cases_lt j c.loop-place.place) [
  | inl lt ↦ c.loop-place.invariant j lt
  | inr ge ↦ let e : c.loop-place.place ≡ j = omega arith in
      subst (λ x. HasColumn c.args.matrix.now c.args.table.now c.args.rows.now x) e (c.has_column.ensures.0 c.if-not-has_column.false)
]
