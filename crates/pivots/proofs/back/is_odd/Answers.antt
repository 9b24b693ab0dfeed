use Rattle.std.proofs.Common.{◌∙◌, ℤ, pos, nat_eq, ap, sym, subst, of_z, w32}
use Rattle.std.specs.Prelude.{◌↔◌, IsTrue}
use Rattle.std.specs.Int.{int_rem_euclid}
use Rattle.std.proofs.lemmas.Int.{to_z-of_z}
use Rattle.cmr_base.specs.Sums.{IsOdd}
use Rattle.cmr_base.proofs.RemainderTests.{odd_test}
use Rattle.pivots.proofs.back.is_odd.Goals as goal

pub returns : goal.returns
returns c =
    let value = c.rem_euclid.ensures.value ∙ ap (λ (z : ℤ). int_rem_euclid z (pos 2)) (to_z-of_z w32 c.args.sum c.ranges.sum) in
    subst (λ (r : ℤ). IsTrue (nat_eq (of_z w32 r) 1) ↔ IsOdd c.args.sum) (sym value) (odd_test c.args.sum)
