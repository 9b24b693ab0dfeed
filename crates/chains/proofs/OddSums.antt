-- Odd sums and their remainders.
use Rattle.std.proofs.Common.{◌≡◌, ◌∙◌, ◌+◌, ◌-◌, ◌/◌, ◌%◌, ℤ, pos, negsuc, neg_ℤ, ◌+ℤ◌, ap, sym, arith, of_z, w32}
use Rattle.std.specs.Int.{int_rem_euclid}
use Rattle.cmr_base.proofs.Integers.{sums}
use Rattle.chains.specs.SignSteps.{IsZeroModFour}

one_more_than_four : (z : ℤ) → of_z w32 (int_rem_euclid z (pos 4)) ≡ 1 → IsZeroModFour (z +ℤ negsuc 0)
one_more_than_four (pos a) h = let e : a % 4 ≡ 1 = h in (pos (a / 4), omega (arith, sums))
one_more_than_four (negsuc a) h = let e : 4 - 1 - a % 4 ≡ 1 = h in (neg_ℤ (pos (a / 4 + 1)), omega (arith, sums))

pub minus_closes : (z r : ℤ) → r ≡ int_rem_euclid z (pos 4) → of_z w32 r ≡ 1 → IsZeroModFour (z +ℤ negsuc 0)
minus_closes z r e h = one_more_than_four z (ap (of_z w32) (sym e) ∙ h)
