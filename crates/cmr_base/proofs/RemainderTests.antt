-- Even sums, odd sums and sums of 2 modulo 4, by their remainders.
use Rattle.std.proofs.Common.{◌+◌, ◌-◌, ◌/◌, ◌%◌, ℤ, pos, negsuc, neg_ℤ, nat_eq, arith, of_z, w32}
use Rattle.std.specs.Prelude.{◌↔◌, IsTrue}
use Rattle.std.specs.Int.{int_rem_euclid}
use Rattle.cmr_base.specs.Sums.{IsEven, IsOdd, IsTwoModFour}
use Rattle.cmr_base.proofs.Booleans.{eq_test}
use Rattle.cmr_base.proofs.Integers.{sums}

pub even_test : (z : ℤ) → IsTrue (nat_eq (of_z w32 (int_rem_euclid z (pos 2))) 0) ↔ IsEven z
even_test (pos a) = (λ h. let e = (eq_test (a % 2) 0).0 h in (pos (a / 2), omega (arith, sums)), λ (k, e). (eq_test (a % 2) 0).1 (omega (arith, sums)))
even_test (negsuc a) = (λ h. let e = (eq_test (2 - 1 - a % 2) 0).0 h in (neg_ℤ (pos (a / 2 + 1)), omega (arith, sums)), λ (k, e). (eq_test (2 - 1 - a % 2) 0).1 (omega (arith, sums)))

pub odd_test : (z : ℤ) → IsTrue (nat_eq (of_z w32 (int_rem_euclid z (pos 2))) 1) ↔ IsOdd z
odd_test (pos a) = (λ h. let e = (eq_test (a % 2) 1).0 h in (pos (a / 2 + 1), omega (arith, sums)), λ (k, e). (eq_test (a % 2) 1).1 (omega (arith, sums)))
odd_test (negsuc a) = (λ h. let e = (eq_test (2 - 1 - a % 2) 1).0 h in (neg_ℤ (pos (a / 2)), omega (arith, sums)), λ (k, e). (eq_test (2 - 1 - a % 2) 1).1 (omega (arith, sums)))

pub two_test : (z : ℤ) → IsTrue (nat_eq (of_z w32 (int_rem_euclid z (pos 4))) 2) ↔ IsTwoModFour z
two_test (pos a) = (λ h. let e = (eq_test (a % 4) 2).0 h in (pos (a / 4), omega (arith, sums)), λ (k, e). (eq_test (a % 4) 2).1 (omega (arith, sums)))
two_test (negsuc a) = (λ h. let e = (eq_test (4 - 1 - a % 4) 2).0 h in (neg_ℤ (pos (a / 4 + 1)), omega (arith, sums)), λ (k, e). (eq_test (4 - 1 - a % 4) 2).1 (omega (arith, sums)))
