-- Sums of two entries, and the code's tests of entries.
use Rattle.std.proofs.Common.{ℕ, Bool, true, false, ◌≡◌, ◌≢◌, ℤ, pos, negsuc, ◌+ℤ◌, inl, inr, ◌∙◌, sym, ap, refl, arith, of_z, w8, nat_eq}
use Rattle.std.proofs.lemmas.Int.{ints}
use Rattle.cmr_base.specs.Matrix.{Matrix, entry, IsEntry}
use Rattle.cmr_base.specs.Sums.{IsTwoModFour}
use Rattle.cmr_base.specs.Signing.{IsSign}
use Rattle.cmr_base.proofs.Integers.{sums}
use Rattle.ghouila.proofs.SignedSums.{zero_or_sign}
use Rattle.camion_sign.specs.Walks.{TwoIf}
use Rattle.cmr_base.proofs.RowLists.{eq_of, ne_of}
use Rattle.cmr_base.proofs.EntryBytes.{same_bytes}

pub sign_of : (m : Matrix) (i j : ℕ) → ((i j : ℕ) → IsEntry (entry m i j)) → entry m i j ≢ pos 0 → IsSign (entry m i j)
sign_of m i j small h = elim (zero_or_sign (entry m i j) (small i j)) [ inl z ↦ absurd (h z) | inr u ↦ u ]

pub pair_two : (x y : ℤ) (b : Bool) → IsSign x → IsSign y → (b ≡ true → x ≡ y) → (b ≡ false → x ≢ y) → TwoIf b (x +ℤ y)
pair_two x y true (inl e) (inl f) s d = (pos 0, rw (e, f) refl)
pair_two x y true (inr e) (inr f) s d = (negsuc 0, rw (e, f) refl)
pair_two x y true (inl e) (inr f) s d = absurd (let g = s refl in omega (arith, sums))
pair_two x y true (inr e) (inl f) s d = absurd (let g = s refl in omega (arith, sums))
pair_two x y false (inl e) (inl f) s d = absurd (d refl (e ∙ sym f))
pair_two x y false (inr e) (inr f) s d = absurd (d refl (e ∙ sym f))
pair_two x y false (inl e) (inr f) s d = (pos 0, rw (e, f) refl)
pair_two x y false (inr e) (inl f) s d = (pos 0, rw (e, f) refl)

-- a test of two entries for equality determines their sum
entries_two : (m : Matrix) (i j k l : ℕ) (b : Bool) → ((i j : ℕ) → IsEntry (entry m i j)) → entry m i j ≢ pos 0 → entry m k l ≢ pos 0
    → (b ≡ true → entry m i j ≡ entry m k l) → (b ≡ false → entry m i j ≢ entry m k l) → TwoIf b (entry m i j +ℤ entry m k l)
entries_two m i j k l b is u v s d = pair_two (entry m i j) (entry m k l) b (sign_of m i j is u) (sign_of m k l is v) s d

pub two_not : (z : ℤ) (odd : Bool) → TwoIf odd z → IsTwoModFour z → odd ≡ true
two_not z true h g = refl
two_not z false (k, e) (l, f) = absurd (omega (arith, sums))

-- the code's test of two entries
pub test_two : (m : Matrix) (i j k l : ℕ) (v w : ℤ) → ((i j : ℕ) → IsEntry (entry m i j)) → v ≡ entry m i j → w ≡ entry m k l → IsEntry v → IsEntry w → entry m i j ≢ pos 0 → entry m k l ≢ pos 0
    → TwoIf (nat_eq (of_z w8 v) (of_z w8 w)) (entry m i j +ℤ entry m k l)
test_two m i j k l v w is e f s r a b = entries_two m i j k l (nat_eq (of_z w8 v) (of_z w8 w)) is a b
    (λ t. sym e ∙ same_bytes v w s r (eq_of (of_z w8 v) (of_z w8 w) t) ∙ f)
    (λ t q. ne_of (of_z w8 v) (of_z w8 w) t (ap (of_z w8) (e ∙ q ∙ sym f)))

pub zero_as_byte : (v : ℤ) → v ≡ pos 0 → of_z w8 v ≡ 0
zero_as_byte v e = omega (arith, ints)
