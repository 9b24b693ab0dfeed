-- Products whose supports are determined by one factor.
use Rattle.std.proofs.Common.{true, ◌≡◌, ◌≢◌, ◌∙◌, sym, ap, refl, arith, inl, inr, ℤ, pos, ◌*ℤ◌}
use Rattle.cmr_base.specs.Matrix.{is_nonzero, IsEntry}
use Rattle.cmr_base.specs.Signing.{IsSign}
use Rattle.cmr_base.proofs.Booleans.{is_zero, nonzero_is, zero_is}
use Rattle.cmr_base.proofs.SignEntries.{sign_of_entry}
use Rattle.cmr_base.proofs.Integers.{sums, products}
use Rattle.cmr_base.proofs.RowLists.{two_cases}

times_sign : (a b e : ℤ) → IsSign a → IsSign b → IsSign e → is_nonzero (a *ℤ (b *ℤ e)) ≡ true
times_sign a b e (inl x) (inl y) (inl z) = rw (x, y, z) refl
times_sign a b e (inl x) (inl y) (inr z) = rw (x, y, z) refl
times_sign a b e (inl x) (inr y) (inl z) = rw (x, y, z) refl
times_sign a b e (inl x) (inr y) (inr z) = rw (x, y, z) refl
times_sign a b e (inr x) (inl y) (inl z) = rw (x, y, z) refl
times_sign a b e (inr x) (inl y) (inr z) = rw (x, y, z) refl
times_sign a b e (inr x) (inr y) (inl z) = rw (x, y, z) refl
times_sign a b e (inr x) (inr y) (inr z) = rw (x, y, z) refl

pub first_zero : (a b e : ℤ) → a ≡ pos 0 → a *ℤ (b *ℤ e) ≡ pos 0
first_zero a b e z = rw z (simp products (omega (arith, sums)))

pub second_zero : (a b e : ℤ) → b ≡ pos 0 → a *ℤ (b *ℤ e) ≡ pos 0
second_zero a b e z = rw z (simp products (omega (arith, sums)))

pub as_second : (v a b e : ℤ) → IsEntry a → IsEntry b → IsEntry e → a ≢ pos 0 → e ≢ pos 0 → v ≡ a *ℤ (b *ℤ e) → is_nonzero v ≡ is_nonzero b
as_second v a b e sa sb se na ne is = elim (two_cases (is_nonzero b)) [
  | inl t ↦ ap is_nonzero is ∙ times_sign a b e (sign_of_entry a sa na) (sign_of_entry b sb (nonzero_is b t)) (sign_of_entry e se ne) ∙ sym t
  | inr f ↦ is_zero v (is ∙ second_zero a b e (zero_is b f)) ∙ sym f
]

pub as_first : (v a b e : ℤ) → IsEntry a → IsEntry b → IsEntry e → b ≢ pos 0 → e ≢ pos 0 → v ≡ a *ℤ (b *ℤ e) → is_nonzero v ≡ is_nonzero a
as_first v a b e sa sb se nb ne is = elim (two_cases (is_nonzero a)) [
  | inl t ↦ ap is_nonzero is ∙ times_sign a b e (sign_of_entry a sa (nonzero_is a t)) (sign_of_entry b sb nb) (sign_of_entry e se ne) ∙ sym t
  | inr f ↦ is_zero v (is ∙ first_zero a b e (zero_is a f)) ∙ sym f
]
