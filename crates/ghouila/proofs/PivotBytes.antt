-- The preconditions of the calls at a pivot, and rows with 0 in the pivot's column.
use Rattle.std.proofs.Common.{◌≡◌, ◌∙◌, inl, inr, ℕ, ℤ, pos, negsuc, neg_ℤ, ◌-ℤ◌, ◌*ℤ◌, ap, sym, subst, arith, w8, of_z, to_z}
use Rattle.std.proofs.lemmas.Bool.{cases_eq}
use Rattle.std.proofs.lemmas.Int.{ints}
use Rattle.cmr_base.specs.Matrix.{IsEntry}
use Rattle.cmr_base.specs.Signing.{IsSign}
use Rattle.cmr_base.proofs.Integers.{sums, products}
use Rattle.cmr_base.specs.PlacedPivots.{reduced, pivoted}
use Rattle.ghouila.proofs.Bytes.{kept_entry}
use Rattle.ghouila.proofs.PivotSums.{pivoted_apart, pivoted_at}

pub entry_byte : (z : ℤ) → IsEntry z → IsEntry (to_z w8 (of_z w8 z))
entry_byte z small = subst IsEntry (sym (kept_entry z small)) small

pub kept_sign : (z : ℤ) → IsSign z → IsSign (to_z w8 (of_z w8 z))
kept_sign z (inl e) = inl (omega (arith, ints))
kept_sign z (inr e) = inr (omega (arith, ints))

pub negated_byte : (z : ℤ) → IsEntry z → to_z w8 (of_z w8 (pos 0 -ℤ to_z w8 (of_z w8 z))) ≡ neg_ℤ z
negated_byte z small = let low = small.low in let high = small.high in omega (arith, ints)

-- an entry below a pivot is 0 if the factor is 0
pub zero_below : (factor a p : ℤ) → factor ≡ a *ℤ p → IsSign a → factor ≡ pos 0 → p ≡ pos 0
zero_below factor a p is (inl e) zero = let w : pos 1 *ℤ p ≡ pos 0 = subst (λ (b : ℤ). b *ℤ p ≡ pos 0) e (sym is ∙ zero) in omega (arith, ints)
zero_below factor a p is (inr e) zero = let w : negsuc 0 *ℤ p ≡ pos 0 = subst (λ (b : ℤ). b *ℤ p ≡ pos 0) e (sym is ∙ zero) in omega (arith, ints)

zero_negated : (a : ℤ) → neg_ℤ (a *ℤ pos 0) ≡ pos 0
zero_negated a = simp products (omega (arith, sums))

less_nothing : (x a q : ℤ) → x -ℤ a *ℤ (pos 0 *ℤ q) ≡ x
less_nothing x a q = simp products (omega (arith, sums))

-- a row with 0 in the pivot's column does not change
pub reduced_row : (M : ℕ → ℕ → ℤ) (row column i j : ℕ) → M i column ≡ pos 0 → reduced M row column i j ≡ M i j
reduced_row M row column i j e = ap (λ (p : ℤ). M i j -ℤ M row column *ℤ (p *ℤ M row j)) e ∙ less_nothing (M i j) (M row column) (M row j)

pub pivoted_row : (M : ℕ → ℕ → ℤ) (row column i j : ℕ) → M i column ≡ pos 0 → M i j ≡ pivoted M row column i j
pivoted_row M row column i j e = elim (cases_eq j column) [
  | inl same ↦ subst (λ (k : ℕ). M i k ≡ pivoted M row column i k) (sym same) (e ∙ sym (ap (λ (p : ℤ). neg_ℤ (M row column *ℤ p)) e ∙ zero_negated (M row column)) ∙ sym (pivoted_at M row column i))
  | inr apart ↦ sym (reduced_row M row column i j e) ∙ sym (pivoted_apart M row column i j apart)
]
