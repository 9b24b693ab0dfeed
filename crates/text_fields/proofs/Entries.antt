-- The texts of entries.
use Rattle.std.proofs.Common.{◌≡◌, ◌⊎◌, inl, inr, zero, suc, ℤ, pos, negsuc, [], ◌∷◌, Ok, refl, ap, sym, subst, arith}
use Rattle.std.specs.Fmt.{signed_decimal}
use Rattle.std.proofs.lemmas.Fmt.{decimal_digit}
use Rattle.std.proofs.lemmas.Int.{ints}
use Rattle.cmr_base.specs.Matrix.{IsEntry}
use Rattle.text_fields.specs.Numbers.{signed_in}
use Rattle.text_fields.proofs.LineWords.{IsWord}

pub zero_text : signed_decimal (pos 0) ≡ 48 ∷ []
zero_text = decimal_digit 0 (omega arith)

pub one_text : signed_decimal (pos 1) ≡ 49 ∷ []
one_text = decimal_digit 1 (omega arith)

pub minus_one_text : signed_decimal (negsuc 0) ≡ 45 ∷ 49 ∷ []
minus_one_text = ap (λ digits. 45 ∷ digits) (decimal_digit 1 (omega arith))

-- an entry is -1, 0 or 1
pub entry_cases : (z : ℤ) → IsEntry z → (z ≡ negsuc 0) ⊎ ((z ≡ pos 0) ⊎ (z ≡ pos 1))
entry_cases (pos zero) small = inr (inl refl)
entry_cases (pos (suc zero)) small = inr (inr refl)
entry_cases (pos (suc (suc n))) small = absurd (let h = small.high in omega (arith, ints))
entry_cases (negsuc zero) small = inl refl
entry_cases (negsuc (suc n)) small = absurd (let h = small.low in omega (arith, ints))

-- the text of an entry is a word
pub entry_word : (z : ℤ) → IsEntry z → IsWord (signed_decimal z)
entry_word z small = elim (entry_cases z small) [
  | inl e ↦ subst (λ y. IsWord (signed_decimal y)) (sym e) (subst IsWord (sym minus_one_text) (record { first = 45; others = 49 ∷ []; word_is = refl; solid = (refl, (refl, tt)) }))
  | inr (inl e) ↦ subst (λ y. IsWord (signed_decimal y)) (sym e) (subst IsWord (sym zero_text) (record { first = 48; others = []; word_is = refl; solid = (refl, tt) }))
  | inr (inr e) ↦ subst (λ y. IsWord (signed_decimal y)) (sym e) (subst IsWord (sym one_text) (record { first = 49; others = []; word_is = refl; solid = (refl, tt) }))
]

-- the word is read as the entry
pub entry_again : (z : ℤ) → IsEntry z → signed_in (signed_decimal z) ≡ Ok z
entry_again z small = elim (entry_cases z small) [
  | inl e ↦ subst (λ y. signed_in (signed_decimal y) ≡ Ok y) (sym e) (ap signed_in minus_one_text)
  | inr (inl e) ↦ subst (λ y. signed_in (signed_decimal y) ≡ Ok y) (sym e) (ap signed_in zero_text)
  | inr (inr e) ↦ subst (λ y. signed_in (signed_decimal y) ≡ Ok y) (sym e) (ap signed_in one_text)
]
