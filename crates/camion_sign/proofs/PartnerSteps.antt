-- The search for the signed column that forces an entry, over the signed columns of its row.
use Rattle.std.proofs.Common.{◌≡◌, ◌≢◌, ◌∙◌, ◌<◌, ◌≤◌, ◌+◌, ℕ, ℤ, pos, false, List, inl, inr, sym, ap, subst, arith}
use Rattle.std.proofs.lemmas.Bool.{cases_eq, cases_lt}
use Rattle.cmr_base.specs.Matrix.{Matrix, entry, with_entry, IsMatrix}
use Rattle.cmr_base.specs.Signing.{IsSign}
use Rattle.cmr_base.specs.Trees.{support}
use Rattle.cmr_base.proofs.Booleans.{zero_is}
use Rattle.chains.specs.SignSteps.{AreSigns, IsUnsignedOne}
use Rattle.camion_sign.specs.SignOrder.{IsForcedBy, IsPlaceOf}
use Rattle.camion_sign.specs.Signings.{ShowsPlaceOf}
use Rattle.chains.proofs.GivenSigns.{HasOneMore, one_more}

-- two columns whose mark is not 0 make a place
pub place_of : (a s : Matrix) (row partner column : ℕ) (z : ℤ) → ShowsPlaceOf a s row partner column z → z ≢ pos 0 → (path : List ℕ) × IsPlaceOf a row partner column path
place_of a s row partner column z shows other = elim (shows.place other) [
  | inl v ↦ (v.0, inl v.1)
  | inr v ↦ (v.0, inr v.1)
]

module _ (a s : Matrix) (row column from : ℕ) (none : (c : ℕ) → c < from → ¬ (IsForcedBy a s row column c)) where
  -- columns without sign force nothing
  pub none_before : (next : ℕ) → ((c : ℕ) → from ≤ c → c < next → support s row c ≡ false) → (c : ℕ) → c < next → ¬ (IsForcedBy a s row column c)
  none_before next zeros c l forced = elim (cases_lt c from) [
    | inl early ↦ none c early forced
    | inr late ↦ forced.0 (zero_is (entry s row c) (zeros c late l))
  ]

  -- the next signed column forces nothing
  pub one_passed : (next : ℕ) → ((c : ℕ) → from ≤ c → c < next → support s row c ≡ false) → ¬ (IsForcedBy a s row column next) → (c : ℕ) → c < next + 1 → ¬ (IsForcedBy a s row column c)
  one_passed next zeros here c l = elim (cases_lt c next) [
    | inl before ↦ none_before next zeros c before
    | inr past ↦ let e : next ≡ c = omega arith in subst (λ x. ¬ (IsForcedBy a s row column x)) e here
  ]

pub column_passed : (a s : Matrix) (row column : ℕ) → (IsUnsignedOne a s row column → (c : ℕ) → ¬ (IsForcedBy a s row column c))
    → ((d : ℕ) → d < column → IsUnsignedOne a s row d → (c : ℕ) → ¬ (IsForcedBy a s row d c)) → (d : ℕ) → d < column + 1 → IsUnsignedOne a s row d → (c : ℕ)
    → ¬ (IsForcedBy a s row d c)
column_passed a s row column here none d l = elim (cases_lt d column) [
  | inl before ↦ none d before
  | inr past ↦ let e : column ≡ d = omega arith in subst (λ x. IsUnsignedOne a s row x → (c : ℕ) → ¬ (IsForcedBy a s row x c)) e here
]

-- a new sign keeps all other signs
pub ones_kept : (a s after : Matrix) → IsMatrix a → AreSigns a s → (row column : ℕ) (v : ℤ) → IsSign v → IsUnsignedOne a s row column
    → after ≡ with_entry s row column v → (d : ℕ) → IsUnsignedOne a after row d → IsUnsignedOne a s row d
ones_kept a s after is signs row column v u here e d unsigned = elim (cases_eq d column) [
  | inl same ↦ subst (IsUnsignedOne a s row) (sym same) here
  | inr apart ↦ record { one = unsigned.one; no_sign = sym (more.other row d (inr apart)) ∙ ap (λ (t : Matrix). entry t row d) (sym e) ∙ unsigned.no_sign }
]
  where
    more : HasOneMore s (with_entry s row column v) row column v
    more = one_more a s is.rectangular signs row column v here.one
