-- The numbers of positions in a matrix, row by row.
use Rattle.std.proofs.Common.{◌≡◌, ◌≢◌, ◌<◌, ◌+◌, ◌*◌, ◌/◌, ◌%◌, ◌&&◌, ◌∙◌, inl, inr, ℕ, zero, suc, Bool, true, false, nat_eq, refl, ap, ap₂, sym, arith}
use Rattle.std.proofs.Math.Nat.{div-add-mod, mod-lt, mul-zero, mul_comm}
use Rattle.std.proofs.lemmas.Bool.{cases_eq}
use Rattle.cmr_base.proofs.Booleans.{eq_of, eq_test, is_ne}
use Rattle.matrix_text.proofs.Places.{same_place}

-- the numbers are equal if and only if the positions are
pub same_numbers : (width at_row at_column row column : ℕ) → at_column < width → column < width
    → nat_eq (at_row * width + at_column) (row * width + column) ≡ (nat_eq at_row row && nat_eq at_column column)
same_numbers width at_row at_column row column at_within within = elim (cases_eq (at_row * width + at_column) (row * width + column)) [
  | inl e ↦
      let same = same_place width at_row at_column row column at_within within e in
      (eq_test (at_row * width + at_column) (row * width + column)).1 e ∙ sym (ap₂ (λ (r c : Bool). r && c) ((eq_test at_row row).1 same.0) ((eq_test at_column column).1 same.1))
  | inr differ ↦ is_ne (at_row * width + at_column) (row * width + column) differ ∙ sym (go (nat_eq at_row row) (nat_eq at_column column) refl refl differ)
]
  where
    go : (r c : Bool) → nat_eq at_row row ≡ r → nat_eq at_column column ≡ c → at_row * width + at_column ≢ row * width + column → (r && c) ≡ false
    go false c row_is column_is differ = refl
    go true false row_is column_is differ = refl
    go true true row_is column_is differ = absurd (differ (ap₂ (λ (r c : ℕ). r * width + c) (eq_of at_row row row_is) (eq_of at_column column column_is)))

-- the position with a number
pub place_of : (height width place : ℕ) → place < height * width → (place % width < width) × (place / width * width + place % width ≡ place)
place_of height zero place l = absurd (omega (arith, l, mul-zero height))
place_of height (suc width) place l = (
  mod-lt place (omega arith),
  ap (λ (start : ℕ). start + place % suc width) (mul_comm (place / suc width) (suc width)) ∙ div-add-mod place (suc width),
)
