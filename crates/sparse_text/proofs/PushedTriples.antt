-- The names and the values of triples with one more triple.
use Rattle.std.proofs.Common.{◌≡◌, ◌||◌, ◌++◌, ◌∙◌, inl, inr, ℕ, Bool, true, false, nat_eq, if◌then◌else◌, List, [], ◌∷◌, refl, ap, ap₂, sym, subst}
use Rattle.std.proofs.lemmas.List.Folds.{list_any-append}
use Rattle.cmr_base.proofs.Booleans.{and_is, eq_of, two_cases}
use Rattle.matrix_text.specs.Sparse.{Triple, names, is_place_named, value_at}
use Rattle.matrix_text.proofs.Places.{value_new, value_other}

pub value_pushed : (triples : List Triple) (t : Triple) (row column : ℕ) → is_place_named triples t.row t.column ≡ false
    → value_at (triples ++ t ∷ []) row column ≡ (if names row column t then t.value else value_at triples row column)
value_pushed triples t row column new = elim (two_cases (names row column t)) [
  | inl here ↦ value_new triples t row column (subst (λ (place : ℕ × ℕ). is_place_named triples place.0 place.1 ≡ false) (place_of here) new) here
      ∙ ap (λ (b : Bool). if b then t.value else value_at triples row column) (sym here)
  | inr other ↦ value_other triples t row column other ∙ ap (λ (b : Bool). if b then t.value else value_at triples row column) (sym other)
]
  where
    place_of : names row column t ≡ true → ◌≡◌ {A = ℕ × ℕ} (t.row, t.column) (row, column)
    place_of here = let both = and_is (nat_eq t.row row) (nat_eq t.column column) here in ap₂ (λ (r c : ℕ). (r, c)) (eq_of t.row row both.0) (eq_of t.column column both.1)

pub mark_pushed : (triples : List Triple) (t : Triple) (row column : ℕ) → is_place_named (triples ++ t ∷ []) row column ≡ (names row column t || is_place_named triples row column)
mark_pushed triples t row column = list_any-append (names row column) triples (t ∷ []) ∙ swapped (is_place_named triples row column) (names row column t)
  where
    swapped : (a b : Bool) → (a || (b || false)) ≡ (b || a)
    swapped true true = refl
    swapped true false = refl
    swapped false true = refl
    swapped false false = refl
