-- A matrix has one cycle fault at most.
use Rattle.std.proofs.Common.{◌≡◌, ◌∙◌, inl, inr, ℕ, ℤ, List, ap, sym, subst}
use Rattle.cmr_base.specs.Matrix.{Matrix, entry}
use Rattle.cmr_base.specs.Members.{IsIn}
use Rattle.cmr_base.specs.CyclePlaces.{IsCyclePlace, IsEarlierPlace, IsCycleFault, cycle_rows, cycle_columns}
use Rattle.cmr_base.proofs.Booleans.{neither}
use Rattle.camion_sign.proofs.FirstFaults.{place_unique}
use Rattle.separating_places.proofs.SameSets.{same_numbers}

-- places of which neither is earlier
same_place : (t c d t' c' d' : ℕ) → ¬ (IsEarlierPlace t c d t' c' d') → ¬ (IsEarlierPlace t' c' d' t c d) → (t ≡ t') × (c ≡ c') × (d ≡ d')
same_place t c d t' c' d' before after =
    let row = neither t t' (λ l. before (inl l)) (λ l. after (inl l)) in
    let first = neither c c' (λ l. before (inr (row, inl l))) (λ l. after (inr (sym row, inl l))) in
    let last = neither d d' (λ l. before (inr (row, inr (first, l)))) (λ l. after (inr (sym row, inr (sym first, l)))) in
    (row, first, last)

same_path : (M : ℕ → ℕ → ℤ) (t c d t' c' d' : ℕ) (p q : List ℕ) → t ≡ t' → c ≡ c' → d ≡ d' → IsCyclePlace M t c d p → IsCyclePlace M t' c' d' q → p ≡ q
same_path M t c d t' c' d' p q row first last place place' =
    place_unique M t' c' d' p q
    (subst (λ (x : ℕ). IsCyclePlace M t' c' x p) last (subst (λ (x : ℕ). IsCyclePlace M t' x d p) first (subst (λ (x : ℕ). IsCyclePlace M x c d p) row place)))
    place'

pub one_cycle_fault : (m : Matrix) (rows columns rows' columns' : List ℕ) → IsCycleFault m rows columns → IsCycleFault m rows' columns' → (rows ≡ rows') × (columns ≡ columns')
one_cycle_fault m rows columns rows' columns' f g = (
  same_numbers rows rows' f.row_set.increasing g.row_set.increasing
      (λ x h. (g.rows_are x).1 (subst (IsIn x) cycle_row (((f.rows_are x).0) h)))
      (λ x h. (f.rows_are x).1 (subst (IsIn x) (sym cycle_row) (((g.rows_are x).0) h))),
  same_numbers columns columns' f.column_set.increasing g.column_set.increasing
      (λ x h. (g.columns_are x).1 (subst (IsIn x) cycle_column (((f.columns_are x).0) h)))
      (λ x h. (f.columns_are x).1 (subst (IsIn x) (sym cycle_column) (((g.columns_are x).0) h))),
)
  where
    place : (f.row ≡ g.row) × (f.first_column ≡ g.first_column) × (f.last_column ≡ g.last_column)
    place = same_place f.row f.first_column f.last_column g.row g.first_column g.last_column
        (g.first f.row f.first_column f.last_column f.path f.fault) (f.first g.row g.first_column g.last_column g.path g.fault)

    path : f.path ≡ g.path
    path = same_path (entry m) f.row f.first_column f.last_column g.row g.first_column g.last_column f.path g.path place.0 place.1 place.2 f.fault.place g.fault.place

    cycle_row : cycle_rows f.row f.path ≡ cycle_rows g.row g.path
    cycle_row = ap (λ (t : ℕ). cycle_rows t f.path) place.0 ∙ ap (cycle_rows g.row) path

    cycle_column : cycle_columns f.first_column f.last_column f.path ≡ cycle_columns g.first_column g.last_column g.path
    cycle_column =
        ap (λ (c : ℕ). cycle_columns c f.last_column f.path) place.1
        ∙ ap (λ (d : ℕ). cycle_columns g.first_column d f.path) place.2
        ∙ ap (cycle_columns g.first_column g.last_column) path
