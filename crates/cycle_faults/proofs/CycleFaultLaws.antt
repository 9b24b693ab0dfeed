-- The cycle fault is a minimal violator.
use Rattle.std.proofs.Common.{◌≡◌, ◌<◌, ◌⊎◌, inl, inr, ◌∙◌, ℕ, zero, suc, ℤ, ◌+ℤ◌, List, ◌∷◌, map, Contains, refl, ap, sym, subst, arith}
use Rattle.std.proofs.lemmas.Bool.{cases_lt}
use Rattle.std.specs.List.{AllByRecursion}
use Rattle.cmr_base.specs.Matrix.{Matrix, height, entry, IsTernary}
use Rattle.cmr_base.specs.CyclePlaces.{IsCycleFault, cycle_rows, cycle_columns}
use Rattle.cmr_base.specs.Members.{IsIn, IsDistinct}
use Rattle.cmr_base.specs.Sums.{sum_over, IsTwoModFour}
use Rattle.cmr_base.specs.Violator.{IsViolator}
use Rattle.cmr_base.proofs.IncreasingLists.{IncreasesIn, row_set_increases, column_set_increases}
use Rattle.cmr_base.proofs.ListsWithout.{in_from_contains, contains_from_in}
use Rattle.cmr_base.proofs.Members.{IsWithin, all_in, all_of_members, increasing_are_distinct, sum_over_members}
use Rattle.cmr_base.proofs.SumLaws.{sum_over-map}
use Rattle.ghouila.proofs.Cycles.{IsCycle, below, cycle_violates}
use Rattle.ghouila.proofs.Routes.{Route, route, place_cycle, sum_by_places, rows_apart, columns_apart}
use Rattle.camion_sign.proofs.FaultViolator.{violator_members}
use Rattle.determinant_two.specs.MinimalViolators.{IsViolatorOn, IsMinimalViolator}
use Rattle.determinant_two.proofs.MinimalViolators.{minimal_violators_are_square, minimal_violators_have_determinant_two}
use Rattle.determinant_two.proofs.SearchedSublists.{sublist_of_members, sublist_short, sublist_same}
use Rattle.cycle_faults.specs.CycleFaultLaws.{CycleFaultsAreMinimalViolators, CycleFaultsHaveDeterminantTwo}
use Rattle.cycle_faults.proofs.PartsOfCycles.{last_row_in, rows_in, columns_in}

in_image : (g : ℕ → ℕ) (n i : ℕ) → i < n → IsIn (g i) (map g (below n))
in_image g zero i l = absurd (omega arith)
in_image g (suc n) i l = elim (cases_lt i n) [
  | inl before ↦ inr (in_image g n i before)
  | inr last ↦ inl (let same : i ≡ n = omega arith in ap g same)
]

-- increasing lists of the same numbers
same_members : (high : ℕ) (part lines : List ℕ) → IncreasesIn 0 high part → IncreasesIn 0 high lines → AllByRecursion (Contains lines) part → IsWithin lines part → part ≡ lines
same_members high part lines part_increases increases among within = sublist_same lines part
    (sublist_of_members 0 high lines part increases part_increases among)
    (sublist_short part lines (sublist_of_members 0 high part lines part_increases increases (all_of_members (Contains part) lines (λ x h. contains_from_in part x (within x h)))))

module _ (m : Matrix) (is : IsTernary m) (R C : List ℕ) (f : IsCycleFault m R C) where
  the_route : Route (entry m) is.small f.row f.first_column f.last_column f.path
  the_route = route (entry m) is.small f.row f.first_column f.last_column f.path f.fault.place.is_path

  the_cycle : IsCycle (entry m) f.row the_route.k the_route.way.row the_route.way.col
  the_cycle = place_cycle (entry m) is.small f.row f.first_column f.last_column f.path f.fault.place the_route

  abbrev placed_rows : List ℕ
  placed_rows = f.row ∷ map the_route.way.row (below the_route.k)

  abbrev placed_columns : List ℕ
  placed_columns = map the_route.way.col (below (suc the_route.k))

  -- a property of the lines by positions
  each_row : (Holds : ℕ → Type 0) → Holds f.row → ((i : ℕ) → i < the_route.k → Holds (the_route.way.row i)) → (row : ℕ) → IsIn row R → Holds row
  each_row Holds last inner row h = all_in Holds (cycle_rows f.row f.path) (last, the_route.rows_all Holds inner) row ((f.rows_are row).0 h)

  each_column : (Holds : ℕ → Type 0) → ((j : ℕ) → j < suc the_route.k → Holds (the_route.way.col j)) → (column : ℕ) → IsIn column C → Holds column
  each_column Holds inner column h = all_in Holds (cycle_columns f.first_column f.last_column f.path) (the_route.columns_all Holds inner) column ((f.columns_are column).0 h)

  row_sums : (g : ℕ → ℤ) → sum_over R g ≡ sum_over placed_rows g
  row_sums g =
      sum_over_members R (cycle_rows f.row f.path) g (increasing_are_distinct 0 (height m) R (row_set_increases m R f.row_set))
      (rows_apart (entry m) is.small f.row f.first_column f.last_column f.path f.fault.place the_route) (λ i. (f.rows_are i).0) (λ i. (f.rows_are i).1)
      ∙ ap (λ (z : ℤ). g f.row +ℤ z) (the_route.rows_are g ∙ sym (sum_over-map the_route.way.row (below the_route.k) g))

  column_sums : (g : ℕ → ℤ) → sum_over C g ≡ sum_over placed_columns g
  column_sums g =
      sum_over_members C (cycle_columns f.first_column f.last_column f.path) g (increasing_are_distinct 0 m.width C (column_set_increases m C f.column_set))
      (columns_apart (entry m) is.small f.row f.first_column f.last_column f.path f.fault.place the_route) (λ j. (f.columns_are j).0) (λ j. (f.columns_are j).1)
      ∙ the_route.columns_are g ∙ sym (sum_over-map the_route.way.col (below (suc the_route.k)) g)

  fault_violates : IsViolator (entry m) R C
  fault_violates = violator_members (entry m) placed_rows placed_columns R C row_sums column_sums
      (each_row (λ row. IsIn row placed_rows) (inl refl) (λ i l. inr (in_image the_route.way.row the_route.k i l)))
      (each_column (λ column. IsIn column placed_columns) (in_image the_route.way.col (suc the_route.k)))
      (cycle_violates (entry m) f.row the_route.k the_route.way.row the_route.way.col the_cycle
      (subst IsTwoModFour (sum_by_places (entry m) is.small f.row f.first_column f.last_column f.path the_route (entry m)) f.fault.two_mod_four))

  module _ (P Q : List ℕ) (part : IsViolatorOn m R C P Q) where
    rows_from : (i : ℕ) → IsIn i P → (i ≡ f.row) ⊎ ((n : ℕ) × (n < the_route.k) × (i ≡ the_route.way.row n))
    rows_from i h = each_row (λ row. (row ≡ f.row) ⊎ ((n : ℕ) × (n < the_route.k) × (row ≡ the_route.way.row n))) (inl refl) (λ n l. inr (n, l, refl)) i
        (in_from_contains R i (all_in (Contains R) P part.rows_among i h))

    columns_from : (j : ℕ) → IsIn j Q → (n : ℕ) × (n < suc the_route.k) × (j ≡ the_route.way.col n)
    columns_from j h = each_column (λ column. (n : ℕ) × (n < suc the_route.k) × (column ≡ the_route.way.col n)) (λ n l. (n, l, refl)) j
        (in_from_contains C j (all_in (Contains C) Q part.columns_among j h))

    distinct_rows : IsDistinct P
    distinct_rows = increasing_are_distinct 0 (height m) P (row_set_increases m P part.row_set)

    distinct_columns : IsDistinct Q
    distinct_columns = increasing_are_distinct 0 m.width Q (column_set_increases m Q part.column_set)

    all_rows : IsWithin R P
    all_rows = each_row (λ row. IsIn row P)
        (last_row_in (entry m) f.row the_route.k the_route.way.row the_route.way.col the_cycle P Q distinct_rows distinct_columns rows_from columns_from part.violator)
        (rows_in (entry m) f.row the_route.k the_route.way.row the_route.way.col the_cycle P Q distinct_rows distinct_columns rows_from columns_from part.violator)

    all_columns : IsWithin C Q
    all_columns = each_column (λ column. IsIn column Q)
        (columns_in (entry m) f.row the_route.k the_route.way.row the_route.way.col the_cycle P Q distinct_rows distinct_columns rows_from columns_from part.violator)

    same_lines : (P ≡ R) × (Q ≡ C)
    same_lines = (
      same_members (height m) P R (row_set_increases m P part.row_set) (row_set_increases m R f.row_set) part.rows_among all_rows,
      same_members m.width Q C (column_set_increases m Q part.column_set) (column_set_increases m C f.column_set) part.columns_among all_columns,
    )

pub cycle_faults_are_minimal_violators : CycleFaultsAreMinimalViolators
cycle_faults_are_minimal_violators m rows columns is f = record {
  row_set = f.row_set;
  column_set = f.column_set;
  violator = fault_violates m is rows columns f;
  minimal = same_lines m is rows columns f;
}

pub cycle_faults_have_determinant_two : CycleFaultsHaveDeterminantTwo
cycle_faults_have_determinant_two m rows columns is f =
    let minimal = cycle_faults_are_minimal_violators m rows columns is f in
    (minimal_violators_are_square m rows columns is minimal, minimal_violators_have_determinant_two m rows columns is minimal)
