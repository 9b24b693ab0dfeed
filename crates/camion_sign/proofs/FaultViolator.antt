-- The cycle fault is a violator.
use Rattle.std.proofs.Common.{◌≡◌, ◌∙◌, ℕ, suc, ℤ, ◌+ℤ◌, List, ◌∷◌, map, sym, ap, subst}
use Rattle.cmr_base.specs.Matrix.{Matrix, height, entry, IsMatrix}
use Rattle.cmr_base.specs.CyclePlaces.{IsFaultAt, IsCycleFault, cycle_rows, cycle_columns}
use Rattle.cmr_base.specs.Sums.{sum_over, IsEven, IsTwoModFour}
use Rattle.cmr_base.specs.Violator.{IsViolator}
use Rattle.cmr_base.proofs.Lists.{all_of}
use Rattle.cmr_base.proofs.Members.{IsWithin, all_in, all_of_members, increasing_are_distinct, sum_over_members}
use Rattle.cmr_base.proofs.IncreasingLists.{row_set_increases, column_set_increases}
use Rattle.cmr_base.proofs.SumLaws.{sum_over-map, sum_over_same}
use Rattle.ghouila.proofs.Cycles.{below, cycle_violates, inner_row, column_even}
use Rattle.ghouila.proofs.Routes.{Route, route, place_cycle, sum_by_places, rows_apart, columns_apart}

-- a violator over lists of the same lines
pub violator_members : (M : ℕ → ℕ → ℤ) (R C A B : List ℕ) → ((f : ℕ → ℤ) → sum_over A f ≡ sum_over R f) → ((f : ℕ → ℤ) → sum_over B f ≡ sum_over C f)
    → IsWithin A R → IsWithin B C → IsViolator M R C → IsViolator M A B
violator_members M R C A B rows columns a b v = record {
  even_rows = all_of_members (λ i. IsEven (sum_over B (λ j. M i j))) A (λ i h. subst IsEven (sym (columns (λ j. M i j))) (all_in (λ x. IsEven (sum_over C (λ j. M x j))) R v.even_rows i (a i h)));
  even_columns = all_of_members (λ j. IsEven (sum_over A (λ i. M i j))) B (λ j h. subst IsEven (sym (rows (λ i. M i j))) (all_in (λ x. IsEven (sum_over R (λ i. M i x))) C v.even_columns j (b j h)));
  two_mod_four = subst IsTwoModFour (sym (rows (λ i. sum_over B (λ j. M i j)) ∙ sum_over_same R (λ i. sum_over B (λ j. M i j)) (λ i. sum_over C (λ j. M i j)) (all_of _ (λ i. columns (λ j. M i j)) R))) v.two_mod_four;
}

-- the cycle of a fault is a violator
cycle_is_violator : (m : Matrix) → IsMatrix m → (t c d : ℕ) (path : List ℕ) → IsFaultAt (entry m) t c d path → IsViolator (entry m) (cycle_rows t path) (cycle_columns c d path)
cycle_is_violator m is t c d path f = go (route (entry m) is.small t c d path f.place.is_path)
  where
    go : Route (entry m) is.small t c d path → IsViolator (entry m) (cycle_rows t path) (cycle_columns c d path)
    go q =
        let cycle = place_cycle (entry m) is.small t c d path f.place q in
        let v = cycle_violates (entry m) t q.k q.way.row q.way.col cycle (subst IsTwoModFour (sum_by_places (entry m) is.small t c d path q (entry m)) f.two_mod_four) in
        record {
          even_rows = (
            subst IsEven (sym (row t)) v.even_rows.0,
            q.rows_all (λ i. IsEven (sum_over (cycle_columns c d path) (entry m i))) (λ i l. subst IsEven (sym (row (q.way.row i))) (inner_row (entry m) t q.k q.way.row q.way.col cycle i l)),
          );
          even_columns = q.columns_all (λ j. IsEven (sum_over (cycle_rows t path) (λ i. entry m i j))) (λ j l. subst IsEven (sym (column (q.way.col j))) (column_even (entry m) t q.k q.way.row q.way.col cycle j l));
          two_mod_four = f.two_mod_four;
        }
      where
        row : (i : ℕ) → sum_over (cycle_columns c d path) (entry m i) ≡ sum_over (map q.way.col (below (suc q.k))) (entry m i)
        row i = q.columns_are (entry m i) ∙ sym (sum_over-map q.way.col (below (suc q.k)) (entry m i))

        column : (j : ℕ) → sum_over (cycle_rows t path) (λ i. entry m i j) ≡ sum_over (t ∷ map q.way.row (below q.k)) (λ i. entry m i j)
        column j = ap (λ (z : ℤ). entry m t j +ℤ z) (q.rows_are (λ i. entry m i j) ∙ sym (sum_over-map q.way.row (below q.k) (λ i. entry m i j)))

-- the cycle fault is a violator
pub cycle_fault_violator : (m : Matrix) → IsMatrix m → (R C : List ℕ) → IsCycleFault m R C → IsViolator (entry m) R C
cycle_fault_violator m is R C f = go (route (entry m) is.small f.row f.first_column f.last_column f.path f.fault.place.is_path)
  where
    go : Route (entry m) is.small f.row f.first_column f.last_column f.path → IsViolator (entry m) R C
    go q = violator_members (entry m) (cycle_rows f.row f.path) (cycle_columns f.first_column f.last_column f.path) R C
        (λ g. sum_over_members R (cycle_rows f.row f.path) g (increasing_are_distinct 0 (height m) R (row_set_increases m R f.row_set)) (rows_apart (entry m) is.small f.row f.first_column f.last_column f.path f.fault.place q) (λ i. (f.rows_are i).0) (λ i. (f.rows_are i).1))
        (λ g. sum_over_members C (cycle_columns f.first_column f.last_column f.path) g (increasing_are_distinct 0 m.width C (column_set_increases m C f.column_set)) (columns_apart (entry m) is.small f.row f.first_column f.last_column f.path f.fault.place q) (λ j. (f.columns_are j).0) (λ j. (f.columns_are j).1))
        (λ i. (f.rows_are i).0) (λ j. (f.columns_are j).0)
        (cycle_is_violator m is f.row f.first_column f.last_column f.path f.fault)
