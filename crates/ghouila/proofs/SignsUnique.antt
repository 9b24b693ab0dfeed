-- Violators under signs of lines, and matrices without violators.
use Rattle.std.proofs.Common.{◌≡◌, ◌≢◌, ◌<◌, ◌≤◌, get_or, inl, inr, ℕ, zero, suc, ℤ, pos, ◌*ℤ◌, List, [], ◌∷◌, map, length, sym, subst, arith, refl}
use Rattle.std.specs.List.{AllByRecursion}
use Rattle.std.proofs.lemmas.Bool.{cases_lt}
use Rattle.cmr_base.specs.Matrix.{Matrix, height, row_of, entry, HasTernaryEntries, IsRectangular}
use Rattle.cmr_base.specs.Signing.{IsSign}
use Rattle.cmr_base.specs.Supports.{HaveOneSupport, AgreeUpToSigns}
use Rattle.cmr_base.specs.CyclePlaces.{HasNoCycleFault}
use Rattle.cmr_base.specs.Sums.{sum_over, IsEven, IsTwoModFour}
use Rattle.cmr_base.specs.Violator.{IsViolator, HasNoViolator}
use Rattle.cmr_base.proofs.Parity.{even-mul_right, even_by_difference, two_mod_four_by_difference}
use Rattle.cmr_base.proofs.SumLaws.{sum_over-scale, sum_over_same}
use Rattle.cmr_base.proofs.Lists.{all_of, all_weaker}
use Rattle.cmr_base.proofs.IncreasingLists.{increasing_row_set, increasing_column_set, odd_times, increases-odd_times}
use Rattle.cmr_base.proofs.ViolatorLemmas.{violator-odd_times, violator-transposed}
use Rattle.ghouila.proofs.SignedSums.{even_change-signed}
use Rattle.ghouila.proofs.SignProducts.{sign_nonzero}
use Rattle.ghouila.proofs.Ratios.{four_change-columns}
use Rattle.ghouila.proofs.Cycles.{below, all-map, cycle_violates}
use Rattle.ghouila.proofs.Routes.{Route, route, place_cycle, sum_by_places}
use Rattle.ghouila.proofs.SignsAgree.{signs_agree}

violator_signed : (M : ℕ → ℕ → ℤ) (s : ℕ → ℤ) (rows columns : List ℕ) → ((j : ℕ) → IsSign (s j)) → IsViolator M rows columns → IsViolator (λ i j. s j *ℤ M i j) rows columns
violator_signed M s rows columns signs v = record {
  even_rows = all_weaker (λ i. IsEven (sum_over columns (λ j. M i j))) (λ i. IsEven (sum_over columns (λ j. s j *ℤ M i j)))
      (λ i even. even_by_difference (sum_over columns (λ j. M i j)) (sum_over columns (λ j. s j *ℤ M i j)) (even_change-signed s columns (λ j. M i j) (all_of _ signs columns)) even) rows v.even_rows;
  even_columns = all_weaker (λ j. IsEven (sum_over rows (λ i. M i j))) (λ j. IsEven (sum_over rows (λ i. s j *ℤ M i j)))
      (λ j even. subst IsEven (sym (sum_over-scale rows (s j) (λ i. M i j))) (even-mul_right (s j) (sum_over rows (λ i. M i j)) even)) columns v.even_columns;
  two_mod_four = two_mod_four_by_difference (sum_over rows (λ i. sum_over columns (λ j. M i j))) (sum_over rows (λ i. sum_over columns (λ j. s j *ℤ M i j)))
      (four_change-columns M s rows columns signs v.even_columns) v.two_mod_four;
}

violator_same : (M N : ℕ → ℕ → ℤ) (rows columns : List ℕ) → ((i j : ℕ) → M i j ≡ N i j) → IsViolator M rows columns → IsViolator N rows columns
violator_same M N rows columns same v = record {
  even_rows = all_weaker (λ i. IsEven (sum_over columns (λ j. M i j))) (λ i. IsEven (sum_over columns (λ j. N i j))) (λ i even. subst IsEven (row i) even) rows v.even_rows;
  even_columns = all_weaker (λ j. IsEven (sum_over rows (λ i. M i j))) (λ j. IsEven (sum_over rows (λ i. N i j)))
      (λ j even. subst IsEven (sum_over_same rows (λ i. M i j) (λ i. N i j) (all_of _ (λ i. same i j) rows)) even) columns v.even_columns;
  two_mod_four = subst IsTwoModFour (sum_over_same rows (λ i. sum_over columns (λ j. M i j)) (λ i. sum_over columns (λ j. N i j)) (all_of _ row rows)) v.two_mod_four;
}
  where
    row : (i : ℕ) → sum_over columns (λ j. M i j) ≡ sum_over columns (λ j. N i j)
    row i = sum_over_same columns (λ j. M i j) (λ j. N i j) (all_of _ (λ j. same i j) columns)

-- the lines of a violator are a violator after lines are multiplied by -1
pub violator_up_to_signs : (M N : ℕ → ℕ → ℤ) (rows columns : List ℕ) → AgreeUpToSigns M N → IsViolator M rows columns → IsViolator N rows columns
violator_up_to_signs M N rows columns w v = violator_same (λ i j. w.row_sign i *ℤ (w.column_sign j *ℤ M i j)) N rows columns (λ i j. sym (w.entries i j))
    (violator-transposed (λ j i. w.row_sign i *ℤ (w.column_sign j *ℤ M i j)) columns rows
    (violator_signed (λ j i. w.column_sign j *ℤ M i j) w.row_sign columns rows w.row_signs
    (violator-transposed (λ i j. w.column_sign j *ℤ M i j) rows columns (violator_signed M w.column_sign rows columns w.column_signs v))))

-- ---- nonzeros are within the sizes

pub row_in : (m : Matrix) (row column : ℕ) → entry m row column ≢ pos 0 → row < height m
row_in m row column h = elim (cases_lt row (height m)) [
  | inl lt ↦ lt
  | inr ge ↦ absurd (h (beyond m.rows row ge))
]
  where
    beyond : (rows : List (List ℤ)) (row : ℕ) → length rows ≤ row → get_or (get_or rows row []) column (pos 0) ≡ pos 0
    beyond [] row ge = refl
    beyond (r ∷ rows) zero ge = absurd (omega arith)
    beyond (r ∷ rows) (suc row) ge = beyond rows row (omega arith)

pub column_in : (m : Matrix) (row column : ℕ) → IsRectangular m → entry m row column ≢ pos 0 → column < m.width
column_in m row column rectangular h = elim (cases_lt column m.width) [
  | inl lt ↦ lt
  | inr ge ↦ absurd (h (beyond (row_of m row) column (let e = rectangular row (row_in m row column h) in omega arith)))
]
  where
    beyond : (xs : List ℤ) (column : ℕ) → length xs ≤ column → get_or xs column (pos 0) ≡ pos 0
    beyond [] column ge = refl
    beyond (x ∷ xs) zero ge = absurd (omega arith)
    beyond (x ∷ xs) (suc column) ge = beyond xs column (omega arith)

-- ---- without violators there is no cycle fault

pub no_violator_no_fault : (m : Matrix) → IsRectangular m → HasTernaryEntries m → HasNoViolator m → HasNoCycleFault (entry m)
no_violator_no_fault m rectangular small free t c d path f = go (route (entry m) small t c d path f.place.is_path)
  where
    go : Route (entry m) small t c d path → ⊥
    go q = free (odd_times rows) (odd_times columns)
        (increasing_row_set m (odd_times rows) (increases-odd_times (height m) rows rows_in))
        (increasing_column_set m (odd_times columns) (increases-odd_times m.width columns columns_in))
        (violator-odd_times (entry m) rows columns
        (cycle_violates (entry m) t q.k q.way.row q.way.col (place_cycle (entry m) small t c d path f.place q) (subst IsTwoModFour (sum_by_places (entry m) small t c d path q (entry m)) f.two_mod_four)))
      where
        rows : List ℕ
        rows = t ∷ map q.way.row (below q.k)

        columns : List ℕ
        columns = map q.way.col (below (suc q.k))

        rows_in : AllByRecursion (λ i. i < height m) (t ∷ map q.way.row (below q.k))
        rows_in = (
          row_in m t c f.place.first,
          all-map (λ i. i < height m) q.way.row q.k (λ i l. row_in m (q.way.row i) (q.way.col i) (sign_nonzero (entry m (q.way.row i) (q.way.col i)) (q.way.here i l))),
        )

        last_in : q.way.col q.k < m.width
        last_in = subst (λ j. j < m.width) (sym q.way.ends) (column_in m t d rectangular f.place.last)

        column_at : (j : ℕ) → j < suc q.k → q.way.col j < m.width
        column_at j l = elim (cases_lt j q.k) [
          | inl lt ↦ column_in m (q.way.row j) (q.way.col j) rectangular (sign_nonzero (entry m (q.way.row j) (q.way.col j)) (q.way.here j lt))
          | inr ge ↦ let e : q.k ≡ j = omega arith in subst (λ k. q.way.col k < m.width) e last_in
        ]

        columns_in : AllByRecursion (λ j. j < m.width) (map q.way.col (below (suc q.k)))
        columns_in = all-map (λ j. j < m.width) q.way.col (suc q.k) column_at

-- ---- the laws

fault_free_agree : (m n : Matrix) → IsRectangular m → HasTernaryEntries m → HasTernaryEntries n → HaveOneSupport m n → HasNoCycleFault (entry m)
    → HasNoCycleFault (entry n) → AgreeUpToSigns (entry m) (entry n)
fault_free_agree m n rectangular small_m small_n support clean_m clean_n =
    signs_agree (entry m) (entry n) small_m small_n support.zeros_same clean_m clean_n (height m) m.width (λ i j h. (row_in m i j h, column_in m i j rectangular h))

pub signs_are_unique : (m n : Matrix) → IsRectangular m → IsRectangular n → HasTernaryEntries m → HasTernaryEntries n → HaveOneSupport m n → HasNoViolator m
    → HasNoViolator n → AgreeUpToSigns (entry m) (entry n)
signs_are_unique m n rectangular_m rectangular_n small_m small_n support free_m free_n =
    fault_free_agree m n rectangular_m small_m small_n support (no_violator_no_fault m rectangular_m small_m free_m) (no_violator_no_fault n rectangular_n small_n free_n)

pub fault_free_has_no_violator : (m n : Matrix) → IsRectangular m → IsRectangular n → HasTernaryEntries m → HasTernaryEntries n → HaveOneSupport m n
    → HasNoCycleFault (entry m) → HasNoViolator n → HasNoViolator m
fault_free_has_no_violator m n rectangular_m rectangular_n small_m small_n support clean free rows columns row_set column_set v =
    free rows columns
    (record { increasing = row_set.increasing; in_range = λ k h. let l = row_set.in_range k h in let e = support.height_same in omega arith })
    (record { increasing = column_set.increasing; in_range = λ k h. let l = column_set.in_range k h in let e = support.width_same in omega arith })
    (violator_up_to_signs (entry m) (entry n) rows columns (fault_free_agree m n rectangular_m small_m small_n support clean (no_violator_no_fault n rectangular_n small_n free)) v)
