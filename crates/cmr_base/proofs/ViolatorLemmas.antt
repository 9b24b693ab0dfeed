-- Violators over lists in which lines may occur more than once.
use Rattle.std.proofs.Common.{◌≡◌, ◌∙◌, ℕ, ℤ, List, [], ◌∷◌, map, sym, subst}
use Rattle.std.specs.List.{AllByRecursion}
use Rattle.cmr_base.specs.Sums.{sum_over, IsEven, IsTwoModFour}
use Rattle.cmr_base.specs.Violator.{IsViolator}
use Rattle.cmr_base.proofs.SumLaws.{sum_over-exchange, sum_over_same, sum_over-map}
use Rattle.cmr_base.proofs.Parity.{even_by_difference, two_mod_four_by_difference}
use Rattle.cmr_base.proofs.IncreasingLists.{odd_times, all-odd_times, even_change-odd_times, four_change-odd_times}
use Rattle.cmr_base.proofs.Lists.{HasOneMore, all-map, all_weaker, all_both, all-one_more, all_without, item_of_one_more, sum_over-one_more}

-- rows and columns are exchanged
pub violator-transposed : (M : ℕ → ℕ → ℤ) (rows columns : List ℕ) → IsViolator M rows columns → IsViolator (λ column row. M row column) columns rows
violator-transposed M rows columns v = record {
  even_rows = v.even_columns;
  even_columns = v.even_rows;
  two_mod_four = subst IsTwoModFour (sum_over-exchange rows columns M) v.two_mod_four;
}

rows_once : (M : ℕ → ℕ → ℤ) (rows columns : List ℕ) → IsViolator M rows columns → IsViolator M (odd_times rows) columns
rows_once M rows columns v = record {
  even_rows = all-odd_times (λ row. IsEven (sum_over columns (M row))) rows v.even_rows;
  even_columns = all_weaker (λ column. IsEven (sum_over rows (λ row. M row column))) (λ column. IsEven (sum_over (odd_times rows) (λ row. M row column)))
      (λ column even. even_by_difference (sum_over rows (λ row. M row column)) (sum_over (odd_times rows) (λ row. M row column)) (even_change-odd_times rows (λ row. M row column)) even)
      columns v.even_columns;
  two_mod_four = two_mod_four_by_difference (sum_over rows (λ row. sum_over columns (M row))) (sum_over (odd_times rows) (λ row. sum_over columns (M row)))
      (four_change-odd_times rows (λ row. sum_over columns (M row)) v.even_rows) v.two_mod_four;
}

-- over increasing lists, with the lines that occur an odd number of times
pub violator-odd_times : (M : ℕ → ℕ → ℤ) (rows columns : List ℕ) → IsViolator M rows columns → IsViolator M (odd_times rows) (odd_times columns)
violator-odd_times M rows columns v =
    violator-transposed (λ column row. M row column) (odd_times columns) (odd_times rows)
    (rows_once (λ column row. M row column) columns (odd_times rows) (violator-transposed M (odd_times rows) columns (rows_once M rows columns v)))

-- violators of matrices that are equal on these lines
pub violator_same : (M N : ℕ → ℕ → ℤ) (rows columns : List ℕ) → AllByRecursion (λ row. AllByRecursion (λ column. M row column ≡ N row column) columns) rows
    → IsViolator M rows columns → IsViolator N rows columns
violator_same M N rows columns same v =
    let row_sums : AllByRecursion (λ row. sum_over columns (M row) ≡ sum_over columns (N row)) rows =
    all_weaker (λ row. AllByRecursion (λ column. M row column ≡ N row column) columns) (λ row. sum_over columns (M row) ≡ sum_over columns (N row)) (λ row. sum_over_same columns (M row) (N row)) rows same in
    record {
      even_rows = all_both (λ row. sum_over columns (M row) ≡ sum_over columns (N row)) (λ row. IsEven (sum_over columns (M row))) (λ row. IsEven (sum_over columns (N row))) (λ row e even. subst IsEven e even) rows row_sums v.even_rows;
      even_columns = all_both (λ column. AllByRecursion (λ row. M row column ≡ N row column) rows) (λ column. IsEven (sum_over rows (λ row. M row column))) (λ column. IsEven (sum_over rows (λ row. N row column)))
          (λ column e even. subst IsEven (sum_over_same rows (λ row. M row column) (λ row. N row column) e) even) columns (by_column rows columns same) v.even_columns;
      two_mod_four = subst IsTwoModFour (sum_over_same rows (λ row. sum_over columns (M row)) (λ row. sum_over columns (N row)) row_sums) v.two_mod_four;
    }
  where
    column_at : (columns : List ℕ) → AllByRecursion (λ column. AllByRecursion (λ row. M row column ≡ N row column) []) columns
    column_at [] = tt
    column_at (column ∷ columns) = (tt, column_at columns)

    by_column : (rows columns : List ℕ) → AllByRecursion (λ row. AllByRecursion (λ column. M row column ≡ N row column) columns) rows
        → AllByRecursion (λ column. AllByRecursion (λ row. M row column ≡ N row column) rows) columns
    by_column [] columns h = column_at columns
    by_column (row ∷ rows) columns h = all_both (λ column. M row column ≡ N row column) (λ column. AllByRecursion (λ r. M r column ≡ N r column) rows) (λ column. AllByRecursion (λ r. M r column ≡ N r column) (row ∷ rows))
        (λ column first later. (first, later)) columns h.0 (by_column rows columns h.1)

-- the order of the rows does not matter
pub violator_rows_reordered : (M : ℕ → ℕ → ℤ) (item : ℕ) (fewer rows others columns : List ℕ) → HasOneMore item fewer rows → HasOneMore item fewer others
    → IsViolator M rows columns → IsViolator M others columns
violator_rows_reordered M item fewer rows others columns h k v = record {
  even_rows = all-one_more (λ row. IsEven (sum_over columns (M row))) item fewer others k (item_of_one_more (λ row. IsEven (sum_over columns (M row))) item fewer rows h v.even_rows)
      (all_without (λ row. IsEven (sum_over columns (M row))) item fewer rows h v.even_rows);
  even_columns = all_weaker (λ column. IsEven (sum_over rows (λ row. M row column))) (λ column. IsEven (sum_over others (λ row. M row column))) (λ column. subst IsEven (sums (λ row. M row column))) columns v.even_columns;
  two_mod_four = subst IsTwoModFour (sums (λ row. sum_over columns (M row))) v.two_mod_four;
}
  where
    sums : (f : ℕ → ℤ) → sum_over rows f ≡ sum_over others f
    sums f = sum_over-one_more item fewer rows f h ∙ sym (sum_over-one_more item fewer others f k)

pub violator_columns_reordered : (M : ℕ → ℕ → ℤ) (item : ℕ) (fewer rows columns others : List ℕ) → HasOneMore item fewer columns → HasOneMore item fewer others
    → IsViolator M rows columns → IsViolator M rows others
violator_columns_reordered M item fewer rows columns others h k v =
    violator-transposed (λ column row. M row column) others rows (violator_rows_reordered (λ column row. M row column) item fewer columns others rows h k (violator-transposed M rows columns v))

-- rows are renumbered
pub violator-map : (f : ℕ → ℕ) (M : ℕ → ℕ → ℤ) (rows columns : List ℕ) → IsViolator (λ row. M (f row)) rows columns → IsViolator M (map f rows) columns
violator-map f M rows columns v = record {
  even_rows = all-map (λ row. IsEven (sum_over columns (M row))) f rows v.even_rows;
  even_columns = all_weaker (λ column. IsEven (sum_over rows (λ row. M (f row) column))) (λ column. IsEven (sum_over (map f rows) (λ row. M row column)))
      (λ column. subst IsEven (sym (sum_over-map f rows (λ row. M row column)))) columns v.even_columns;
  two_mod_four = subst IsTwoModFour (sym (sum_over-map f rows (λ row. sum_over columns (M row)))) v.two_mod_four;
}
