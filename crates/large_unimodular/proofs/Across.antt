-- Violators and intervals in the transposed matrix.
use Rattle.std.proofs.Common.{◌≡◌, ◌∙◌, ℕ, ℤ, List, sym, subst}
use Rattle.std.proofs.Math.Path.{fun_ext}
use Rattle.cmr_base.specs.Matrix.{entry}
use Rattle.cmr_base.specs.LineSets.{AllBelow}
use Rattle.cmr_base.specs.Violator.{IsViolator}
use Rattle.cmr_base.proofs.ViolatorLemmas.{violator-transposed}
use Rattle.sparse_matrix.specs.SparseRows.{SparseRows, AreSparseRows, AreCrossed, matrix_of_runs}
use Rattle.sparse_matrix.proofs.Matrices.{matrix_entry}
use Rattle.split_search.specs.Decisions.{AreViolating}
use Rattle.interval_matrices.specs.Intervals.{HasIntervalColumns, HasIntervalRows, IsInterval}
use Rattle.core_parts.proofs.MarkedRuns.{height_of_runs}

module _ (m t : SparseRows) (shape : AreSparseRows m) (shape_t : AreSparseRows t) (crossed : AreCrossed m t) where
  entry_across : (row column : ℕ) → entry (matrix_of_runs t) column row ≡ entry (matrix_of_runs m) row column
  entry_across row column = matrix_entry t shape_t column row ∙ crossed.entries row column ∙ sym (matrix_entry m shape row column)

  entries_across : (λ row column. entry (matrix_of_runs t) column row) ≡ entry (matrix_of_runs m)
  entries_across = fun_ext (λ row. fun_ext (λ column. entry_across row column))

  violator_across : (rows columns : List ℕ) → IsViolator (entry (matrix_of_runs t)) columns rows → IsViolator (entry (matrix_of_runs m)) rows columns
  violator_across rows columns v = subst (λ (M : ℕ → ℕ → ℤ). IsViolator M rows columns) entries_across (violator-transposed (entry (matrix_of_runs t)) columns rows v)

  pub back_across : (rows columns : List ℕ) → IsViolator (entry (matrix_of_runs m)) rows columns → IsViolator (entry (matrix_of_runs t)) columns rows
  back_across rows columns v = violator-transposed (λ row column. entry (matrix_of_runs t) column row) rows columns (subst (λ (M : ℕ → ℕ → ℤ). IsViolator M rows columns) (sym entries_across) v)

  pub violating_across : (rows columns : List ℕ) → AreViolating (matrix_of_runs t) columns rows → AreViolating (matrix_of_runs m) rows columns
  violating_across rows columns v = record {
    row_set = record { increasing = v.column_set.increasing; in_range = subst (λ (n : ℕ). AllBelow n rows) (crossed.columns ∙ sym (height_of_runs m)) v.column_set.in_range };
    column_set = record { increasing = v.row_set.increasing; in_range = subst (λ (n : ℕ). AllBelow n columns) (height_of_runs t ∙ crossed.rows) v.row_set.in_range };
    violator = violator_across rows columns v.violator;
    nonzeros = record {
      rows_have = λ row h. let in_row = v.nonzeros.columns_have row h in (in_row.0, in_row.1, λ e. in_row.2 (entry_across row in_row.0 ∙ e));
      columns_have = λ column h. let in_column = v.nonzeros.rows_have column h in (in_column.0, in_column.1, λ e. in_column.2 (entry_across in_column.0 column ∙ e));
    };
  }

  -- ---- intervals

  column_across : (column : ℕ) → entry (matrix_of_runs t) column ≡ (λ row. entry (matrix_of_runs m) row column)
  column_across column = fun_ext (λ row. entry_across row column)

  pub interval_columns : HasIntervalRows (matrix_of_runs t) → HasIntervalColumns (matrix_of_runs m)
  interval_columns intervals column = subst IsInterval (column_across column) (intervals column)

  pub interval_rows_across : HasIntervalColumns (matrix_of_runs m) → HasIntervalRows (matrix_of_runs t)
  interval_rows_across intervals column = subst IsInterval (sym (column_across column)) (intervals column)
