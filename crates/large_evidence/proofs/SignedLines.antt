-- Signs of the rows of the transposed matrix are signs of the columns.
use Rattle.std.proofs.Common.{◌≡◌, ◌∙◌, ℕ, ℤ, Bool, List, length, subst, sym}
use Rattle.std.proofs.Math.Path.{fun_ext}
use Rattle.cmr_base.specs.Matrix.{entry}
use Rattle.sparse_matrix.specs.SparseRows.{AreCrossed, AreSparseRows, SparseRows, matrix_of_runs}
use Rattle.sparse_matrix.proofs.Matrices.{matrix_entry}
use Rattle.split_laws.specs.SignSplits.{CancelsColumns}
use Rattle.two_nonzeros.specs.Cancelling.{AreSplitBy, sign_at}

module _ (m t : SparseRows) (shape : AreSparseRows m) (shape_t : AreSparseRows t) (crossed : AreCrossed m t) where
  entries_across : entry (matrix_of_runs t) ≡ (λ column row. entry (matrix_of_runs m) row column)
  entries_across = fun_ext (λ column. fun_ext (λ row. matrix_entry t shape_t column row ∙ crossed.entries row column ∙ sym (matrix_entry m shape row column)))

  pub signs_of_columns : (minus : List Bool) → (length minus ≡ length t.runs) × AreSplitBy minus t
      → (length minus ≡ m.width) × CancelsColumns (λ column row. entry (matrix_of_runs m) row column) (sign_at minus)
  signs_of_columns minus (count, split) = (count ∙ crossed.rows, subst (λ (M : ℕ → ℕ → ℤ). CancelsColumns M (sign_at minus)) entries_across split)
