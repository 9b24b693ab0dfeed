-- What reading a large matrix gives.
use Rattle.std.proofs.Common.{◌≡◌, false, Result, Ok, Err, subst}
use Rattle.std.specs.Prelude.{IfOk}
use Rattle.cmr_base.specs.Matrix.{Matrix}
use Rattle.text_fields.specs.Reading.{Fault, Gives}
use Rattle.text_fields.specs.Spelling.{texts_of}
use Rattle.text_fields.specs.TextWords.{Text}
use Rattle.text_fields.specs.declared.error.FieldError.{FieldError}
use Rattle.matrix_text.specs.declared.error.TextKind.{TextKind}
use Rattle.matrix_text.proofs.DenseTexts.{dense_found, dense_only}
use Rattle.matrix_text.proofs.SparseTexts.{sparse_found, sparse_only}
use Rattle.sparse_matrix.specs.SparseRows.{SparseRows, matrix_of_runs}
use Rattle.sparse_matrix.specs.declared.nonzero.TheConstants.{MAX_SPARSE_LINES}
use Rattle.sparse_text.specs.LargeTexts.{IsLargeDense, IsLargeSparse, large_dense, large_sparse}

found : (P : Matrix → Type 0) (read : Result Matrix (Fault TextKind)) → ((m : Matrix) → read ≡ Ok m → P m) → (r : Result SparseRows (FieldError TextKind))
    → Gives (λ m. matrix_of_runs m) r read → IfOk r (λ m. P (matrix_of_runs m))
found P read each (Ok m) gives = each (matrix_of_runs m) gives
found P read each (Err e) gives = tt

module _ (text : Text) (r : Result SparseRows (FieldError TextKind)) where
  pub large_dense_found : Gives (λ m. matrix_of_runs m) r (large_dense text) → IfOk r (λ m. IsLargeDense (texts_of text.words) (matrix_of_runs m))
  large_dense_found = found (IsLargeDense (texts_of text.words)) (large_dense text) (dense_found MAX_SPARSE_LINES MAX_SPARSE_LINES false text) r

  pub large_dense_only : Gives (λ m. matrix_of_runs m) r (large_dense text) → (m : Matrix) → IsLargeDense (texts_of text.words) m → Gives (λ m. matrix_of_runs m) r (Ok m)
  large_dense_only gives m is = subst (Gives (λ m. matrix_of_runs m) r) (dense_only MAX_SPARSE_LINES MAX_SPARSE_LINES false text.size text.words m is) gives

  pub large_sparse_found : Gives (λ m. matrix_of_runs m) r (large_sparse text) → IfOk r (λ m. IsLargeSparse (texts_of text.words) (matrix_of_runs m))
  large_sparse_found = found (IsLargeSparse (texts_of text.words)) (large_sparse text) (sparse_found MAX_SPARSE_LINES MAX_SPARSE_LINES false text) r

  pub large_sparse_only : Gives (λ m. matrix_of_runs m) r (large_sparse text) → (m : Matrix) → IsLargeSparse (texts_of text.words) m → Gives (λ m. matrix_of_runs m) r (Ok m)
  large_sparse_only gives m is = subst (Gives (λ m. matrix_of_runs m) r) (sparse_only MAX_SPARSE_LINES MAX_SPARSE_LINES false text.size text.words m is) gives
