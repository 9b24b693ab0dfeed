-- Texts of large matrices: dense and sparse texts with sizes up to the limit of a large matrix.
use Rattle.std.specs.Prelude.{ℕ, false, List, Result}
use Rattle.cmr_base.specs.Matrix.{Matrix}
use Rattle.text_fields.specs.Reading.{Fault}
use Rattle.text_fields.specs.TextWords.{Text}
use Rattle.matrix_text.specs.declared.error.TextKind.{TextKind}
use Rattle.matrix_text.specs.Dense.{IsDenseWithin, dense_within}
use Rattle.matrix_text.specs.Sparse.{IsSparseWithin, sparse_within}
use Rattle.sparse_matrix.specs.declared.nonzero.TheConstants.{MAX_SPARSE_LINES}

-- these words are a text of the matrix
module _ (words : List (List ℕ)) (m : Matrix) where
  abbrev pub IsLargeDense : Type 0
  IsLargeDense = IsDenseWithin MAX_SPARSE_LINES MAX_SPARSE_LINES false words m

  abbrev pub IsLargeSparse : Type 0
  IsLargeSparse = IsSparseWithin MAX_SPARSE_LINES MAX_SPARSE_LINES false words m

-- reading: the matrix that a text represents, or its first fault
module _ (text : Text) where
  abbrev pub large_dense : Result Matrix (Fault TextKind)
  large_dense = dense_within MAX_SPARSE_LINES MAX_SPARSE_LINES false text

  abbrev pub large_sparse : Result Matrix (Fault TextKind)
  large_sparse = sparse_within MAX_SPARSE_LINES MAX_SPARSE_LINES false text
