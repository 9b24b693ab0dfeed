-- The transpose of a matrix of zeros and ones.
use Rattle.std.proofs.Common.{ℕ, ℤ, pos, suc, List, [], ◌∷◌, map}
use Rattle.std.specs.List.{AllByRecursion, range_with_len, slice_index_or}
use Rattle.cmr_base.specs.Matrix.{Matrix, column_of, transposed}
use Rattle.cmr_base.specs.Trees.{IsBinary}
use Rattle.matrix_text.proofs.BinaryTexts.{IsZeroOrOne, rows_binary, all-map}

column_binary : (rows : List (List ℤ)) (column : ℕ) → ((row : ℕ) → IsZeroOrOne (slice_index_or (slice_index_or rows row []) column (pos 0)))
    → AllByRecursion IsZeroOrOne (map (λ row. slice_index_or row column (pos 0)) rows)
column_binary [] column each = tt
column_binary (r ∷ rows) column each = (each 0, column_binary rows column (λ row. each (suc row)))

pub transposed_binary : (m : Matrix) → IsBinary m → IsBinary (transposed m)
transposed_binary m binary =
    rows_binary (transposed m).rows (all-map (AllByRecursion IsZeroOrOne) (column_of m) (range_with_len 0 m.width) (λ column. column_binary m.rows column (λ row. binary row column)))
