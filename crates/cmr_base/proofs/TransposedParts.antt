-- The transposed matrix of a submatrix.
use Rattle.std.proofs.Common.{◌≡◌, ◌<◌, ◌∙◌, ℕ, List, length, map, get_or, sym, arith}
use Rattle.std.proofs.lemmas.List.{length-map}
use Rattle.cmr_base.specs.Matrix.{Matrix, entry, transposed, IsMatrix, IsTernary}
use Rattle.cmr_base.specs.LineSets.{submatrix}
use Rattle.cmr_base.proofs.WholeMatrices.{same_matrix}
use Rattle.cmr_base.proofs.Parts.{entry-submatrix, entry-transposed_rectangular, height-transposed, is_matrix-transposed, is_ternary-submatrix, is_ternary-transposed}

module _ (m : Matrix) (rows columns : List ℕ) (is : IsTernary m) where
  -- it is a submatrix of the transposed matrix, with rows and columns exchanged
  pub transposed-submatrix : transposed (submatrix m rows columns) ≡ submatrix (transposed m) columns rows
  transposed-submatrix =
      same_matrix (transposed part) (submatrix (transposed m) columns rows) (is_ternary-transposed part part_is).rectangular
      (is_ternary-submatrix (transposed m) columns rows (is_ternary-transposed m is)).rectangular (high ∙ sym long) (length-map rows (λ row. map (entry m row) columns))
      (λ column row l k.
      let h : column < length columns = omega (arith, l, high) in
      let w : row < length rows = omega (arith, k, length-map rows (λ r. map (entry m r) columns)) in
      entry-transposed_rectangular part row column part_is.rectangular ∙ entry-submatrix m rows columns row column w h
      ∙ sym (entry-transposed_rectangular m (get_or rows row 0) (get_or columns column 0) is.rectangular) ∙ sym (entry-submatrix (transposed m) columns rows column row h w))
    where
      part : Matrix
      part = submatrix m rows columns

      part_is : IsTernary part
      part_is = is_ternary-submatrix m rows columns is

      high : length (transposed part).rows ≡ length columns
      high = height-transposed part

      long : length (submatrix (transposed m) columns rows).rows ≡ length columns
      long = length-map columns (λ column. map (entry (transposed m) column) rows)

-- the transposed matrix of the transposed matrix is the matrix
pub transposed-twice : (m : Matrix) → IsMatrix m → transposed (transposed m) ≡ m
transposed-twice m is =
    let of_transposed = is_matrix-transposed m is in
    same_matrix (transposed (transposed m)) m (is_matrix-transposed (transposed m) of_transposed).rectangular is.rectangular (height-transposed (transposed m)) (height-transposed m)
    (λ row column l k. entry-transposed_rectangular (transposed m) column row of_transposed.rectangular ∙ entry-transposed_rectangular m row column is.rectangular)
