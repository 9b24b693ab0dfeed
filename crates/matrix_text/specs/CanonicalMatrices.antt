-- Canonical texts: their lines, each a list of words.
use Rattle.std.specs.Prelude.{◌+◌, if◌then◌else◌, ◌++◌, ℕ, ℤ, List, [], ◌∷◌, length, map}
use Rattle.std.specs.Fmt.{decimal, signed_decimal}
use Rattle.cmr_base.specs.Matrix.{Matrix, height, is_nonzero, nonzeros_of}
use Rattle.cmr_base.specs.declared.line_set.LineSet.{LineSet}
use Rattle.text_fields.specs.Written.{text_of_lines}
use Rattle.matrix_text.specs.Sparse.{Triple}
use Rattle.text_fields.specs.LineNumbers.{number_of_line}

-- the sizes, and a line for each row with its entries
abbrev pub dense_lines : Matrix → List (List (List ℕ))
dense_lines m = (decimal (height m) ∷ decimal m.width ∷ []) ∷ map (map signed_decimal) m.rows

abbrev pub dense_text : Matrix → List ℕ
dense_text m = text_of_lines (dense_lines m)

-- the nonzeros of a row, from a column on
abbrev pub row_triples : ℕ → ℕ → List ℤ → List Triple
row_triples row column [] = []
row_triples row column (z ∷ entries) =
    if is_nonzero z
    then (record { row = row; column = column; value = z }) ∷ row_triples row (column + 1) entries
    else row_triples row (column + 1) entries

-- the nonzeros in row order, from a row on
abbrev pub triples_from : ℕ → List (List ℤ) → List Triple
triples_from row [] = []
triples_from row (entries ∷ rows) = row_triples row 1 entries ++ triples_from (row + 1) rows

abbrev pub triple_line : Triple → List (List ℕ)
triple_line triple = decimal triple.row ∷ decimal triple.column ∷ signed_decimal triple.value ∷ []

-- the sizes and the number of nonzeros, and a line for each nonzero
abbrev pub sparse_lines : Matrix → List (List (List ℕ))
sparse_lines m = (decimal (height m) ∷ decimal m.width ∷ decimal (nonzeros_of m.rows) ∷ []) ∷ map triple_line (triples_from 1 m.rows)

abbrev pub sparse_text : Matrix → List ℕ
sparse_text m = text_of_lines (sparse_lines m)

-- the matrix's sizes and two counts, a line of row numbers, and a line of column numbers
abbrev pub submatrix_lines : ℕ → ℕ → LineSet → List (List (List ℕ))
submatrix_lines height width lines =
    (decimal height ∷ decimal width ∷ decimal (length lines.rows) ∷ decimal (length lines.columns) ∷ [])
    ∷ map number_of_line lines.rows
    ∷ map number_of_line lines.columns
    ∷ []

abbrev pub submatrix_text : ℕ → ℕ → LineSet → List ℕ
submatrix_text height width lines = text_of_lines (submatrix_lines height width lines)
