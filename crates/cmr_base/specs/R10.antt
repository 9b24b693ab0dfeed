-- The R10 matrices: five rows, five columns, and one of two supports, up to the order of rows and of columns.
use Rattle.std.specs.Prelude.{◌≡◌, ◌<◌, ◌⊎◌, ◌↔◌, ℕ, zero, suc, ℤ, pos, negsuc, List, [], ◌∷◌, map}
use Rattle.cmr_base.specs.Matrix.{Matrix, height, entry}
use Rattle.cmr_base.specs.Members.{IsIn, IsDistinct}

-- 1 for a nonzero
abbrev pub mark : ℤ → ℕ
mark (pos zero) = 0
mark (pos (suc n)) = 1
mark (negsuc n) = 1

-- three nonzeros in a row, each row shifted by one position from the previous row
abbrev pub circulant_table : List (List ℕ)
circulant_table =
    (1 ∷ 1 ∷ 0 ∷ 0 ∷ 1 ∷ [])
    ∷ (1 ∷ 1 ∷ 1 ∷ 0 ∷ 0 ∷ [])
    ∷ (0 ∷ 1 ∷ 1 ∷ 1 ∷ 0 ∷ [])
    ∷ (0 ∷ 0 ∷ 1 ∷ 1 ∷ 1 ∷ [])
    ∷ (1 ∷ 0 ∷ 0 ∷ 1 ∷ 1 ∷ [])
    ∷ []

-- a full row, a full column, and two nonzeros in each row of the rest
abbrev pub bordered_table : List (List ℕ)
bordered_table =
    (1 ∷ 1 ∷ 1 ∷ 1 ∷ 1 ∷ [])
    ∷ (1 ∷ 1 ∷ 1 ∷ 0 ∷ 0 ∷ [])
    ∷ (1 ∷ 0 ∷ 1 ∷ 1 ∷ 0 ∷ [])
    ∷ (1 ∷ 0 ∷ 0 ∷ 1 ∷ 1 ∷ [])
    ∷ (1 ∷ 1 ∷ 0 ∷ 0 ∷ 1 ∷ [])
    ∷ []

-- an order of the lines 0 to `count` - 1: each occurs once
pub record IsOrder (count : ℕ) (lines : List ℕ) : Type 0 where
  pub distinct : IsDistinct lines
  pub all : (line : ℕ) → IsIn line lines ↔ (line < count)

-- the marks of a matrix on rows and columns, in their order
abbrev pub marks : Matrix → List ℕ → List ℕ → List (List ℕ)
marks m rows columns = map (λ row. map (λ column. mark (entry m row column)) columns) rows

-- for an order of its rows and an order of its columns, the matrix has the table's support
pub record HasTable (m : Matrix) (table : List (List ℕ)) : Type 0 where
  pub rows : List ℕ
  pub columns : List ℕ
  pub row_order : IsOrder 5 rows
  pub column_order : IsOrder 5 columns
  pub marks_are : marks m rows columns ≡ table

pub record IsR10 (m : Matrix) : Type 0 where
  pub five_rows : height m ≡ 5
  pub five_columns : m.width ≡ 5
  pub table : HasTable m circulant_table ⊎ HasTable m bordered_table
