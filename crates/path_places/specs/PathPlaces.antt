-- Positions of pivots: the first edge of a shortest path between the ends of a side of a cut.
use Rattle.std.specs.Prelude.{◌≡◌, ◌≢◌, ◌<◌, ◌⊎◌, ℕ, zero, suc, pos, true, [], ◌∷◌}
use Rattle.cmr_base.specs.declared.line.Line.TheVariants.{Row, Column}
use Rattle.cmr_base.specs.Matrix.{Matrix, height, entry}
use Rattle.cmr_base.specs.Separations.{Lines, opposite}
use Rattle.cmr_base.specs.Seeds.{IsBefore}

-- ---- the lines of a side

abbrev pub IsRowOn : Matrix → Lines → ℕ → Type 0
IsRowOn m side r = (r < height m) × (side (Row r) ≡ true)

abbrev pub IsColumnOn : Matrix → Lines → ℕ → Type 0
IsColumnOn m side c = (c < m.width) × (side (Column c) ≡ true)

-- An end of a side is a row of the side with a nonzero in a column of the other side, or a column of the side with a nonzero in a row of
-- the other side.
pub record IsEndRow (m : Matrix) (side : Lines) (r : ℕ) : Type 0 where
  pub on : IsRowOn m side r
  pub across : ℕ
  pub far : IsColumnOn m (opposite side) across
  pub nonzero : entry m r across ≢ pos 0

pub record IsEndColumn (m : Matrix) (side : Lines) (c : ℕ) : Type 0 where
  pub on : IsColumnOn m side c
  pub across : ℕ
  pub far : IsRowOn m (opposite side) across
  pub nonzero : entry m across c ≢ pos 0

-- An inner line of a side is a line of the side that is not an end.
abbrev pub IsInnerRow : Matrix → Lines → ℕ → Type 0
IsInnerRow m side r = IsRowOn m side r × (¬ (IsEndRow m side r))

abbrev pub IsInnerColumn : Matrix → Lines → ℕ → Type 0
IsInnerColumn m side c = IsColumnOn m side c × (¬ (IsEndColumn m side c))

-- ---- fit sides

-- an end row and an end column with the entry 0, or with another entry
abbrev pub HasZero : Matrix → Lines → Type 0
HasZero m side = (r c : ℕ) × IsEndRow m side r × IsEndColumn m side c × (entry m r c ≡ pos 0)

abbrev pub HasNonzero : Matrix → Lines → Type 0
HasNonzero m side = (r c : ℕ) × IsEndRow m side r × IsEndColumn m side c × (entry m r c ≢ pos 0)

abbrev pub IsFit : Matrix → Lines → Type 0
IsFit m side = HasZero m side × HasNonzero m side

-- ---- shortest paths

-- In the bipartite graph of the nonzeros there is a walk from column c to an end column that passes n rows. The lines before the end
-- column are inner lines of the side.
abbrev pub HasWalk : Matrix → Lines → ℕ → ℕ → Type 0
HasWalk m side zero c = IsEndColumn m side c
HasWalk m side (suc n) c = IsInnerColumn m side c × (r d : ℕ) × IsInnerRow m side r × (entry m r c ≢ pos 0) × (entry m r d ≢ pos 0) × HasWalk m side n d

-- The nonzero at (row, column) is the first edge of a walk from an end row to an end column. Its other lines are inner lines, n rows and n
-- columns, at least one of each.
pub record IsFirstEdge (m : Matrix) (side : Lines) (n row column : ℕ) : Type 0 where
  pub end : IsEndRow m side row
  pub inner : IsInnerColumn m side column
  pub nonzero : entry m row column ≢ pos 0
  pub walk : HasWalk m side n column

-- The first edge of a shortest such walk, which is a path. Of several first edges it is the first by rows, then by columns.
pub record IsPathPlace (m : Matrix) (side : Lines) (row column : ℕ) : Type 0 where
  pub n : ℕ
  pub edge : IsFirstEdge m side n row column
  pub shortest : (fewer i j : ℕ) → IsFirstEdge m side fewer i j → ¬ (fewer < n)
  pub first : (i j : ℕ) → IsFirstEdge m side n i j → ¬ (IsBefore (i ∷ j ∷ []) (row ∷ column ∷ []))

abbrev pub HasNoPath : Matrix → Lines → Type 0
HasNoPath m side = (n row column : ℕ) → ¬ (IsFirstEdge m side n row column)

-- ---- the place of a cut

-- Of a cut with this side one: the place is in side one if that is not fit, and in side two if only that is not fit.
abbrev pub IsCutPlace : Matrix → Lines → ℕ → ℕ → Type 0
IsCutPlace m side row column =
    ((¬ (IsFit m side)) × IsPathPlace m side row column)
    ⊎ (IsFit m side × (¬ (IsFit m (opposite side))) × IsPathPlace m (opposite side) row column)

abbrev pub HasNoCutPlace : Matrix → Lines → Type 0
HasNoCutPlace m side = (row column : ℕ) → ¬ (IsCutPlace m side row column)
