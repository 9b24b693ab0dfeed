-- Rows that cut the common columns of a part, and the tables of these cuts.
use Rattle.std.specs.Prelude.{◌≡◌, ◌<◌, ◌+◌, ◌*◌, ◌&&◌, ◌⊎◌, ◌↔◌, ℕ, Bool, true, false, List, [], length, slice_index, slice_index_or}
use Rattle.cmr_base.specs.Members.{IsIn}
use Rattle.cmr_base.specs.Splits.{IsCommon, IsUncutBy}
use Rattle.cmr_base.specs.BitSets.{Bits}
use Rattle.cmr_base.specs.ColumnSets.{has_column, Denies}
use Rattle.cmr_base.specs.Matrix.{Matrix}
use Rattle.cmr_base.specs.Trees.{support}

-- the columns that row i has in common with at least one of the rows
abbrev pub AreCommonColumns : (ℕ → ℕ → Bool) → ℕ → List ℕ → (ℕ → Bool) → Type 0
AreCommonColumns M i rows columns = (column : ℕ) → (columns column ≡ true) ↔ IsCommon M i rows column

-- the columns of row i
pub record AreColumnsOfRow (m : Matrix) (i : ℕ) (set : Bits) : Type 0 where
  pub size : set.size ≡ m.width
  pub exact : (column : ℕ) → has_column set.words column ≡ support m i column

-- a loop invariant: columns that row i has in common with the part, among them all that it has in common with the rows before `place`
pub record HasCommonBefore (m : Matrix) (i : ℕ) (part : List ℕ) (place : ℕ) (set : Bits) : Type 0 where
  pub size : set.size ≡ m.width
  pub into : (column : ℕ) → has_column set.words column ≡ true → IsCommon (support m) i part column
  pub from : (p column : ℕ) → p < place → support m i column ≡ true → support m (slice_index part p) column ≡ true → has_column set.words column ≡ true

-- all columns of the set are in row j, or none is
abbrev pub IsUncutIn : (ℕ → ℕ → Bool) → (ℕ → Bool) → ℕ → Type 0
IsUncutIn M columns j = ((column : ℕ) → columns column ≡ true → M j column ≡ true) ⊎ ((column : ℕ) → columns column ≡ true → M j column ≡ false)

abbrev pub AreUncutIn : (ℕ → ℕ → Bool) → (ℕ → Bool) → List ℕ → Type 0
AreUncutIn M columns rows = (j : ℕ) → IsIn j rows → IsUncutIn M columns j

abbrev pub rows_at_part : List (List ℕ) → ℕ → List ℕ
rows_at_part parts a = slice_index_or parts a []

-- for each two parts, whether a row of the second part cuts the common columns of the first part
pub record IsCutTable (M : ℕ → ℕ → Bool) (i : ℕ) (parts : List (List ℕ)) (upto : ℕ) (cuts : List Bool) : Type 0 where
  pub size : length cuts ≡ upto * length parts
  pub right : (a b : ℕ) → a < upto → b < length parts → Denies (slice_index_or cuts (a * length parts + b) false) (IsUncutBy M i (rows_at_part parts a) (rows_at_part parts b))

-- the table is complete for the parts before `upto`, and `common` is a set of the right size
pub record IsTableBefore (m : Matrix) (i : ℕ) (parts : List (List ℕ)) (upto : ℕ) (common : Bits) (cuts : List Bool) : Type 0 where
  pub size : common.size ≡ m.width
  pub table : IsCutTable (support m) i parts upto cuts

-- the cells after `before`, one for each of the first `upto` parts, say whether a row of the part cuts the columns
pub record HasCutsOfParts (M : ℕ → ℕ → Bool) (columns : ℕ → Bool) (parts : List (List ℕ)) (upto : ℕ) (before cuts : List Bool) : Type 0 where
  pub size : length cuts ≡ length before + upto
  pub same : (k : ℕ) → k < length before → slice_index_or cuts k false ≡ slice_index_or before k false
  pub right : (b : ℕ) → b < upto → Denies (slice_index_or cuts (length before + b) false) (AreUncutIn M columns (rows_at_part parts b))

-- two parts cut each other
abbrev pub disagree : List Bool → ℕ → ℕ → ℕ → Bool
disagree cuts count a b = slice_index_or cuts (a * count + b) false && slice_index_or cuts (b * count + a) false
