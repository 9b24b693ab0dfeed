-- The concentrated form: its connectors and its rules.
use Rattle.std.specs.Prelude.{◌≡◌, ◌≢◌, ◌<◌, ◌≤◌, ◌⊎◌, ◌++◌, ℕ, ℤ, pos, Bool, true, false, [], ◌∷◌}
use Rattle.cmr_base.specs.declared.line.Line.TheVariants.{Row, Column}
use Rattle.cmr_base.specs.declared.separation.Form.TheVariants.{Concentrated}
use Rattle.cmr_base.specs.BitSets.{Bits}
use Rattle.cmr_base.specs.ColumnSets.{has_column}
use Rattle.cmr_base.specs.Matrix.{Matrix, height, entry}
use Rattle.cmr_base.specs.Signing.{IsSign}
use Rattle.cmr_base.specs.Separations.{Lines, zeros, spread_at, core_determinant}
use Rattle.cmr_base.specs.Seeds.{IsConnectorPair}
use Rattle.cuts.specs.declared.corners.Corners.{Corners}
use Rattle.line_growth.specs.declared.rule.GrowthRule.{GrowthRule}
use Rattle.line_growth.specs.GrowingSets.{IsClosedIn}
use Rattle.line_growth.specs.Rules.{lower_of}
use Rattle.three_sep.specs.declared.connectors.Connectors.{Connectors}
use Rattle.three_sep.specs.NumberedSeeds.{Seed, IsGoodSeed}
use Rattle.three_sep.specs.Searches.{HasNoneBelow, corner_prefix, corners_of, first_at, second_at}

-- the two corners are not 0
pub record AreConcentratedCorners (M : ℕ → ℕ → ℤ) (c : Corners) : Type 0 where
  pub first : M c.one.row c.one.column ≢ pos 0
  pub second : M c.two.row c.two.column ≢ pos 0

-- q can be the other column of the first connector, and o the other row of the second connector
pub record IsOtherColumn (M : ℕ → ℕ → ℤ) (c : Corners) (q : ℕ) : Type 0 where
  pub increases : c.one.column < q
  pub nonzero : M c.one.row q ≢ pos 0

pub record IsOtherRow (M : ℕ → ℕ → ℤ) (c : Corners) (q o : ℕ) : Type 0 where
  pub increases : c.two.row < o
  pub nonzero : M o c.two.column ≢ pos 0
  pub determinant : IsSign (core_determinant M (first_at c q) (second_at c o))

-- q is not right of p, or row i is 0 in column q, or row k is 0 in both columns
abbrev pub IsNoOtherColumn : (ℕ → ℕ → ℤ) → Corners → ℕ → Type 0
IsNoOtherColumn M c q = (q ≤ c.one.column) ⊎ (M c.one.row q ≡ pos 0) ⊎ ((M c.two.row c.one.column ≡ pos 0) × (M c.two.row q ≡ pos 0))

-- ---- first connectors

-- o is the first row that gives connectors with two corners and a column q
pub record IsFirstRow (m : Matrix) (c : Corners) (q o : ℕ) : Type 0 where
  pub inside : o < height m
  pub row : IsOtherRow (entry m) c q o
  pub rows : HasNoneBelow m (corner_prefix Concentrated c ++ q ∷ []) o

-- the first connectors with two corners
pub record IsFirstPair (m : Matrix) (c : Corners) (d : Connectors) : Type 0 where
  pub corners : corners_of d ≡ c
  pub pair : IsConnectorPair (height m) m.width (entry m) Concentrated d.first d.second
  pub columns : HasNoneBelow m (corner_prefix Concentrated c) d.first.other
  pub rows : HasNoneBelow m (corner_prefix Concentrated c ++ d.first.other ∷ []) d.second.other

-- ---- columns that may be in side two

-- each set with row i that is closed under the rule of two connectors of the form has the column
abbrev pub IsForcedWith : Matrix → ℕ → ℕ → Type 0
IsForcedWith m i column = (d : Connectors) (S : Lines) → IsClosedIn m zeros (spread_at (entry m) d.first d.second) S → S (Row i) ≡ true → S (Column column) ≡ true

abbrev pub AreForcedWith : Matrix → ℕ → (ℕ → Bool) → Type 0
AreForcedWith m i set = (column : ℕ) → set column ≡ true → IsForcedWith m i column

-- no good seed of the form has row i in side one and column j in side two
abbrev pub HasNoneBetween : Matrix → ℕ → ℕ → Type 0
HasNoneBetween m i j = (s : Seed) (S : Lines) → s.form ≡ Concentrated → IsGoodSeed m s S → S (Row i) ≡ true → S (Column j) ≡ true

-- each column that is no candidate is in side one with row i
pub record AreCandidates (m : Matrix) (i : ℕ) (candidates : Bits) : Type 0 where
  pub size : candidates.size ≡ m.width
  pub others : (j : ℕ) → j < m.width → has_column candidates.words j ≡ false → HasNoneBetween m i j

-- the row pulls a column that is no candidate
pub record PullsOther (m : Matrix) (rule : GrowthRule) (candidates : Bits) (row : ℕ) : Type 0 where
  pub column : ℕ
  pub inside : column < m.width
  pub passed : has_column candidates.words column ≡ false
  pub unlike : entry m row column ≢ lower_of m rule row column
