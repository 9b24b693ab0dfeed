-- The search for the first good seed of a cut, by the numbers with which keys of seeds begin.
use Rattle.std.specs.Prelude.{◌≡◌, ◌≢◌, ◌<◌, ◌+◌, ◌++◌, ◌⊎◌, ℕ, pos, List, [], ◌∷◌, slice_index_or, Option, MatchOption}
use Rattle.cmr_base.specs.declared.line.Line.{Line}
use Rattle.cmr_base.specs.declared.line.Line.TheVariants.{Row, Column}
use Rattle.cmr_base.specs.declared.line_set.LineSet.{LineSet}
use Rattle.cmr_base.specs.Matrix.{Matrix, height, entry}
use Rattle.cmr_base.specs.Separations.{Lines}
use Rattle.cmr_base.specs.Seeds.{IsBefore, IsLine, line_number}
use Rattle.cuts.specs.declared.corners.Corners.{Corners}
use Rattle.cuts.specs.declared.groups.Groups.{Groups}
use Rattle.cuts.specs.LineCuts.{AreInside, name_of}
use Rattle.line_growth.specs.GrowingSets.{IsGrowing}
use Rattle.line_growth.specs.Rules.{lower_of, upper_of}
use Rattle.three_sep.specs.Connectors.{rule_of}
use Rattle.three_sep.specs.declared.search.Search.{Search}
use Rattle.three_sep.specs.FirstCuts.{CutSeed, IsGoodCut, cut_key, first_corner}
use Rattle.three_sep.specs.NumberedSeeds.{HasLines}
use Rattle.three_sep.specs.Searches.{BeginsWith}

-- no seed whose key begins so is good
abbrev pub HasNoCutSeed : Matrix → List ℕ → Type 0
HasNoCutSeed m prefix = (s : CutSeed) (S : Lines) → BeginsWith prefix (cut_key m s) → ¬ (IsGoodCut m s S)

-- no seed whose key begins so and continues with a lesser number is good
abbrev pub HasNoCutSeedBelow : Matrix → List ℕ → ℕ → Type 0
HasNoCutSeedBelow m prefix bound = (b : ℕ) → b < bound → HasNoCutSeed m (prefix ++ b ∷ [])

-- the lines of the side of the first good seed whose key begins so
pub record IsFirstCutWith (m : Matrix) (prefix : List ℕ) (lines : LineSet) : Type 0 where
  pub seed : CutSeed
  pub side : Lines
  pub begins : BeginsWith prefix (cut_key m seed)
  pub good : IsGoodCut m seed side
  pub first : (other : CutSeed) (T : Lines) → BeginsWith prefix (cut_key m other) → IsGoodCut m other T → ¬ (IsBefore (cut_key m other) (cut_key m seed))
  pub has : HasLines (height m) m.width side lines.rows lines.columns

-- what a search among the seeds whose key begins so gives
abbrev pub IsFoundCut : Matrix → List ℕ → Option LineSet → Type 0
IsFoundCut m prefix found = MatchOption found (HasNoCutSeed m prefix) (IsFirstCutWith m prefix)

abbrev pub cut_prefix : Corners → List ℕ
cut_prefix c = c.one.row ∷ c.one.column ∷ c.two.row ∷ c.two.column ∷ []

-- the corners are in the matrix, and neither block is 0 at them
pub record HasBlockCorners (m : Matrix) (c : Corners) : Type 0 where
  pub inside : AreInside m c
  pub upper : entry m c.one.row c.two.column ≢ pos 0
  pub lower : entry m c.two.row c.one.column ≢ pos 0

-- row k is 0 in column p, or is in a group with row i or column p
abbrev pub IsNoCutRow : Matrix → Groups → ℕ → ℕ → ℕ → Type 0
IsNoCutRow m groups i p k = (entry m k p ≡ pos 0) ⊎ (name_of m groups (Row i) ≡ name_of m groups (Row k)) ⊎ (name_of m groups (Column p) ≡ name_of m groups (Row k))

-- column j is 0 in row i, or is in a group with row i or column p
abbrev pub IsNoCutColumn : Matrix → Groups → ℕ → ℕ → ℕ → Type 0
IsNoCutColumn m groups i p j = (entry m i j ≡ pos 0) ⊎ (name_of m groups (Row i) ≡ name_of m groups (Column j)) ⊎ (name_of m groups (Column p) ≡ name_of m groups (Column j))

-- the line with this number is not in the first corner
pub record IsOtherNumber (m : Matrix) (c : Corners) (number : ℕ) : Type 0 where
  pub row : number ≢ c.one.row
  pub column : number ≢ height m + c.one.column

-- the line with this number is in the first corner, or is in a group with a line of the second corner
abbrev pub IsNoThird : Matrix → Groups → Corners → ℕ → Type 0
IsNoThird m groups c number =
    (number ≡ c.one.row) ⊎ (number ≡ height m + c.one.column)
    ⊎ (name_of m groups (Row c.two.row) ≡ slice_index_or groups.names.items number 0) ⊎ (name_of m groups (Column c.two.column) ≡ slice_index_or groups.names.items number 0)

-- the side of the search is the closed one of the first corner and the line with this number
pub record HoldsThird (m : Matrix) (c : Corners) (third : ℕ) (search : Search) : Type 0 where
  pub matrix : search.matrix.now ≡ m
  pub line : Line
  pub inside : IsLine (height m) m.width line
  pub number : line_number (height m) line ≡ third
  pub growing : IsGrowing m (upper_of m (rule_of c)) (lower_of m (rule_of c)) (line ∷ first_corner c) search.sides.side
