-- The search for the first good seed, by prefixes of the keys of seeds.
use Rattle.std.specs.Prelude.{◌≡◌, ◌≢◌, ◌<◌, ◌++◌, ◌⊎◌, ℕ, pos, Bool, true, false, List, [], ◌∷◌, Option, MatchOption}
use Rattle.cmr_base.specs.declared.line.Line.{Line}
use Rattle.cmr_base.specs.declared.line.Line.TheVariants.{Row, Column}
use Rattle.cmr_base.specs.declared.separation.Connector.{Connector}
use Rattle.cmr_base.specs.Matrix.{Matrix, height, entry}
use Rattle.cmr_base.specs.declared.separation.Form.{Form}
use Rattle.cmr_base.specs.declared.separation.Three.{Three}
use Rattle.cuts.specs.declared.corners.Corners.{Corners}
use Rattle.cuts.specs.declared.groups.Groups.{Groups}
use Rattle.three_sep.specs.declared.connectors.Connectors.{Connectors}
use Rattle.cuts.specs.LineCuts.{AreInside, name_of}
use Rattle.cmr_base.specs.Separations.{Lines, connector_lines, first_is_flat, second_is_flat}
use Rattle.cmr_base.specs.Seeds.{IsBefore, form_number}
use Rattle.three_sep.specs.NumberedSeeds.{Seed, IsGoodSeed, HasLines, seed_key, seed_of}

-- the first list is a prefix of the second
abbrev pub BeginsWith : List ℕ → List ℕ → Type 0
BeginsWith [] ys = Unit {0}
BeginsWith (x ∷ xs) [] = ⊥
BeginsWith (x ∷ xs) (y ∷ ys) = (x ≡ y) × BeginsWith xs ys

-- no seed whose key has this prefix is good
abbrev pub HasNoGood : Matrix → List ℕ → Type 0
HasNoGood m prefix = (s : Seed) (S : Lines) → BeginsWith prefix (seed_key m s) → ¬ (IsGoodSeed m s S)

-- the three-separation of the first good seed whose key has this prefix
pub record IsFirstOf (m : Matrix) (prefix : List ℕ) (three : Three) : Type 0 where
  pub x : Line
  pub side : Lines
  pub begins : BeginsWith prefix (seed_key m (seed_of three x))
  pub good : IsGoodSeed m (seed_of three x) side
  pub first : (other : Seed) (T : Lines) → BeginsWith prefix (seed_key m other) → IsGoodSeed m other T → ¬ (IsBefore (seed_key m other) (seed_key m (seed_of three x)))
  pub lines : HasLines (height m) m.width side three.side.rows three.side.columns

-- what a search by this prefix gives: the three-separation of the first good seed, and none if and only if no seed is good
abbrev pub IsFoundSeparation : Matrix → List ℕ → Option Three → Type 0
IsFoundSeparation m prefix found = MatchOption found (HasNoGood m prefix) (IsFirstOf m prefix)

-- no seed whose key has this prefix, followed by a lesser number, is good
abbrev pub HasNoneBelow : Matrix → List ℕ → ℕ → Type 0
HasNoneBelow m prefix bound = (b : ℕ) → b < bound → HasNoGood m (prefix ++ b ∷ [])

-- the corners of two connectors, and the connectors with two corners and the other lines q and o
abbrev pub corners_of : Connectors → Corners
corners_of d = record { one = record { row = d.first.row; column = d.first.column }; two = record { row = d.second.row; column = d.second.column } }

abbrev pub first_at : Corners → ℕ → Connector
first_at c q = record { row = c.one.row; column = c.one.column; other = q }

abbrev pub second_at : Corners → ℕ → Connector
second_at c o = record { row = c.two.row; column = c.two.column; other = o }

abbrev pub corner_prefix : Form → Corners → List ℕ
corner_prefix form c = form_number form ∷ c.one.row ∷ c.one.column ∷ c.two.row ∷ c.two.column ∷ []

-- the other line of a connector: a column if the connector is flat
abbrev pub other_line : Bool → ℕ → Line
other_line true other = Column other
other_line false other = Row other

-- the number of columns, or of rows
abbrev pub line_count : Matrix → Bool → ℕ
line_count m true = m.width
line_count m false = height m

-- a row and a column that cross in a nonzero
pub record IsCorner (m : Matrix) (r c : ℕ) : Type 0 where
  pub row : r < height m
  pub column : c < m.width
  pub nonzero : entry m r c ≢ pos 0

-- the corners are in the matrix, and the four entries where they cross are not 0
pub record HasCorners (m : Matrix) (c : Corners) : Type 0 where
  pub inside : AreInside m c
  pub first : entry m c.one.row c.one.column ≢ pos 0
  pub second : entry m c.two.row c.two.column ≢ pos 0
  pub upper : entry m c.one.row c.two.column ≢ pos 0
  pub lower : entry m c.two.row c.one.column ≢ pos 0

-- the lines of the first connector with the other line q
abbrev pub held_lines : Form → Corners → ℕ → List Line
held_lines form c q = connector_lines (first_is_flat form) (first_at c q)

-- each column that is 0 in one row and not in another is in the group of the other row
abbrev pub HasNoColumn : Matrix → Groups → ℕ → ℕ → Type 0
HasNoColumn m groups own across = (c : ℕ) → c < m.width → entry m own c ≡ pos 0 → entry m across c ≢ pos 0 → name_of m groups (Column c) ≡ name_of m groups (Row across)

-- each row that is 0 in one column and not in another is in the group of the other column
abbrev pub HasNoRow : Matrix → Groups → ℕ → ℕ → Type 0
HasNoRow m groups own across = (r : ℕ) → r < height m → entry m r own ≡ pos 0 → entry m r across ≢ pos 0 → name_of m groups (Row r) ≡ name_of m groups (Column across)

-- a flat connector of the form has no other line, if the corners are in rows i and k
abbrev pub LacksColumn : Matrix → Groups → Form → ℕ → ℕ → Type 0
LacksColumn m groups form i k = ((first_is_flat form ≡ true) × HasNoColumn m groups i k) ⊎ ((second_is_flat form ≡ true) × HasNoColumn m groups k i)

-- a tall connector of the form has no other line, if the corners are in columns p and j
abbrev pub LacksRow : Matrix → Groups → Form → ℕ → ℕ → Type 0
LacksRow m groups form p j = ((first_is_flat form ≡ false) × HasNoRow m groups p j) ⊎ ((second_is_flat form ≡ false) × HasNoRow m groups j p)

-- row k is 0 in column p, or is in a group with row i or column p, or a connector has no other column
abbrev pub IsNoSecondRow : Matrix → Groups → Form → ℕ → ℕ → ℕ → Type 0
IsNoSecondRow m groups form i p k = LacksColumn m groups form i k ⊎ (entry m k p ≡ pos 0) ⊎ (name_of m groups (Row i) ≡ name_of m groups (Row k)) ⊎ (name_of m groups (Column p) ≡ name_of m groups (Row k))

abbrev pub IsNoSecondColumn : Matrix → Groups → Form → ℕ → ℕ → ℕ → ℕ → Type 0
IsNoSecondColumn m groups form i p k j = LacksRow m groups form p j ⊎ (entry m k j ≡ pos 0) ⊎ (entry m i j ≡ pos 0) ⊎ (name_of m groups (Row i) ≡ name_of m groups (Column j)) ⊎ (name_of m groups (Column p) ≡ name_of m groups (Column j))
