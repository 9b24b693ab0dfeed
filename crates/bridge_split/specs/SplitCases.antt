-- The cases of a split, and sides for its parts.
use Rattle.std.specs.Prelude.{◌≡◌, ◌≢◌, ◌<◌, ℕ, Bool, true, List}
use Rattle.cmr_base.specs.Members.{IsIn}
use Rattle.cmr_base.specs.Splits.{Splits, HasNoThree, IsFirstSplit, AreParts, AreSides, IsOddClosed}
use Rattle.bridge_split.specs.declared.sides.PartSides.{PartSides}
use Rattle.bridge_split.specs.declared.sides.PartSides.TheVariants as found
use Rattle.bridge_split.specs.declared.splitting.SplitCase.{SplitCase}
use Rattle.bridge_split.specs.declared.splitting.SplitCase.TheVariants.{Star, AllConnected, Parts, OddCycle}

-- three rows of S are nonzero in the column
pub record HasThree (M : ℕ → ℕ → Bool) (S : List ℕ) (column : ℕ) : Type 0 where
  pub one : ℕ
  pub two : ℕ
  pub three : ℕ
  pub one_in : IsIn one S
  pub two_in : IsIn two S
  pub three_in : IsIn three S
  pub apart : (one ≢ two) × (one ≢ three) × (two ≢ three)
  pub nonzero : (M one column ≡ true) × (M two column ≡ true) × (M three column ≡ true)

-- the column has three nonzeros in rows of S, and no earlier column has
pub record IsFirstWithThree (M : ℕ → ℕ → Bool) (S : List ℕ) (column : ℕ) : Type 0 where
  pub here : HasThree M S column
  pub first : (other : ℕ) → other < column → ¬ (HasThree M S other)

abbrev pub IsSplitCase : (ℕ → ℕ → Bool) → List ℕ → SplitCase → Type 0
IsSplitCase M S Star = HasNoThree M S
IsSplitCase M S (AllConnected column) = IsFirstWithThree M S column × ((row : ℕ) → ¬ (Splits M S row))
IsSplitCase M S (Parts row parts sides) = (¬ (HasNoThree M S)) × IsFirstSplit M S row × AreParts M S row parts × AreSides M row parts sides
IsSplitCase M S (OddCycle row parts) = (¬ (HasNoThree M S)) × IsFirstSplit M S row × IsOddClosed M S row parts

-- sides for these parts, or an odd closed list of parts
abbrev pub AreSidesOf : (ℕ → ℕ → Bool) → List ℕ → ℕ → List (List ℕ) → PartSides → Type 0
AreSidesOf M S row parts (found.Found sides) = AreSides M row parts sides
AreSidesOf M S row parts (found.OddCycle cycle) = IsOddClosed M S row cycle
