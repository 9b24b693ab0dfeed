-- Numbers for the parts of the rows except one, and the states of the walk that assigns them.
use Rattle.std.specs.Prelude.{◌≡◌, ◌≢◌, ◌<◌, ◌≤◌, ◌+◌, ◌==◌, ◌⊎◌, ℕ, suc, Bool, true, false, List, Option, Some, None, filter, map, length, slice_index, slice_index_or}
use Rattle.cmr_base.specs.LineSets.{first_lines}
use Rattle.cmr_base.specs.Matrix.{Matrix, height, IsMatrix}
use Rattle.cmr_base.specs.Members.{IsIn}
use Rattle.cmr_base.specs.Splits.{AreJoined, AreLinked, Splits}
use Rattle.cmr_base.specs.Trees.{support}
use Rattle.cmr_base.specs.ColumnSets.{has_column}
use Rattle.cmr_base.specs.declared.limits.TheConstants.{MAX_ROWS}
use Rattle.bridge_split.specs.declared.part_walk.PartWalk.{PartWalk}
use Rattle.bridge_split.specs.ZeroColumns.{AreZeros}

-- the number of a row's part, if it has one
abbrev pub number_at : List (Option ℕ) → ℕ → Option ℕ
number_at numbers row = slice_index_or numbers row None

abbrev pub is_number : ℕ → Option ℕ → Bool
is_number number None = false
is_number number (Some n) = n == number

abbrev pub is_none : Option ℕ → Bool
is_none None = true
is_none (Some n) = false

-- the rows of S with a given number, and the lists of these rows for the numbers below `count`
abbrev pub numbered_rows : List (Option ℕ) → List ℕ → ℕ → List ℕ
numbered_rows numbers S number = filter (λ row. is_number number (number_at numbers row)) S

abbrev pub numbered_parts : List (Option ℕ) → List ℕ → ℕ → List (List ℕ)
numbered_parts numbers S count = map (numbered_rows numbers S) (first_lines count)

-- room for the numbers of all rows and for sets of columns
pub record HasPartRoom (m : Matrix) (walk : PartWalk) : Type 0 where
  pub matrix : IsMatrix m
  pub numbers : length walk.part.items ≡ height m
  pub columns : walk.reached.size ≡ m.width

-- such room, for the parts of the rows except row i
pub record IsWalkAt (m : Matrix) (i : ℕ) (walk : PartWalk) : Type 0 where
  pub room : HasPartRoom m walk
  pub zeros : AreZeros m i walk.zeros

-- numbers that are assigned stay assigned
abbrev pub KeepsParts : (ℕ → Option ℕ) → (ℕ → Option ℕ) → Type 0
KeepsParts part part' = (k a : ℕ) → part k ≡ Some a → part' k ≡ Some a

-- the number of rows of S without a number
abbrev pub left_in : List ℕ → (ℕ → Option ℕ) → ℕ
left_in S part = length (filter (λ k. is_none (part k)) S)

-- the number is absent, or above a
abbrev pub IsPast : ℕ → Option ℕ → Type 0
IsPast a found = (found ≡ None) ⊎ ((b : ℕ) × (found ≡ Some b) × (a < b))

-- a row that is not row i and has no number yet
abbrev pub IsLeft : ℕ → (ℕ → Option ℕ) → ℕ → Type 0
IsLeft i part x = (x ≢ i) × (part x ≡ None)

-- such a row that is not 0 in a reached column
abbrev pub IsTouched : (ℕ → ℕ → Bool) → ℕ → (ℕ → Option ℕ) → (ℕ → Bool) → ℕ → Type 0
IsTouched M i part reached x = IsLeft i part x × ((column : ℕ) × (reached column ≡ true) × (M x column ≡ true))

module _ (M : ℕ → ℕ → Bool) (S : List ℕ) (i : ℕ) where
  -- the parts of the rows except row i are numbered by their first rows
  pub record ArePartNumbers (part : ℕ → Option ℕ) (count : ℕ) : Type 0 where
    pub numbered : (k : ℕ) → IsIn k S → k ≢ i → (a : ℕ) × (a < count) × (part k ≡ Some a)
    pub own : part i ≡ None
    pub linked : (j k a : ℕ) → part j ≡ Some a → part k ≡ Some a → AreLinked M S i j k
    pub joined : (j k : ℕ) → IsIn j S → IsIn k S → j ≢ i → k ≢ i → AreJoined M i j k → part j ≡ part k
    pub filled : (a : ℕ) → a < count → (k : ℕ) × IsIn k S × (k ≢ i) × (part k ≡ Some a)
    pub ordered : (k a b : ℕ) → part k ≡ Some b → a < b → (j : ℕ) × IsIn j S × (j ≢ i) × (part j ≡ Some a) × (j < k)
    pub few : count ≤ MAX_ROWS

  module _ (part : ℕ → Option ℕ) where
    -- the numbers are below `count`, rows with one number are linked, and the first row of a part increases with the number
    pub record AreMet (count : ℕ) : Type 0 where
      pub others : (k a : ℕ) → part k ≡ Some a → IsIn k S × (k ≢ i) × (a < count)
      pub linked : (j k a : ℕ) → part j ≡ Some a → part k ≡ Some a → AreLinked M S i j k
      pub filled : (a : ℕ) → a < count → (k : ℕ) × (part k ≡ Some a)
      pub ordered : (k a : ℕ) → IsIn k S → k ≢ i → a < count → IsPast a (part k) → (j : ℕ) × (part j ≡ Some a) × (j < k)
      pub few : count ≤ MAX_ROWS

    -- rows that are joined to a row with a number below count have the same number
    abbrev pub AreClosed : ℕ → Type 0
    AreClosed count = (j k a : ℕ) → part j ≡ Some a → a < count → IsIn k S → AreJoined M i j k → part k ≡ Some a

    -- within a part: the reached columns are the columns of its rows except the columns of row i
    pub record IsWalkingPart (number : ℕ) (reached : ℕ → Bool) : Type 0 where
      pub are : AreMet (suc number)
      pub closed : AreClosed number
      pub into : (column : ℕ) → reached column ≡ true → (k : ℕ) × (part k ≡ Some number) × (M k column ≡ true) × (M i column ≡ false)
      pub from : (k column : ℕ) → part k ≡ Some number → M k column ≡ true → M i column ≡ false → reached column ≡ true

    -- between two parts
    pub record IsBetween (count : ℕ) : Type 0 where
      pub are : AreMet count
      pub closed : AreClosed count

    -- the rows of S before `place` have numbers, except row i
    pub record ArePassedRows (place : ℕ) : Type 0 where
      pub passed : (p : ℕ) → p < place → (slice_index S p ≡ i) ⊎ ((a : ℕ) × (part (slice_index S p) ≡ Some a))

-- within a pass over the rows, which has met `met` rows: if it has met none, the rows before `place` are not touched
pub record IsMeeting (m : Matrix) (S : List ℕ) (i number : ℕ) (before now : PartWalk) (met place : ℕ) : Type 0 where
  pub room : IsWalkAt m i now
  pub walk : IsWalkingPart (support m) S i (number_at now.part.items) number (has_column now.reached.words)
  pub keeps : KeepsParts (number_at before.part.items) (number_at now.part.items)
  pub fewer : left_in S (number_at now.part.items) + met ≤ left_in S (number_at before.part.items)
  pub none : met ≡ 0 → (p : ℕ) → p < place → ¬ (IsTouched (support m) i (number_at now.part.items) (has_column now.reached.words) (slice_index S p))
  pub few : met ≤ place

-- within a part whose first row has a number: if the last pass has met no row, no row is touched
pub record IsWalkingFrom (m : Matrix) (S : List ℕ) (i number first : ℕ) (before now : PartWalk) (met : ℕ) : Type 0 where
  pub room : IsWalkAt m i now
  pub walk : IsWalkingPart (support m) S i (number_at now.part.items) number (has_column now.reached.words)
  pub keeps : KeepsParts (number_at before.part.items) (number_at now.part.items)
  pub first_in : number_at now.part.items first ≡ Some number
  pub none : met ≡ 0 → (x : ℕ) → IsIn x S → ¬ (IsTouched (support m) i (number_at now.part.items) (has_column now.reached.words) x)

-- between two parts
pub record IsBetweenParts (m : Matrix) (S : List ℕ) (i count place : ℕ) (walk : PartWalk) : Type 0 where
  pub room : IsWalkAt m i walk
  pub between : IsBetween (support m) S i (number_at walk.part.items) count
  pub before : ArePassedRows (support m) S i (number_at walk.part.items) place
  pub fewer : count ≤ place

-- the rows of S before `place` do not split
pub record IsSearching (m : Matrix) (S : List ℕ) (place : ℕ) (walk : PartWalk) : Type 0 where
  pub room : HasPartRoom m walk
  pub none : (p : ℕ) → p < place → ¬ (Splits (support m) S (slice_index S p))
