-- Rows that split the other rows, and matrices that are graphic by splitting (Tutte; Schrijver, chapter 20). M is the support. S lists
-- the rows in use; all columns are in use.
use Rattle.std.specs.Prelude.{◌≡◌, ◌≢◌, ◌<◌, ◌≤◌, ◌⊎◌, ◌↔◌, ◌+◌, ◌++◌, ◌==◌, ◌&&◌, ◌||◌, not, ℕ, zero, suc, Bool, true, false, List, [], ◌∷◌, filter, length, slice_index_or}
use Rattle.std.specs.List.Sorted.{IsStrictlyIncreasing}
use Rattle.cmr_base.specs.Matrix.{Matrix, height}
use Rattle.cmr_base.specs.LineSets.{first_lines}
use Rattle.cmr_base.specs.Members.{IsIn}
use Rattle.cmr_base.specs.Trees.{support}

module _ (M : ℕ → ℕ → Bool) where
  -- rows j and k share a column in which row i is 0
  abbrev pub AreJoined : ℕ → ℕ → ℕ → Type 0
  AreJoined i j k = (column : ℕ) × (M i column ≡ false) × (M j column ≡ true) × (M k column ≡ true)

  -- a chain of rows from row j over rows of S to row k, each joined to the next
  abbrev pub LeadsTo : List ℕ → ℕ → ℕ → List ℕ → ℕ → Type 0
  LeadsTo S i j [] k = j ≡ k
  LeadsTo S i j (x ∷ rows) k = IsIn x S × AreJoined i j x × LeadsTo S i x rows k

  -- rows j and k are in one part of the rows except i
  abbrev pub AreLinked : List ℕ → ℕ → ℕ → ℕ → Type 0
  AreLinked S i j k = (rows : List ℕ) × LeadsTo S i j rows k

  -- the rows except i form two or more parts
  pub record Splits (S : List ℕ) (i : ℕ) : Type 0 where
    pub here : IsIn i S
    pub one : ℕ
    pub two : ℕ
    pub one_in : IsIn one S
    pub two_in : IsIn two S
    pub one_other : one ≢ i
    pub two_other : two ≢ i
    pub apart : ¬ (AreLinked S i one two)

  -- no column has three or more nonzeros
  abbrev pub HasNoThree : List ℕ → Type 0
  HasNoThree S = (column r s t : ℕ) → IsIn r S → IsIn s S → IsIn t S → M r column ≡ true → M s column ≡ true → M t column ≡ true → r ≢ s → r ≢ t → s ≢ t → ⊥

  -- the column is in the common support of row i and of some row of part Q
  abbrev pub IsCommon : ℕ → List ℕ → ℕ → Type 0
  IsCommon i Q column = (M i column ≡ true) × ((k : ℕ) × IsIn k Q × (M k column ≡ true))

  -- the columns that row i has in common with part Q are all in row j, or none of them is
  abbrev pub IsUncut : ℕ → List ℕ → ℕ → Type 0
  IsUncut i Q j = ((column : ℕ) → IsCommon i Q column → M j column ≡ true) ⊎ ((column : ℕ) → IsCommon i Q column → M j column ≡ false)

  abbrev pub IsUncutBy : ℕ → List ℕ → List ℕ → Type 0
  IsUncutBy i Q P = (j : ℕ) → IsIn j P → IsUncut i Q j

  -- two parts can be on one side of row i: no row of one part cuts the other part's common columns
  abbrev pub Agree : ℕ → List ℕ → List ℕ → Type 0
  Agree i P Q = IsUncutBy i Q P ⊎ IsUncutBy i P Q

  -- names for the parts of the rows except i
  abbrev pub IsNaming : List ℕ → ℕ → (ℕ → ℕ) → Type 0
  IsNaming S i part = (j k : ℕ) → IsIn j S → IsIn k S → j ≢ i → k ≢ i → (part j ≡ part k) ↔ AreLinked S i j k

  -- the first row that splits
  pub record IsFirstSplit (S : List ℕ) (i : ℕ) : Type 0 where
    pub before : List ℕ
    pub after : List ℕ
    pub place : S ≡ before ++ i ∷ after
    pub splits : Splits S i
    pub none : (r : ℕ) → IsIn r before → ¬ (Splits S r)

-- the rows of the part with a name, without row i
abbrev pub part_rows : (ℕ → ℕ) → ℕ → ℕ → List ℕ → List ℕ
part_rows part i name S = filter (λ k. not (k == i) && part k == name) S

-- the same rows with row i
abbrev pub with_row : (ℕ → ℕ) → ℕ → ℕ → List ℕ → List ℕ
with_row part i name S = filter (λ k. k == i || part k == name) S

-- At the first row that splits, the parts have two sides so that parts on one side agree, and each part with this row
-- satisfies `Rest`.
pub record HasSplit (M : ℕ → ℕ → Bool) (Rest : List ℕ → Type 0) (S : List ℕ) : Type 0 where
  pub row : ℕ
  pub first : IsFirstSplit M S row
  pub part : ℕ → ℕ
  pub naming : IsNaming M S row part
  pub side : ℕ → Bool
  pub whole : (j k : ℕ) → IsIn j S → IsIn k S → j ≢ row → k ≢ row → part j ≡ part k → side j ≡ side k
  pub agree : (j k : ℕ) → IsIn j S → IsIn k S → j ≢ row → k ≢ row → part j ≢ part k → side j ≡ side k
      → Agree M row (part_rows part row (part j) S) (part_rows part row (part k) S)
  pub rest : (j : ℕ) → IsIn j S → j ≢ row → Rest (with_row part row (part j) S)

-- graphic by splitting, with splits nested at most to the given depth
abbrev pub SplitsGraphically : (ℕ → ℕ → Bool) → ℕ → List ℕ → Type 0
SplitsGraphically M zero S = HasNoThree M S
SplitsGraphically M (suc n) S = HasNoThree M S ⊎ HasSplit M (SplitsGraphically M n) S

abbrev pub IsGraphicBySplitting : Matrix → Type 0
IsGraphicBySplitting m = SplitsGraphically (support m) (height m) (first_lines (height m))

-- ---- the parts as lists

-- The parts of the rows except i, each an increasing list, in the order of their least rows. Two rows are in one part if and only
-- if they are linked.
pub record AreParts (M : ℕ → ℕ → Bool) (S : List ℕ) (i : ℕ) (parts : List (List ℕ)) : Type 0 where
  pub all : (k : ℕ) → IsIn k S → k ≢ i → (a : ℕ) × (a < length parts) × IsIn k (slice_index_or parts a [])
  pub only : (a k : ℕ) → a < length parts → IsIn k (slice_index_or parts a []) → IsIn k S × (k ≢ i)
  pub linked : (a j k : ℕ) → a < length parts → IsIn j (slice_index_or parts a []) → IsIn k (slice_index_or parts a []) → AreLinked M S i j k
  pub apart : (a b j k : ℕ) → a < length parts → b < length parts → a ≢ b → IsIn j (slice_index_or parts a []) → IsIn k (slice_index_or parts b []) → ¬ (AreLinked M S i j k)
  pub filled : (a : ℕ) → a < length parts → 0 < length (slice_index_or parts a [])
  pub increasing : (a : ℕ) → a < length parts → IsStrictlyIncreasing (slice_index_or parts a [])
  pub ordered : (a b : ℕ) → a < b → b < length parts → slice_index_or (slice_index_or parts a []) 0 0 < slice_index_or (slice_index_or parts b []) 0 0

-- a side, 0 or 1, for each part, so that parts on one side agree
pub record AreSides (M : ℕ → ℕ → Bool) (i : ℕ) (parts : List (List ℕ)) (sides : List ℕ) : Type 0 where
  pub count : length sides ≡ length parts
  pub two : (a : ℕ) → a < length sides → slice_index_or sides a 0 ≤ 1
  pub agree : (a b : ℕ) → a < length parts → b < length parts → a ≢ b → slice_index_or sides a 0 ≡ slice_index_or sides b 0
      → Agree M i (slice_index_or parts a []) (slice_index_or parts b [])

-- one of the parts of the rows except i
abbrev pub IsPart : (ℕ → ℕ → Bool) → List ℕ → ℕ → List ℕ → Type 0
IsPart M S i P = (parts : List (List ℕ)) × AreParts M S i parts × ((a : ℕ) × (a < length parts) × (slice_index_or parts a [] ≡ P))

-- An odd closed list of parts: each part differs from the next and does not agree with it, as does the last part with the first.
pub record IsOddClosed (M : ℕ → ℕ → Bool) (S : List ℕ) (i : ℕ) (cycle : List (List ℕ)) : Type 0 where
  pub half : ℕ
  pub odd : length cycle ≡ half + half + 1
  pub three : 3 ≤ length cycle
  pub parts : (a : ℕ) → a < length cycle → IsPart M S i (slice_index_or cycle a [])
  pub next : (a : ℕ) → a + 1 < length cycle → (slice_index_or cycle a [] ≢ slice_index_or cycle (a + 1) []) × (¬ Agree M i (slice_index_or cycle a []) (slice_index_or cycle (a + 1) []))
  pub closed : (a : ℕ) → a + 1 ≡ length cycle → (slice_index_or cycle a [] ≢ slice_index_or cycle 0 []) × (¬ Agree M i (slice_index_or cycle a []) (slice_index_or cycle 0 []))
