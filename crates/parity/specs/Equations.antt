-- Equations over GF(2). A set of columns is the number whose bits are its columns. An equation is a set of columns, and a solution has an
-- even number of columns in common with it.
use Rattle.std.specs.Prelude.{◌≡◌, ◌<◌, ◌≤◌, ◌⊎◌, ◌+◌, ◌*◌, ◌%◌, ◌^◌, ◌==◌, if◌then◌else◌, ℕ, List, [], ◌∷◌, bit_and, bit_xor, count_ones, length, slice_index_or, take}
use Rattle.std.specs.List.{AllByRecursion}
use Rattle.std.specs.Int.{bit_at}
use Rattle.parity.specs.declared.narrow.Equation.{Equation}

-- the number of a list of words, the lowest word first
abbrev pub number_of : List ℕ → ℕ
number_of [] = 0
number_of (word ∷ words) = number_of words * 2 ^ 64 + word

-- the parity of the number of columns in both sets
abbrev pub common : ℕ → ℕ → ℕ
common a b = count_ones (bit_and a b) % 2

-- the least column of the set
pub record IsLowest (number column : ℕ) : Type 0 where
  pub there : bit_at number column ≡ 1
  pub none_below : (other : ℕ) → other < column → bit_at number other ≡ 0

-- equations in sets of `words` words
pub record System : Type 0 where
  pub words : ℕ
  pub equations : List Equation

-- one equation added if its pivot is in the set
abbrev pub cleared_by : Equation → ℕ → ℕ
cleared_by e number = if bit_at number e.pivot == 1 then bit_xor number e.columns else number

-- all equations added, from the first to the last
abbrev pub reduced_by : List Equation → ℕ → ℕ
reduced_by [] number = number
reduced_by (e ∷ es) number = reduced_by es (cleared_by e number)

-- the pivot toggled if the equation does not hold
abbrev pub corrected_by : Equation → ℕ → ℕ
corrected_by e number = if common e.columns number == 1 then bit_xor number (2 ^ e.pivot) else number

-- all equations corrected, from the last to the first
abbrev pub solved : List Equation → ℕ → ℕ
solved [] number = number
solved (e ∷ es) number = corrected_by e (solved es number)

-- a basis of the equations of some rows: its equations follow from the rows, and they reduce the rows to 0; all are sets of the first
-- columns, without the columns that are excluded
pub record IsBasis (width excluded : ℕ) (rows : List ℕ) (es : List Equation) : Type 0 where
  pub follow : (set : ℕ) → AllByRecursion (λ row. common row set ≡ 0) rows → AllByRecursion (λ e. common e.columns set ≡ 0) es
  pub cleared : AllByRecursion (λ row. reduced_by es row ≡ 0) rows
  pub lowest : AllByRecursion (λ e. IsLowest e.columns e.pivot) es
  pub apart : AllByRecursion (λ e. bit_and e.columns excluded ≡ 0) es
  pub small : AllByRecursion (λ e. e.columns < 2 ^ width) es

-- an equation added to each word after a position that contains its pivot; no other word changes
pub record IsAddedToLater (e : Equation) (place : ℕ) (before after : List ℕ) : Type 0 where
  pub prefix : (at : ℕ) → at ≤ place → slice_index_or after at 0 ≡ slice_index_or before at 0
  pub later : (at : ℕ) → place < at → at < length before → slice_index_or after at 0 ≡ cleared_by e (slice_index_or before at 0)

-- the word at a position, as an equation with its least column as the pivot, added to the words after it; nothing changes if the word is 0
abbrev pub AreCleared : ℕ → List ℕ → List ℕ → Type 0
AreCleared place before after = ((slice_index_or before place 0 ≡ 0) × (after ≡ before))
    ⊎ ((pivot : ℕ) × IsLowest (slice_index_or before place 0) pivot × IsAddedToLater (record { pivot = pivot; columns = slice_index_or before place 0 }) place before after)

-- the words from a position on are reduced by a basis of the words before it
pub record IsReducedBy (width excluded place : ℕ) (before after : List ℕ) : Type 0 where
  pub equations : List Equation
  pub basis : IsBasis width excluded (take place before) equations
  pub rest : (at : ℕ) → place ≤ at → at < length before → slice_index_or after at 0 ≡ reduced_by equations (slice_index_or before at 0)

abbrev pub AreReduced : ℕ → List ℕ → List ℕ → Type 0
AreReduced place before after = (width excluded : ℕ) → AllByRecursion (λ word. (bit_and word excluded ≡ 0) × (word < 2 ^ width)) before → IsReducedBy width excluded place before after
