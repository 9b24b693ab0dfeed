-- The rows, or the columns, of a growing set of lines.
use Rattle.std.specs.Prelude.{◌≡◌, ◌<◌, ◌≤◌, ◌+◌, ◌⊎◌, ℕ, Bool, true, false, not, List, length}
use Rattle.cmr_base.specs.BitSets.{Bits}
use Rattle.cmr_base.specs.ColumnSets.{has_column}
use Rattle.cmr_base.specs.Members.{IsIn}
use Rattle.cmr_base.specs.Planes.{has_bit}
use Rattle.cmr_base.specs.Seeds.{count as number_of_lines}

-- the lines inside, and those of them whose pulls are not followed yet
pub record Growth : Type 0 where
  pub inside : Bits
  pub fresh : List ℕ

abbrev pub is_inside : Growth → ℕ → Bool
is_inside lines line = has_column lines.inside.words line

-- the number of lines outside
abbrev pub count_left : Growth → ℕ
count_left lines = number_of_lines (λ line. not (is_inside lines line)) lines.inside.size

-- the invariant of the type `GrowingLines`: lines that wait are inside, and `outside` lines are outside
pub record IsGrowth (lines : Growth) (outside : ℕ) : Type 0 where
  pub fresh_in : (line : ℕ) → IsIn line lines.fresh → line < lines.inside.size
  pub fresh_inside : (line : ℕ) → IsIn line lines.fresh → is_inside lines line ≡ true
  pub left : outside ≡ count_left lines

-- the number of lines that can still be added or whose pulls are not followed yet
abbrev pub room : Growth → ℕ
room lines = count_left lines + length lines.fresh

-- only lines that satisfy P are added, and they wait
pub record HasGrown (P : ℕ → Type 0) (before after : Growth) : Type 0 where
  pub size : after.inside.size ≡ before.inside.size
  pub kept : (line : ℕ) → is_inside before line ≡ true → is_inside after line ≡ true
  pub only : (line : ℕ) → is_inside after line ≡ true → (is_inside before line ≡ true) ⊎ P line
  pub news : (line : ℕ) → is_inside after line ≡ true → (is_inside before line ≡ true) ⊎ IsIn line after.fresh
  pub waits : (line : ℕ) → IsIn line before.fresh → IsIn line after.fresh
  pub room_same : room after ≡ room before

-- the line is the line of a bit of a word; bit k is the line `first` + k
abbrev pub IsBitOf : (first word line : ℕ) → Type 0
IsBitOf first word line = (k : ℕ) × (k < 64) × (has_bit word k ≡ true) × (line ≡ first + k)

-- the lines at which a test fails are added
pub record HasPulled (agrees : ℕ → Type 0) (before after : Growth) : Type 0 where
  pub grown : HasGrown (λ line. ¬ (agrees line)) before after
  pub agree : (line : ℕ) → line < after.inside.size → is_inside after line ≡ false → agrees line

-- another line is in the set
pub record HasAdded (line : ℕ) (before after : Growth) : Type 0 where
  pub line_in : is_inside after line ≡ true
  pub grown : HasGrown (λ other. other ≡ line) before after

-- a waiting line is taken to follow its pulls
pub record HasTaken (line : ℕ) (before after : Growth) : Type 0 where
  pub inside_same : after.inside ≡ before.inside
  pub line_inside : is_inside before line ≡ true
  pub line_in : line < before.inside.size
  pub others : (other : ℕ) → IsIn other before.fresh → (other ≡ line) ⊎ IsIn other after.fresh
  pub room_less : room after + 1 ≡ room before

-- the first line outside that is at least `from`
pub record IsNextOutside (lines : Growth) (from next : ℕ) : Type 0 where
  pub low : from ≤ next
  pub line_in : next < lines.inside.size
  pub outside : is_inside lines next ≡ false
  pub between : (line : ℕ) → from ≤ line → line < next → is_inside lines line ≡ true

-- some line of the set fails a test, or none does
abbrev pub DecidesUnlike : Bool → (agrees : ℕ → Type 0) → Growth → Type 0
DecidesUnlike true agrees lines = (line : ℕ) × (line < lines.inside.size) × (is_inside lines line ≡ true) × ¬ (agrees line)
DecidesUnlike false agrees lines = (line : ℕ) → is_inside lines line ≡ true → agrees line
