-- Sets of lines that grow until they are closed.
use Rattle.std.specs.Prelude.{◌≡◌, ◌<◌, ◌≤◌, ◌+◌, ◌⊎◌, ◌↔◌, ℕ, ℤ, Bool, true, false, List, length}
use Rattle.std.specs.List.{AllByRecursion}
use Rattle.cmr_base.specs.declared.line.Line.{Line}
use Rattle.cmr_base.specs.declared.line.Line.TheVariants.{Row, Column}
use Rattle.cmr_base.specs.Matrix.{Matrix, height, entry}
use Rattle.cmr_base.specs.LineSets.{first_lines}
use Rattle.cmr_base.specs.Members.{IsIn}
use Rattle.cmr_base.specs.Separations.{Lines, count_lines_in, opposite}
use Rattle.cmr_base.specs.Seeds.{HasAll, IsClosed, IsGrown, IsLine}
use Rattle.line_growth.specs.declared.growing_set.GrowingSet.{GrowingSet}
use Rattle.line_growth.specs.declared.rule.GrowthRule.{GrowthRule}
use Rattle.line_growth.specs.GrowingLines.{HasGrown, count_left, is_inside, room}
use Rattle.line_growth.specs.Rules.{lower_of, upper_of}

-- the lines of the set
abbrev pub set_of : GrowingSet → Lines
set_of set (Row row) = is_inside set.rows row
set_of set (Column column) = is_inside set.columns column

-- the set has room for the lines of the matrix
pub record IsSizedFor (m : Matrix) (set : GrowingSet) : Type 0 where
  pub rows : set.rows.inside.size ≡ height m
  pub columns : set.columns.inside.size ≡ m.width

-- both sets have room for the same lines
pub record HasSameSizes (before after : GrowingSet) : Type 0 where
  pub rows : after.rows.inside.size ≡ before.rows.inside.size
  pub columns : after.columns.inside.size ≡ before.columns.inside.size

-- a line for which the set has room
abbrev pub HasRoomFor : GrowingSet → Line → Type 0
HasRoomFor set = IsLine set.rows.inside.size set.columns.inside.size

-- a bound on the remaining work
abbrev pub work : GrowingSet → ℕ
work set = room set.rows + room set.columns

-- no line outside breaks a rule with a line inside
abbrev pub IsClosedIn : Matrix → (upper lower : ℕ → ℕ → ℤ) → Lines → Type 0
IsClosedIn m upper lower T = IsClosed (height m) m.width (entry m) upper lower T

-- The set contains the start, and each closed set with the start contains the set. If a line breaks a rule with a line of the
-- set, the line of the set waits.
pub record IsGrowing (m : Matrix) (upper_entry lower_entry : ℕ → ℕ → ℤ) (start : List Line) (set : GrowingSet) : Type 0 where
  pub has : HasAll (set_of set) start
  pub least : (T : Lines) → IsClosedIn m upper_entry lower_entry T → HasAll T start → (x : Line) → IsLine (height m) m.width x → set_of set x ≡ true → T x ≡ true
  pub upper : (r k : ℕ) → r < height m → k < m.width → set_of set (Row r) ≡ true → set_of set (Column k) ≡ false
      → IsIn r set.rows.fresh ⊎ (entry m r k ≡ upper_entry r k)
  pub lower : (r k : ℕ) → r < height m → k < m.width → set_of set (Row r) ≡ false → set_of set (Column k) ≡ true
      → IsIn k set.columns.fresh ⊎ (entry m r k ≡ lower_entry r k)

-- a set that is growing from a start before is growing from it after
abbrev pub KeepsGrowing : Matrix → (upper lower : ℕ → ℕ → ℤ) → GrowingSet → GrowingSet → Type 0
KeepsGrowing m upper lower before after = (start : List Line) → IsGrowing m upper lower start before → IsGrowing m upper lower start after

-- ---- lines outside that break a rule with a line inside

-- the row breaks the lower rule with a column of the set
abbrev pub PullsRow : Matrix → (lower : ℕ → ℕ → ℤ) → GrowingSet → ℕ → Type 0
PullsRow m lower set row = (column : ℕ) × (column < m.width) × (set_of set (Column column) ≡ true) × ¬ (entry m row column ≡ lower row column)

-- the column breaks the upper rule with a row of the set
abbrev pub PullsColumn : Matrix → (upper : ℕ → ℕ → ℤ) → GrowingSet → ℕ → Type 0
PullsColumn m upper set column = (row : ℕ) × (row < height m) × (set_of set (Row row) ≡ true) × ¬ (entry m row column ≡ upper row column)

-- of the first `most` rows, those that break the lower rule with a column of the set are added
pub record HasSweptRows (m : Matrix) (lower : ℕ → ℕ → ℤ) (most : ℕ) (before after : GrowingSet) : Type 0 where
  pub columns : after.columns ≡ before.columns
  pub grown : HasGrown (PullsRow m lower before) before.rows after.rows
  pub agree : (row column : ℕ) → row < most → set_of after (Row row) ≡ false → set_of before (Column column) ≡ true → entry m row column ≡ lower row column

-- of the first `most` columns, those that break the upper rule with a row of the set are added
pub record HasSweptColumns (m : Matrix) (upper : ℕ → ℕ → ℤ) (most : ℕ) (before after : GrowingSet) : Type 0 where
  pub rows : after.rows ≡ before.rows
  pub grown : HasGrown (PullsColumn m upper before) before.columns after.columns
  pub agree : (row column : ℕ) → column < most → set_of before (Row row) ≡ true → set_of after (Column column) ≡ false → entry m row column ≡ upper row column

-- Each row outside that breaks the lower rule with a column of the set is added, and then each column outside that breaks the
-- upper rule with a row of the new set. No other line is added. No row waits. Each new column waits, and no other column does.
pub record HasSwept (m : Matrix) (upper lower : ℕ → ℕ → ℤ) (before after : GrowingSet) : Type 0 where
  pub rows : (row : ℕ) → row < height m → (set_of after (Row row) ≡ true) ↔ ((set_of before (Row row) ≡ true) ⊎ PullsRow m lower before row)
  pub columns : (column : ℕ) → column < m.width → (set_of after (Column column) ≡ true) ↔ ((set_of before (Column column) ≡ true) ⊎ PullsColumn m upper after column)
  pub no_row_waits : length after.rows.fresh ≡ 0
  pub new_wait : (column : ℕ) → set_of after (Column column) ≡ true → (set_of before (Column column) ≡ true) ⊎ IsIn column after.columns.fresh
  pub no_others_wait : length after.columns.fresh + count_left after.columns ≡ count_left before.columns

-- ---- the lines outside a set

abbrev pub HasNone : Lines → List Line → Type 0
HasNone S lines = AllByRecursion (λ line. S line ≡ false) lines

-- the set has none of the lines `out`, and at least `least` lines are outside
pub record Leaves (m : Matrix) (out : List Line) (least : ℕ) (S : Lines) : Type 0 where
  pub none : HasNone S out
  pub enough : least ≤ count_lines_in (opposite S) (first_lines (height m)) (first_lines m.width)

-- no closed set with the start satisfies `Leaves`
abbrev pub HasNoLeaving : Matrix → GrowthRule → (start out : List Line) → ℕ → Type 0
HasNoLeaving m rule start out least = (T : Lines) → IsClosedIn m (upper_of m rule) (lower_of m rule) T → HasAll T start → ¬ (Leaves m out least T)

-- the set is the least closed set with the start, and it satisfies `Leaves`
pub record IsLeaving (m : Matrix) (rule : GrowthRule) (start out : List Line) (least : ℕ) (S : Lines) : Type 0 where
  pub grown : IsGrown (height m) m.width (entry m) (upper_of m rule) (lower_of m rule) start S
  pub leaves : Leaves m out least S

-- the set is the least closed set with the start and satisfies `Leaves`, or no closed set with the start does
abbrev pub DecidesLeaving : Matrix → GrowthRule → (start out : List Line) → ℕ → Bool → Lines → Type 0
DecidesLeaving m rule start out least true S = IsLeaving m rule start out least S
DecidesLeaving m rule start out least false S = HasNoLeaving m rule start out least
