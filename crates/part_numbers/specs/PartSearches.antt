-- A search for the connected parts of a core.
use Rattle.std.specs.Prelude.{◌≡◌, ◌≢◌, ◌<◌, ◌≤◌, ◌+◌, ◌++◌, ◌⊎◌, ◌↔◌, ℕ, ℤ, pos, Bool, true, false, List, [], ◌∷◌, length, take, Contains}
use Rattle.std.specs.List.{AllByRecursion}
use Rattle.cmr_base.specs.declared.line.Line.{Line}
use Rattle.cmr_base.specs.declared.line.Line.TheVariants.{Row, Column}
use Rattle.cmr_base.specs.Matrix.{entry}
use Rattle.cmr_base.specs.Reductions.{HasLine}
use Rattle.ghouila.specs.Found.{marked}
use Rattle.sparse_matrix.specs.LineMarks.{is_marked}
use Rattle.sparse_matrix.specs.declared.nonzero.Nonzero.{Nonzero}
use Rattle.sparse_matrix.specs.SparseRows.{SparseRows, matrix_of_runs, run_of}
use Rattle.sparse_core.specs.declared.removal.TwoCore.{TwoCore}
use Rattle.part_numbers.specs.declared.reached.Search.{Search}
use Rattle.part_numbers.specs.PartNumbering.{part_number}
use Rattle.part_numbers.specs.ConnectedParts.{AreApartWithin}

-- a mark for each line
pub record AreMarksOf (m : SparseRows) (core : TwoCore) : Type 0 where
  pub rows : length core.rows.items ≡ length m.runs
  pub columns : length core.columns.items ≡ m.width

-- a number and a mark for each line
pub record IsSized (m : SparseRows) (search : Search) : Type 0 where
  pub of_rows : length search.of_rows.items ≡ length m.runs
  pub of_columns : length search.of_columns.items ≡ m.width
  pub rows : length search.rows.items ≡ length m.runs
  pub columns : length search.columns.items ≡ m.width

abbrev pub is_in_core : TwoCore → Line → Bool
is_in_core core (Row row) = is_marked core.rows.items row
is_in_core core (Column column) = is_marked core.columns.items column

abbrev pub is_reached : Search → Line → Bool
is_reached search (Row row) = is_marked search.rows.items row
is_reached search (Column column) = is_marked search.columns.items column

abbrev pub reached_number : Search → Line → ℕ
reached_number search (Row row) = part_number search.of_rows.items row
reached_number search (Column column) = part_number search.of_columns.items column

-- how many lines are reached
abbrev pub reached_count : Search → ℕ
reached_count search = length (marked search.rows.items) + length (marked search.columns.items)

-- the line with this number that crosses a line
abbrev pub crossing_line : Line → ℕ → Line
crossing_line (Row row) number = Column number
crossing_line (Column column) number = Row number

-- the nonzeros of a line
abbrev pub line_run : (m t : SparseRows) → Line → List Nonzero
line_run m t (Row row) = run_of m row
line_run m t (Column column) = run_of t column

-- a row and a column with a nonzero
abbrev pub AreAdjacent : (ℕ → ℕ → ℤ) → Line → Line → Type 0
AreAdjacent M (Row row) (Row other) = ⊥
AreAdjacent M (Row row) (Column column) = M row column ≢ pos 0
AreAdjacent M (Column column) (Row row) = M row column ≢ pos 0
AreAdjacent M (Column column) (Column other) = ⊥

-- each set of lines that is apart from the other lines of the core contains both lines, or neither
abbrev pub AreInseparable : SparseRows → TwoCore → Line → Line → Type 0
AreInseparable m core line other = (R C : List ℕ) → AreApartWithin (entry (matrix_of_runs m)) (marked core.rows.items) (marked core.columns.items) R C → HasLine R C line ↔ HasLine R C other

-- the line is reached, with the number of another line
pub record IsReachedWith (search : Search) (line other : Line) : Type 0 where
  pub reached : is_reached search line ≡ true
  pub number : reached_number search line ≡ reached_number search other

-- the lines of the core with a nonzero in this line are reached, with its number
abbrev pub IsFollowed : SparseRows → TwoCore → Search → Line → Type 0
IsFollowed m core search line = (other : Line) → is_in_core core other ≡ true → AreAdjacent (entry (matrix_of_runs m)) line other → IsReachedWith search other line

-- a line of the core that is not reached
pub record IsFree (core : TwoCore) (search : Search) (line : Line) : Type 0 where
  pub inside : is_in_core core line ≡ true
  pub free : is_reached search line ≡ false

-- no line is reached
pub record IsFirstSearch (m : SparseRows) (search : Search) : Type 0 where
  pub sized : IsSized m search
  pub none : (line : Line) → is_reached search line ≡ false
  pub queue : search.queue.items ≡ []
  pub count : reached_count search ≡ 0

-- lines of the core are reached, those of one number are inseparable, and the queue contains each of them once
pub record IsSearched (m : SparseRows) (core : TwoCore) (search : Search) : Type 0 where
  pub sized : IsSized m search
  pub within : (line : Line) → is_reached search line ≡ true → is_in_core core line ≡ true
  pub inseparable : (line other : Line) → is_reached search line ≡ true → IsReachedWith search other line → AreInseparable m core line other
  pub queued : (line : Line) → is_reached search line ≡ true → Contains search.queue.items line
  pub reached : AllByRecursion (λ line. is_reached search line ≡ true) search.queue.items
  pub counted : length search.queue.items ≡ reached_count search

-- while the lines of a part are reached: those of the parts before are followed
pub record GrowsPart (m : SparseRows) (core : TwoCore) (part : ℕ) (search : Search) : Type 0 where
  pub searched : IsSearched m core search
  pub at_most : (line : Line) → is_reached search line ≡ true → reached_number search line ≤ part
  pub followed : (line : Line) → is_reached search line ≡ true → IsFollowed m core search line ⊎ (reached_number search line ≡ part)

-- between parts: each line that is reached is followed
pub record FollowsAll (m : SparseRows) (core : TwoCore) (count : ℕ) (search : Search) : Type 0 where
  pub searched : IsSearched m core search
  pub below : (line : Line) → is_reached search line ≡ true → reached_number search line < count
  pub followed : (line : Line) → is_reached search line ≡ true → IsFollowed m core search line

-- the lines of the queue before a place are followed
abbrev pub AreFollowedTo : SparseRows → TwoCore → Search → ℕ → Type 0
AreFollowedTo m core search place = AllByRecursion (λ line. IsFollowed m core search line) (take place search.queue.items)

-- one more line is reached, with this number
pub record ReachesLine (before after : Search) (line : Line) (part : ℕ) : Type 0 where
  pub reached : is_reached after line ≡ true
  pub number : reached_number after line ≡ part
  pub others_reached : (other : Line) → other ≢ line → is_reached after other ≡ is_reached before other
  pub other_numbers : (other : Line) → other ≢ line → reached_number after other ≡ reached_number before other
  pub queue : after.queue.items ≡ before.queue.items ++ line ∷ []
  pub count : reached_count after ≡ reached_count before + 1

-- lines are reached with this number, and the lines before keep theirs
pub record ReachesLines (part : ℕ) (before after : Search) : Type 0 where
  pub reached : (line : Line) → is_reached before line ≡ true → is_reached after line ≡ true
  pub numbers : (line : Line) → is_reached before line ≡ true → reached_number after line ≡ reached_number before line
  pub others : (line : Line) → is_reached after line ≡ true → (is_reached before line ≡ true) ⊎ (reached_number after line ≡ part)
  pub queue : (lines : List Line) × (after.queue.items ≡ before.queue.items ++ lines)

-- a row of the part before another row
pub record HasRowBefore (search : Search) (part row : ℕ) : Type 0 where
  pub first : ℕ
  pub before : first < row
  pub reached : is_marked search.rows.items first ≡ true
  pub number : part_number search.of_rows.items first ≡ part

-- the parts of the rows of the core before a row, in the order of their first rows
pub record HasRowsBefore (core : TwoCore) (search : Search) (row count : ℕ) : Type 0 where
  pub reached : (other : ℕ) → other < row → is_marked core.rows.items other ≡ true → is_marked search.rows.items other ≡ true
  pub started : (part : ℕ) → part < count → HasRowBefore search part row
  pub ordered : (other part : ℕ) → is_marked search.rows.items other ≡ true → part < part_number search.of_rows.items other → HasRowBefore search part other
