-- Marks of the columns on the paths from rows to their roots.
use Rattle.std.specs.Prelude.{◌≡◌, ◌≢◌, ◌<◌, ◌⊎◌, ◌==◌, if◌then◌else◌, ℕ, ℤ, pos, ◌+ℤ◌, ◌*ℤ◌, Bool, true, false, List, length, Option, Some, None}
use Rattle.std.specs.List.{AllByRecursion}
use Rattle.cmr_base.specs.Sums.{sum_over, IsEven}
use Rattle.ghouila.specs.Found.{marked}
use Rattle.sparse_matrix.specs.LineMarks.{is_marked}
use Rattle.sparse_matrix.specs.declared.nonzero.Nonzero.{Nonzero}
use Rattle.sparse_matrix.specs.SparseRows.{SparseRows, run_of, sparse_entry}
use Rattle.split_search.specs.declared.forest.Node.{Node}
use Rattle.split_search.specs.declared.forest.Edge.{Edge}
use Rattle.split_search.specs.RowForests.{row_node, node_sign, HasEnds}

abbrev pub above_of : Option Node → Option Edge
above_of None = None
above_of (Some n) = n.above

-- the column above a row that is no root
abbrev pub above_at : List (Option Node) → ℕ → Option Edge
above_at nodes row = above_of (row_node nodes row)

abbrev pub node_root : Option Node → ℕ
node_root None = 0
node_root (Some n) = n.root

abbrev pub root_at : List (Option Node) → ℕ → ℕ
root_at nodes row = node_root (row_node nodes row)

abbrev pub node_number : Option Node → ℕ
node_number None = 0
node_number (Some n) = n.number

abbrev pub minus_of_node : Option Node → Bool
minus_of_node None = false
minus_of_node (Some n) = n.minus

abbrev pub AreSignsOf : List (Option Node) → (ℕ → ℤ) → Type 0
AreSignsOf nodes sign = (row : ℕ) (n : Node) → row_node nodes row ≡ Some n → sign row ≡ node_sign n

-- 1 in this row, and 0 in the others
abbrev pub unit_at : ℕ → ℕ → ℤ
unit_at here row = if here == row then pos 1 else pos 0

-- the sum of a row over the marked columns
abbrev pub marked_sum : SparseRows → List Bool → ℕ → ℤ
marked_sum t marks row = sum_over (marked marks) (λ column. sparse_entry t column row)

-- a column with two nonzeros that cancel
pub record CancelsTwo (t : SparseRows) (sign : ℕ → ℤ) (column : ℕ) : Type 0 where
  pub first : Nonzero
  pub second : Nonzero
  pub ends : HasEnds t column first second
  pub apart : first.line ≢ second.line
  pub cancel : (sign first.line *ℤ first.value) +ℤ (sign second.line *ℤ second.value) ≡ pos 0

-- The marks of the columns on the path from a row up to the row `here` are turned: this turns the parity of the sums of these two rows.
pub record TurnsPath (t : SparseRows) (nodes : List (Option Node)) (before after : List Bool) (from here : ℕ) : Type 0 where
  pub inside : here < t.width
  pub size : length after ≡ length before
  pub even : (row : ℕ) → IsEven ((marked_sum t before row +ℤ marked_sum t after row) +ℤ (unit_at from row +ℤ unit_at here row))
  pub cancel : (sign : ℕ → ℤ) → AreSignsOf nodes sign → (column : ℕ) → is_marked after column ≡ true → (is_marked before column ≡ true) ⊎ CancelsTwo t sign column
  pub root : root_at nodes here ≡ root_at nodes from

-- The marked columns have an even sum in each row. They cancel, except for this column, which is marked if it does not cancel.
pub record IsCycle (t : SparseRows) (nodes : List (Option Node)) (column : ℕ) (marks : List Bool) : Type 0 where
  pub size : length marks ≡ length t.runs
  pub even : (row : ℕ) → IsEven (marked_sum t marks row)
  pub cancel : (sign : ℕ → ℤ) → AreSignsOf nodes sign → (other : ℕ) → is_marked marks other ≡ true → other ≢ column → CancelsTwo t sign other
  pub here : (sign : ℕ → ℤ) → AreSignsOf nodes sign → (CancelsTwo t sign column → ⊥) → is_marked marks column ≡ true

-- the marked rows are those with a nonzero in a marked column
pub record MarkRowsOf (t : SparseRows) (marks row_marks : List Bool) : Type 0 where
  pub all : (column : ℕ) → is_marked marks column ≡ true → AllByRecursion (λ x. is_marked row_marks x.line ≡ true) (run_of t column)
  pub only : (row : ℕ) → is_marked row_marks row ≡ true → (column : ℕ) × (is_marked marks column ≡ true) × (sparse_entry t column row ≢ pos 0)
