-- Forests of rows that are joined by columns with two nonzeros.
use Rattle.std.specs.Prelude.{◌≡◌, ◌≢◌, ◌<◌, ◌≤◌, ◌+◌, ◌⊎◌, if◌then◌else◌, ℕ, ℤ, pos, negsuc, ◌+ℤ◌, ◌*ℤ◌, suc, List, [], ◌∷◌, length, slice_index_or, Contains, Option, Some, None}
use Rattle.std.specs.List.{AllByRecursion}
use Rattle.sparse_matrix.specs.declared.nonzero.Nonzero.{Nonzero}
use Rattle.sparse_matrix.specs.SparseRows.{SparseRows, run_of}
use Rattle.split_search.specs.declared.forest.Node.{Node}
use Rattle.split_search.specs.declared.forest.Edge.{Edge}

-- the node of a row that is reached
abbrev pub row_node : List (Option Node) → ℕ → Option Node
row_node nodes row = slice_index_or nodes row None

abbrev pub node_sign : Node → ℤ
node_sign n = if n.minus then negsuc 0 else pos 1

-- a column with these two nonzeros, in one of the two orders
abbrev pub HasEnds : SparseRows → ℕ → Nonzero → Nonzero → Type 0
HasEnds t column x y = (run_of t column ≡ x ∷ y ∷ []) ⊎ (run_of t column ≡ y ∷ x ∷ [])

-- The row `above` is joined with this row by a column in which they cancel, and it was reached before, in the tree of the same root.
pub record IsBelow (t : SparseRows) (nodes : List (Option Node)) (row : ℕ) (n : Node) (e : Edge) : Type 0 where
  pub here : ℤ
  pub there : ℤ
  pub ends : HasEnds t e.column (record { line = row; value = here }) (record { line = e.row; value = there })
  pub parent : Node
  pub reached : row_node nodes e.row ≡ Some parent
  pub root : parent.root ≡ n.root
  pub number : parent.number < n.number
  pub cancel : (node_sign n *ℤ here) +ℤ (node_sign parent *ℤ there) ≡ pos 0

abbrev pub IsHung : SparseRows → List (Option Node) → ℕ → Node → Option Edge → Type 0
IsHung t nodes row n None = n.root ≡ row
IsHung t nodes row n (Some e) = IsBelow t nodes row n e

abbrev pub IsRowForest : SparseRows → List (Option Node) → Type 0
IsRowForest t nodes = (row : ℕ) (n : Node) → row_node nodes row ≡ Some n → IsHung t nodes row n n.above

-- a column joins reached rows of one root only
abbrev pub JoinsRoots : SparseRows → List (Option Node) → Type 0
JoinsRoots t nodes = (column : ℕ) (x y : Nonzero) (n p : Node) → HasEnds t column x y → row_node nodes x.line ≡ Some n → row_node nodes y.line ≡ Some p → n.root ≡ p.root

-- a column that joins a reached row with a row that is not reached is at a row of this root
abbrev pub OpenAt : SparseRows → List (Option Node) → ℕ → Type 0
OpenAt t nodes root = (column : ℕ) (x y : Nonzero) (n : Node) → HasEnds t column x y → row_node nodes x.line ≡ Some n → row_node nodes y.line ≡ None → n.root ≡ root

-- the rows are numbered in the order in which they are reached
abbrev pub AreNumberedBelow : List (Option Node) → ℕ → Type 0
AreNumberedBelow nodes count = (row : ℕ) (n : Node) → row_node nodes row ≡ Some n → n.number < count

-- no column joins a reached row with a row that is not reached
abbrev pub IsClosedAt : SparseRows → List (Option Node) → ℕ → Type 0
IsClosedAt t nodes column = (x y : Nonzero) (n : Node) → HasEnds t column x y → row_node nodes x.line ≡ Some n → row_node nodes y.line ≡ None → ⊥

abbrev pub IsForestClosed : SparseRows → List (Option Node) → Type 0
IsForestClosed t nodes = (column : ℕ) → IsClosedAt t nodes column

-- if this column joins the row with another row, that row is reached
abbrev pub IsColumnClosed : SparseRows → List (Option Node) → ℕ → ℕ → Type 0
IsColumnClosed t nodes row column = (x y : Nonzero) → HasEnds t column x y → x.line ≡ row → row_node nodes y.line ≢ None

-- the columns join the row with reached rows only
abbrev pub IsRowClosed : SparseRows → List (Option Node) → ℕ → Type 0
IsRowClosed t nodes row = (column : ℕ) → IsColumnClosed t nodes row column

-- the queue has each row that is reached
abbrev pub AreQueued : List (Option Node) → List ℕ → Type 0
AreQueued nodes queue = (row : ℕ) → row_node nodes row ≢ None → Contains queue row

-- only this row is reached and was not before
abbrev pub ReachesOnly : List (Option Node) → List (Option Node) → ℕ → Type 0
ReachesOnly before after new = (row : ℕ) → row_node after row ≢ None → (row ≡ new) ⊎ (row_node before row ≢ None)

-- the queue begins with the one before
pub record HasAppended (before after : List ℕ) : Type 0 where
  pub at_least : length before ≤ length after
  pub same : (k : ℕ) → k < length before → slice_index_or after k 0 ≡ slice_index_or before k 0

-- the first rows of the queue are closed
abbrev pub AreClosedBelow : SparseRows → List (Option Node) → List ℕ → ℕ → Type 0
AreClosedBelow t nodes queue head = (k : ℕ) → k < head → IsRowClosed t nodes (slice_index_or queue k 0)

-- what is reached stays reached
abbrev pub KeepsReached : List (Option Node) → List (Option Node) → Type 0
KeepsReached before after = (row : ℕ) → row_node before row ≢ None → row_node after row ≢ None

-- while the tree of a root grows, and `count` rows are reached
pub record Grows (t : SparseRows) (nodes : List (Option Node)) (root count : ℕ) : Type 0 where
  pub forest : IsRowForest t nodes
  pub joins : JoinsRoots t nodes
  pub free : OpenAt t nodes root
  pub numbered : AreNumberedBelow nodes count

-- the tree of a root has one more row
pub record ReachesRow (t : SparseRows) (before after : List (Option Node)) (root number new : ℕ) : Type 0 where
  pub grows : Grows t after root (number + 1)
  pub size : length after ≡ length before
  pub kept : KeepsReached before after
  pub only : ReachesOnly before after new
  pub reached : row_node after new ≢ None

-- the number of rows that are not reached
abbrev pub unreached : List (Option Node) → ℕ
unreached [] = 0
unreached (None ∷ nodes) = suc (unreached nodes)
unreached (Some n ∷ nodes) = unreached nodes

-- the rows of the queue are those that are reached
pub record IsQueueOf (t : SparseRows) (nodes : List (Option Node)) (queue : List ℕ) : Type 0 where
  pub size : length nodes ≡ t.width
  pub inside : AllByRecursion (λ row. row < t.width) queue
  pub reached : AllByRecursion (λ row. row_node nodes row ≢ None) queue
  pub queued : AreQueued nodes queue

-- while the tree of a root grows
pub record Walks (t : SparseRows) (nodes : List (Option Node)) (root : ℕ) (queue : List ℕ) : Type 0 where
  pub grows : Grows t nodes root (length queue)
  pub queue_is : IsQueueOf t nodes queue

-- between trees: the columns of each row of the queue are closed
pub record IsBetweenTrees (t : SparseRows) (nodes : List (Option Node)) (queue : List ℕ) : Type 0 where
  pub forest : IsRowForest t nodes
  pub joins : JoinsRoots t nodes
  pub numbered : AreNumberedBelow nodes (length queue)
  pub queue_is : IsQueueOf t nodes queue
  pub closed : AreClosedBelow t nodes queue (length queue)

-- the trees reach each row
pub record Spans (t : SparseRows) (nodes : List (Option Node)) : Type 0 where
  pub forest : IsRowForest t nodes
  pub joins : JoinsRoots t nodes
  pub size : length nodes ≡ t.width
  pub reached : (row : ℕ) → row < t.width → row_node nodes row ≢ None
