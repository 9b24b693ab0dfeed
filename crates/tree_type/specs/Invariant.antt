-- The properties of every decomposition tree.
use Rattle.std.specs.Prelude.{◌≡◌, ◌≤◌, ◌<◌, ◌+◌, ◌-◌, ℕ, length, Contains}
use Rattle.std.specs.List.{AllByRecursion}
use Rattle.std.specs.List.Sorted.{IsStrictlyIncreasing}
use Rattle.cmr_base.specs.declared.limits.TheConstants.{MAX_COLUMNS, MAX_DEPTH, MAX_ROWS}
use Rattle.cmr_base.specs.declared.line_set.LineSet.{LineSet}
use Rattle.cmr_base.specs.declared.network.Network as net
use Rattle.cmr_base.specs.Matrix.{Matrix}
use Rattle.cmr_base.specs.LineSets.{AllBelow, IsRowSet, IsColumnSet}
use Rattle.cmr_base.specs.Reductions.{HasLine}
use Rattle.cmr_base.specs.Separations.{first_is_flat, second_is_flat}
use Rattle.tree_type.specs.Sides.{HasConnector}
use Rattle.tree_type.specs.DecompositionTrees.{Finding, Cycle, Reduced, OneSum, Network, Conetwork, TwoSum, ThreeSum, Violator, Pivoted, Tree, Trees, Branch, NoTrees, MoreTrees, SizedTree, count_trees, lines_at_root, tree_of}

-- lines of the matrix
pub record AreLines (m : Matrix) (lines : LineSet) : Type 0 where
  pub rows : IsRowSet m lines.rows
  pub columns : IsColumnSet m lines.columns

-- increasing lists of rows and of columns that are subsets of the second set
pub record AreLinesOf (part whole : LineSet) : Type 0 where
  pub rows_increase : IsStrictlyIncreasing part.rows
  pub columns_increase : IsStrictlyIncreasing part.columns
  pub rows : (row : ℕ) → Contains part.rows row → Contains whole.rows row
  pub columns : (column : ℕ) → Contains part.columns column → Contains whole.columns column

-- this number of arcs and of walks, between nodes of a tree with this number of arcs
pub record HasArcsAndWalks (arcs walks : ℕ) (n : net.Network) : Type 0 where
  pub arc_count : length n.arcs ≡ arcs
  pub walk_count : length n.walks ≡ walks
  pub arc_nodes : AllByRecursion (λ pair. (pair.tail ≤ arcs) × (pair.head ≤ arcs)) n.arcs
  pub walk_nodes : AllByRecursion (λ pair. (pair.tail ≤ arcs) × (pair.head ≤ arcs)) n.walks

abbrev pub size_of : LineSet → ℕ
size_of lines = length lines.rows + length lines.columns

-- the lines in the finding of a node are lines of the node, and its lists have the lengths that these lines allow
abbrev pub FitsLines : LineSet → Finding → Trees → Type 0
FitsLines lines (Cycle fault) trees = AreLinesOf fault lines
FitsLines lines (Violator fault) trees = AreLinesOf fault lines
FitsLines lines (Reduced steps) trees = AllByRecursion (HasLine lines.rows lines.columns) steps × (length steps ≤ size_of lines)
FitsLines lines OneSum trees = count_trees trees ≤ size_of lines
FitsLines lines (Network n) trees = HasArcsAndWalks (length lines.rows) (length lines.columns) n
FitsLines lines (Conetwork n) trees = HasArcsAndWalks (length lines.columns) (length lines.rows) n
FitsLines lines (TwoSum two) trees = AreLinesOf two.side lines × Contains lines.rows two.row × Contains lines.columns two.column
FitsLines lines (ThreeSum three) trees = AreLinesOf three.side lines
    × HasConnector (first_is_flat three.form) lines.rows lines.columns three.first
    × HasConnector (second_is_flat three.form) lines.rows lines.columns three.second
FitsLines lines (Pivoted place) trees = Contains lines.rows place.row × Contains lines.columns place.column
FitsLines lines finding trees = Unit {0}

-- the number of children that a finding requires
abbrev pub HasChildren : Finding → ℕ → Type 0
HasChildren (Reduced steps) count = count ≡ 1
HasChildren OneSum count = Unit {0}
HasChildren (TwoSum two) count = count ≡ 2
HasChildren (ThreeSum three) count = count ≡ 2
HasChildren (Pivoted place) count = count ≡ 1
HasChildren finding count = count ≡ 0

abbrev mutual
  -- the node has lines of its parent, its finding fits them, and the same is true of all nodes below it, on at most `levels`
  -- levels
  pub IsTreeWithin : LineSet → ℕ → Tree → Type 0
  IsTreeWithin parent levels (Branch lines finding trees) =
      (0 < levels) × AreLinesOf lines parent × FitsLines lines finding trees × HasChildren finding (count_trees trees) × AreTreesWithin lines (levels - 1) trees

  pub AreTreesWithin : LineSet → ℕ → Trees → Type 0
  AreTreesWithin parent levels NoTrees = Unit {0}
  AreTreesWithin parent levels (MoreTrees tree trees) = IsTreeWithin parent levels tree × AreTreesWithin parent levels trees

-- a tree for a matrix of at most 1,000 rows and columns, with nodes of depth at most 2,000
pub record IsTreeFor (rows columns : ℕ) (tree : Tree) : Type 0 where
  pub rows_in : rows ≤ MAX_ROWS
  pub columns_in : columns ≤ MAX_COLUMNS
  pub root_rows : AllBelow rows (lines_at_root tree).rows
  pub root_columns : AllBelow columns (lines_at_root tree).columns
  pub nodes : IsTreeWithin (lines_at_root tree) (MAX_DEPTH + 1) tree

-- the invariant of every decomposition tree
abbrev pub IsDecTree : SizedTree → Type 0
IsDecTree tree = IsTreeFor tree.rows tree.columns (tree_of tree.root)
