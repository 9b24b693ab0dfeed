-- The outline of a decomposition: a line for each node.
use Rattle.std.specs.Prelude.{◌≤◌, ◌+◌, ◌++◌, ℕ, List, [], length, codes}
use Rattle.cmr_base.specs.declared.limits.TheConstants.{MAX_DEPTH}
use Rattle.std.specs.Fmt.{decimal}
use Rattle.cmr_base.specs.declared.line_set.LineSet.{LineSet}
use Rattle.cmr_base.specs.declared.position.Position.{Position}
use Rattle.tree_type.specs.Invariant.{IsTreeWithin, AreTreesWithin}
use Rattle.tree_type.specs.DecompositionTrees.{Finding, Empty, Cycle, Reduced, OneSum, Network, Conetwork, R10, TwoSum, ThreeSum, Enumerated, Violator, Undecided, Pivoted, Tree, Trees, Branch, NoTrees, MoreTrees}
use Rattle.tree_text.specs.KindWords.{kind_of, word_of_kind}

-- row I column J
abbrev pub pivot_words : Position → List ℕ
pivot_words place = codes " row " ++ decimal (place.row + 1) ++ codes " column " ++ decimal (place.column + 1)

-- the position of the pivot of a node, if it is pivoted
abbrev pub place_words : Finding → List ℕ
place_words Empty = []
place_words (Cycle fault) = []
place_words (Reduced steps) = []
place_words OneSum = []
place_words (Network net) = []
place_words (Conetwork net) = []
place_words R10 = []
place_words (TwoSum two) = []
place_words (ThreeSum three) = []
place_words Enumerated = []
place_words (Violator fault) = []
place_words Undecided = []
place_words (Pivoted place) = pivot_words place

-- the numbers of its rows and columns and the position of its pivot, to the end of the line
abbrev pub size_and_place : LineSet → Finding → List ℕ
size_and_place lines finding = codes " " ++ decimal (length lines.rows) ++ codes "x" ++ decimal (length lines.columns) ++ place_words finding ++ codes "\n"

-- the depth of a node, its kind, its size and the position of its pivot
abbrev pub outline_line : ℕ → LineSet → Finding → List ℕ
outline_line depth lines finding = decimal depth ++ codes " " ++ word_of_kind (kind_of finding) ++ size_and_place lines finding

abbrev mutual
  -- a node, and after it the nodes below it
  pub outline_from : ℕ → Tree → List ℕ
  outline_from depth (Branch lines finding trees) = outline_line depth lines finding ++ outline_below (depth + 1) trees

  pub outline_below : ℕ → Trees → List ℕ
  outline_below depth NoTrees = []
  outline_below depth (MoreTrees tree trees) = outline_from depth tree ++ outline_below depth trees

-- a node at this depth in a tree of at most 2,001 levels
pub record IsAtDepth (depth : ℕ) (tree : Tree) : Type 0 where
  pub parent : LineSet
  pub levels : ℕ
  pub within : IsTreeWithin parent levels tree
  pub few : depth + levels ≤ MAX_DEPTH + 1

-- children of one node at this depth
pub record AreAtDepth (depth : ℕ) (trees : Trees) : Type 0 where
  pub parent : LineSet
  pub levels : ℕ
  pub within : AreTreesWithin parent levels trees
  pub few : depth + levels ≤ MAX_DEPTH + 1
