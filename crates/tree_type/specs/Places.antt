-- The nodes of a tree in preorder, each with its path, the lines that it must have, and the pivots above it.
use Rattle.std.specs.Prelude.{ℕ, zero, suc, List, [], ◌∷◌, ◌++◌}
use Rattle.cmr_base.specs.declared.line.Line.{Line}
use Rattle.cmr_base.specs.declared.line_set.LineSet.{LineSet}
use Rattle.cmr_base.specs.Matrix.{Matrix}
use Rattle.cmr_base.specs.Reductions.{rows_without, columns_without}
use Rattle.cmr_base.specs.declared.position.Position.{Position}
use Rattle.cmr_base.specs.PlacedPivots.{pivoted_part}
use Rattle.tree_type.specs.Sides.{two_one, two_two, three_one, three_two}
use Rattle.tree_type.specs.DecompositionTrees.{Finding, Reduced, TwoSum, ThreeSum, Pivoted, Tree, Trees, Branch, NoTrees, MoreTrees, lines_at_root}

-- The lines that a node must have. The root must have all lines of a matrix of these sizes, and a child the lines that its
-- parent gives it. The parent names no lines for a child of a one-sum.
pub data Due : Type 0 where
  AllLines : ℕ → ℕ → Due
  These : LineSet → Due
  Unnamed : Due

-- a pivot of the submatrix on some lines
pub record MadePivot : Type 0 where
  pub lines : LineSet
  pub place : Position

-- the matrix after a list of pivots, the last of which is the first of the list
abbrev pub matrix_after : Matrix → List MadePivot → Matrix
matrix_after m [] = m
matrix_after m (last ∷ pivots) = pivoted_part (matrix_after m pivots) last.lines last.place

pub record Place : Type 0 where
  pub path : List ℕ
  pub pivots : List MadePivot
  pub due : Due
  pub lines : LineSet
  pub finding : Finding
  pub children : List LineSet

-- the lines that remain after some removals
abbrev pub lines_left : LineSet → List Line → LineSet
lines_left lines [] = lines
lines_left lines (line ∷ steps) = lines_left (record { rows = rows_without lines.rows line; columns = columns_without lines.columns line }) steps

-- the lines that a child must have, by its number
abbrev pub due_child : LineSet → Finding → ℕ → Due
due_child lines (Reduced steps) k = These (lines_left lines steps)
due_child lines (TwoSum two) zero = These (two_one lines two)
due_child lines (TwoSum two) (suc k) = These (two_two lines two)
due_child lines (ThreeSum three) zero = These (three_one lines three)
due_child lines (ThreeSum three) (suc k) = These (three_two lines three)
due_child lines (Pivoted place) k = These lines
due_child lines finding k = Unnamed

-- the pivots above the children of a node: the pivots above the node, and its own pivot
abbrev pub pivots_below : LineSet → Finding → List MadePivot → List MadePivot
pivots_below lines (Pivoted place) pivots = record { lines = lines; place = place } ∷ pivots
pivots_below lines finding pivots = pivots

abbrev pub lines_of_each : Trees → List LineSet
lines_of_each NoTrees = []
lines_of_each (MoreTrees tree trees) = lines_at_root tree ∷ lines_of_each trees

abbrev mutual
  -- a node, followed by the nodes below it
  pub places_from : List ℕ → List MadePivot → Due → Tree → List Place
  places_from path pivots due (Branch lines finding trees) =
      record { path = path; pivots = pivots; due = due; lines = lines; finding = finding; children = lines_of_each trees }
      ∷ places_below path (pivots_below lines finding pivots) lines finding 0 trees

  -- the nodes in the trees of a node's children from child k on, below these pivots
  pub places_below : List ℕ → List MadePivot → LineSet → Finding → ℕ → Trees → List Place
  places_below path pivots lines finding k NoTrees = []
  places_below path pivots lines finding k (MoreTrees tree trees) =
      places_from (path ++ k ∷ []) pivots (due_child lines finding k) tree ++ places_below path pivots lines finding (suc k) trees

-- all nodes in preorder of a tree for a matrix of these sizes
abbrev pub places : ℕ → ℕ → Tree → List Place
places rows columns tree = places_from [] [] (AllLines rows columns) tree
