-- A node that is searched: some lines of a matrix, the submatrix on them, and the limits of the search.
use Rattle.cmr_base.specs.Matrix.{Matrix}
use Rattle.tree_type.specs.Soundness.{part}
use Rattle.decomp_tree.specs.declared.searched_node.SearchedNode.{SearchedNode}
use Rattle.decomp_tree.specs.declared.seen.Seen.{Seen}
use Rattle.decomp_tree.specs.Shapes.{Case, case_number}
use Rattle.decomp_tree.specs.Seen.{HasNoneBefore, IsSeen}

-- the submatrix on the lines
abbrev pub submatrix_of : SearchedNode → Matrix
submatrix_of node = part node.matrix.now node.lines.now

-- no case before this one applies to the submatrix, except perhaps the case of a cycle fault
abbrev pub HasNoCaseBefore : Case → SearchedNode → Type 0
HasNoCaseBefore case node = HasNoneBefore node.limits.lines (submatrix_of node) (case_number case)

-- what a search finds on the lines
abbrev pub IsSeenAt : SearchedNode → Seen → Type 0
IsSeenAt node seen = IsSeen node.limits.lines node.matrix.now node.lines.now seen
