-- Decomposition trees as plain values.
use Rattle.std.specs.Prelude.{ℕ, suc, List, [], ◌∷◌}
use Rattle.cmr_base.specs.declared.line.Line.{Line}
use Rattle.cmr_base.specs.declared.line_set.LineSet.{LineSet}
use Rattle.cmr_base.specs.declared.network.Network as net
use Rattle.cmr_base.specs.declared.separation.Two.{Two}
use Rattle.cmr_base.specs.declared.separation.Three.{Three}
use Rattle.cmr_base.specs.declared.position.Position.{Position}
use Rattle.tree_type.specs.declared.tree.Node.{Node}
use Rattle.tree_type.specs.declared.tree.Kind.TheOpen as open'
use Rattle.tree_type.specs.declared.tree.Kind.TheFolds.{fold-Node, fold-NodeList}
use Rattle.tree_type.specs.declared.tree.NodeList.{NodeList, out-NodeList}

-- the finding of a node about the submatrix on its lines
pub data Finding : Type 0 where
  Empty : Finding
  Cycle : LineSet → Finding
  Reduced : List Line → Finding
  OneSum : Finding
  Network : net.Network → Finding
  Conetwork : net.Network → Finding
  R10 : Finding
  TwoSum : Two → Finding
  ThreeSum : Three → Finding
  Enumerated : Finding
  Violator : LineSet → Finding
  Undecided : Finding
  Pivoted : Position → Finding

mutual
  -- a node: its lines, its finding, and its children
  pub data Tree : Type 0 where
    Branch : LineSet → Finding → Trees → Tree

  pub data Trees : Type 0 where
    NoTrees : Trees
    MoreTrees : Tree → Trees → Trees

-- a tree for a matrix of these sizes, by its root
pub record SizedTree : Type 0 where
  pub rows : ℕ
  pub columns : ℕ
  pub root : Node

abbrev pub trees_from : List Tree → Trees
trees_from [] = NoTrees
trees_from (tree ∷ trees) = MoreTrees tree (trees_from trees)

abbrev pub one_tree : Tree → Trees
one_tree tree = MoreTrees tree NoTrees

abbrev pub two_trees : Tree → Tree → Trees
two_trees one two = MoreTrees one (one_tree two)

-- the finding of a kind, and the trees of its children
abbrev pub kind_step : open'.Kind-F (Finding × Trees) Tree Trees → Finding × Trees
kind_step open'.Empty = (Empty, NoTrees)
kind_step (open'.Cycle fault) = (Cycle fault, NoTrees)
kind_step (open'.Reduced steps child) = (Reduced steps, one_tree child.value)
kind_step (open'.OneSum children) = (OneSum, children)
kind_step (open'.Network net) = (Network net, NoTrees)
kind_step (open'.Conetwork net) = (Conetwork net, NoTrees)
kind_step open'.R10 = (R10, NoTrees)
kind_step (open'.TwoSum two one_child two_child) = (TwoSum two, two_trees one_child.value two_child.value)
kind_step (open'.ThreeSum three one_child two_child) = (ThreeSum three, two_trees one_child.value two_child.value)
kind_step open'.Enumerated = (Enumerated, NoTrees)
kind_step (open'.Violator fault) = (Violator fault, NoTrees)
kind_step open'.Undecided = (Undecided, NoTrees)
kind_step (open'.Pivoted place child) = (Pivoted place, one_tree child.value)

abbrev pub node_step : open'.Node-F (Finding × Trees) Tree Trees → Tree
node_step node = Branch node.lines node.kind.0 node.kind.1

abbrev pub list_step : open'.NodeList-F (Finding × Trees) Tree Trees → Trees
list_step nodes = trees_from nodes.items.items

-- the tree of a node
abbrev pub tree_of : Node → Tree
tree_of = fold-Node (Finding × Trees) Tree Trees kind_step node_step list_step

-- the nodes of a list, and their trees
abbrev pub nodes_in : NodeList → List Node
nodes_in nodes = (out-NodeList nodes).items.items

abbrev pub trees_of : NodeList → Trees
trees_of = fold-NodeList (Finding × Trees) Tree Trees kind_step node_step list_step

abbrev pub count_trees : Trees → ℕ
count_trees NoTrees = 0
count_trees (MoreTrees tree trees) = suc (count_trees trees)

abbrev pub finding_of : Tree → Finding
finding_of (Branch lines finding trees) = finding

abbrev pub lines_at_root : Tree → LineSet
lines_at_root (Branch lines finding trees) = lines

abbrev pub trees_below : Tree → Trees
trees_below (Branch lines finding trees) = trees

abbrev pub list_of : Trees → List Tree
list_of NoTrees = []
list_of (MoreTrees tree trees) = tree ∷ list_of trees

-- the children of a node, as a list
abbrev pub children_of : Tree → List Tree
children_of tree = list_of (trees_below tree)
