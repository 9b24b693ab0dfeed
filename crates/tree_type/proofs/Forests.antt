-- Trees in a row, and lists of nodes.
use Rattle.std.proofs.Common.{◌≡◌, ◌∙◌, suc, List, [], ◌∷◌, length, map, refl, ap}
use Rattle.std.proofs.lemmas.List.{length-map}
use Rattle.tree_type.specs.declared.tree.Node.{Node}
use Rattle.tree_type.specs.declared.tree.NodeList.{NodeList, fold_out-NodeList}
use Rattle.tree_type.specs.DecompositionTrees.{Finding, Tree, Trees, kind_step, node_step, list_step, tree_of, trees_of, trees_from, count_trees, nodes_in}

pub trees_are : (nodes : NodeList) → trees_of nodes ≡ trees_from (map tree_of (nodes_in nodes))
trees_are nodes = fold_out-NodeList (Finding × Trees) Tree Trees kind_step node_step list_step nodes

pub count_list : (trees : List Tree) → count_trees (trees_from trees) ≡ length trees
count_list [] = refl
count_list (tree ∷ trees) = ap suc (count_list trees)

pub count_of : (nodes : List Node) → count_trees (trees_from (map tree_of nodes)) ≡ length nodes
count_of nodes = count_list (map tree_of nodes) ∙ length-map nodes tree_of

pub count_is : (nodes : NodeList) → count_trees (trees_of nodes) ≡ length (nodes_in nodes)
count_is nodes = ap count_trees (trees_are nodes) ∙ count_of (nodes_in nodes)
