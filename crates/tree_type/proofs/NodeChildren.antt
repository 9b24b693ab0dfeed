-- The children of a node, as a list.
use Rattle.std.proofs.Common.{◌≡◌, ◌<◌, ◌≤◌, ◌+◌, ◌∙◌, ℕ, zero, suc, List, [], ◌∷◌, drop, map, slice_get, Option, Some, None, refl, ap, arith}
use Rattle.std.specs.Option.{option_map}
use Rattle.std.proofs.lemmas.List.{drop_more}
use Rattle.std.proofs.lemmas.Option.{get_or_from_slice_get, slice_get-map, slice_get_within}
use Rattle.cmr_base.specs.declared.line_set.LineSet.{LineSet}
use Rattle.tree_type.specs.declared.tree.Node.{Node}
use Rattle.tree_type.specs.declared.tree.NodeList.{NodeList}
use Rattle.tree_type.specs.declared.tree.Kind.TheVariants as kind
use Rattle.tree_type.specs.DecompositionTrees.{Finding, Tree, Trees, Branch, NoTrees, MoreTrees, tree_of, trees_from, list_of, children_of, nodes_in, finding_of, lines_at_root}
use Rattle.tree_type.specs.NodeCounts.{node_count, nodes_below}
use Rattle.tree_type.specs.Verdicts.{first_in, first_among}
use Rattle.tree_type.proofs.Forests.{trees_are}
use Rattle.tree_type.proofs.NodeTrees.{said, tree_is, said_one_sum}

pub trees_back : (trees : Trees) → trees_from (list_of trees) ≡ trees
trees_back NoTrees = refl
trees_back (MoreTrees tree trees) = ap (MoreTrees tree) (trees_back trees)

pub list_back : (trees : List Tree) → list_of (trees_from trees) ≡ trees
list_back [] = refl
list_back (tree ∷ trees) = ap (λ ts. tree ∷ ts) (list_back trees)

pub one_sum_children : (node : Node) (children : NodeList) → node.kind ≡ kind.OneSum children → children_of (tree_of node) ≡ map tree_of (nodes_in children)
one_sum_children node children is =
    ap children_of (tree_is node ∙ ap (λ (s : Finding × Trees). Branch node.lines s.0 s.1) (ap said is ∙ said_one_sum children)) ∙ ap list_of (trees_are children)
    ∙ list_back (map tree_of (nodes_in children))

pub one_sum_child : (node : Node) (children : NodeList) (index : ℕ) (child : Node) → node.kind ≡ kind.OneSum children → slice_get (nodes_in children) index ≡ Some child
    → slice_get (children_of (tree_of node)) index ≡ Some (tree_of child)
one_sum_child node children index child is found =
    ap (λ trees. slice_get trees index) (one_sum_children node children is) ∙ slice_get-map tree_of (nodes_in children) index ∙ ap (option_map tree_of) found

-- the children from a position on
pub rest_at : (trees : List Tree) (index : ℕ) (tree : Tree) → slice_get trees index ≡ Some tree → drop index trees ≡ tree ∷ drop (index + 1) trees
rest_at trees index tree found =
    drop_more trees index tree (slice_get_within trees index tree found) ∙ ap (λ t. t ∷ drop (index + 1) trees) (get_or_from_slice_get trees index tree tree found)

fewer_after : (trees : List Tree) (index : ℕ) → nodes_below (trees_from (drop index trees)) ≤ nodes_below (trees_from trees)
fewer_after trees zero = omega arith
fewer_after [] (suc index) = omega arith
fewer_after (tree ∷ trees) (suc index) = omega (arith, fewer_after trees index)

pub fewer_nodes : (tree child : Tree) (index : ℕ) → slice_get (children_of tree) index ≡ Some child → node_count child < node_count tree
fewer_nodes (Branch lines finding trees) child index found =
    omega (arith, fewer_after (list_of trees) index, ap (λ ts. nodes_below (trees_from ts)) (rest_at (list_of trees) index child found), ap nodes_below (trees_back trees))

pub nodes_counted : (tree : Tree) → 1 + nodes_below (trees_from (children_of tree)) ≡ node_count tree
nodes_counted (Branch lines finding trees) = omega (arith, ap nodes_below (trees_back trees))

-- a test that gives no lines for a node gives the first lines for its children
pub first_of_children : (f : LineSet → Finding → Option LineSet) (tree : Tree) → f (lines_at_root tree) (finding_of tree) ≡ None → first_among f (trees_from (children_of tree)) ≡ first_in f tree
first_of_children f (Branch lines finding trees) none = rw (none, trees_back trees) refl
