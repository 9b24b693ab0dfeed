-- Each tree that fits its lines is the tree of a node.
use Rattle.std.proofs.Common.{◌≡◌, ◌≤◌, ◌<◌, ◌+◌, ◌-◌, ◌∙◌, ℕ, List, [], ◌∷◌, length, map, get_or, Contains, refl, ap, ap₂, sym, subst, arith}
use Rattle.std.specs.declared.alloc.Global.{Global}
use Rattle.std.specs.declared.boxed.Box.{Box}
use Rattle.cmr_base.specs.declared.line_set.LineSet.{LineSet}
use Rattle.cmr_base.specs.declared.network.Network as net
use Rattle.cmr_base.proofs.Parts.{length-increasing}
use Rattle.cmr_base.specs.LineSets.{AllBelow}
use Rattle.cmr_base.proofs.ListsWithout.{contains_from_in, in-get_or}
use Rattle.cmr_base.proofs.Places.{contained_below}
use Rattle.std.specs.List.Sorted.{IsStrictlyIncreasing}
use Rattle.tree_type.specs.declared.tree.Node.{Node}
use Rattle.tree_type.specs.declared.tree.NodeList.{NodeList, roll-NodeList}
use Rattle.tree_type.specs.declared.tree.Kind.{Kind}
use Rattle.tree_type.specs.declared.tree.Kind.TheFolds.{fold-roll-Kind}
use Rattle.tree_type.specs.declared.tree.Kind.TheViews.{out-roll-NodeList}
use Rattle.tree_type.specs.declared.tree.Kind.TheOpen as open'
use Rattle.tree_type.specs.declared.tree.Kind.TheVariants as kind
use Rattle.tree_type.specs.DecompositionTrees.{Finding, Empty, Cycle, Reduced, OneSum, Network, Conetwork, R10, TwoSum, ThreeSum, Enumerated, Violator, Undecided, Pivoted, Tree, Trees, Branch, NoTrees, MoreTrees, count_trees, kind_step, list_step, node_step, one_tree, lines_at_root, tree_of, trees_from, trees_of, two_trees, nodes_in}
use Rattle.tree_type.specs.Invariant.{AreTreesWithin, FitsLines, HasChildren, IsTreeFor, IsTreeWithin, size_of, AreLinesOf}
use Rattle.tree_type.proofs.NodeTrees.{said, said_cycle, said_empty, said_one_sum, said_pivoted, said_reduced, said_three_sum, said_two_sum, said_violator, tree_is}
use Rattle.tree_type.proofs.Forests.{trees_are, count_of}
use denote.RawPtr.{null_ptr}

-- ---- the code's form of a node

allocator : Global
allocator = record { memory = record { seal = tt } }

boxed : Node → Box Node Global
boxed node = record { value = node; ptr = null_ptr; alloc = allocator }

rolled : (nodes : List Node) → length nodes < 9223372036854775808 → NodeList
rolled nodes few = roll-NodeList (record { items = record { items = nodes; ptr = null_ptr; len = length nodes; cap = length nodes; alloc = allocator; ok = (refl, omega arith); small = few } })

in_rolled : (nodes : List Node) (few : length nodes < 9223372036854775808) → nodes_in (rolled nodes few) ≡ nodes
unfolding rolled
in_rolled nodes few = ap (λ list. list.items.items) (out-roll-NodeList _)

rolled_trees : (nodes : List Node) (few : length nodes < 9223372036854775808) → trees_of (rolled nodes few) ≡ trees_from (map tree_of nodes)
unfolding rolled
rolled_trees nodes few = trees_are (rolled nodes few) ∙ ap (λ ns. trees_from (map tree_of ns)) (in_rolled nodes few)

said_network : (n : net.Network) → said (kind.Network n) ≡ (Network n, NoTrees)
said_network n = ap said (sym (kind.rolls-Network n)) ∙ fold-roll-Kind (Finding × Trees) Tree Trees kind_step node_step list_step (open'.Network n)

said_conetwork : (n : net.Network) → said (kind.Conetwork n) ≡ (Conetwork n, NoTrees)
said_conetwork n = ap said (sym (kind.rolls-Conetwork n)) ∙ fold-roll-Kind (Finding × Trees) Tree Trees kind_step node_step list_step (open'.Conetwork n)

said_r10 : said kind.R10 ≡ (R10, NoTrees)
said_r10 = ap said (sym kind.rolls-R10) ∙ fold-roll-Kind (Finding × Trees) Tree Trees kind_step node_step list_step open'.R10

said_enumerated : said kind.Enumerated ≡ (Enumerated, NoTrees)
said_enumerated = ap said (sym kind.rolls-Enumerated) ∙ fold-roll-Kind (Finding × Trees) Tree Trees kind_step node_step list_step open'.Enumerated

said_undecided : said kind.Undecided ≡ (Undecided, NoTrees)
said_undecided = ap said (sym kind.rolls-Undecided) ∙ fold-roll-Kind (Finding × Trees) Tree Trees kind_step node_step list_step open'.Undecided

-- ---- a node for a tree

-- the node has the tree
record IsNodeOf (tree : Tree) : Type 0 where
  node : Node
  has : tree_of node ≡ tree

node_of_kind : (lines : LineSet) (k : Kind) (finding : Finding) (trees : Trees) → said k ≡ (finding, trees) → IsNodeOf (Branch lines finding trees)
node_of_kind lines k finding trees e = record {
  node = record { lines = lines; kind = k };
  has = tree_is (record { lines = lines; kind = k }) ∙ ap (λ (s : Finding × Trees). Branch lines s.0 s.1) e;
}

leaf : (lines : LineSet) (k : Kind) (finding : Finding) → said k ≡ (finding, NoTrees) → (nodes : List Node) → length nodes ≡ 0 → IsNodeOf (Branch lines finding (trees_from (map tree_of nodes)))
leaf lines k finding e [] count = node_of_kind lines k finding NoTrees e
leaf lines k finding e (node ∷ nodes) count = absurd (omega (arith, count))

one_below : (lines : LineSet) (f : Box Node Global → Kind) (finding : Finding)
    → ((child : Box Node Global) → said (f child) ≡ (finding, one_tree (tree_of child.value))) → (nodes : List Node) → length nodes ≡ 1
    → IsNodeOf (Branch lines finding (trees_from (map tree_of nodes)))
unfolding boxed
one_below lines f finding e [] count = absurd (omega (arith, count))
one_below lines f finding e (node ∷ []) count = node_of_kind lines (f (boxed node)) finding (one_tree (tree_of node)) (e (boxed node))
one_below lines f finding e (node ∷ other ∷ nodes) count = absurd (omega (arith, count))

two_below : (lines : LineSet) (f : Box Node Global → Box Node Global → Kind) (finding : Finding)
    → ((one two : Box Node Global) → said (f one two) ≡ (finding, two_trees (tree_of one.value) (tree_of two.value))) → (nodes : List Node) → length nodes ≡ 2
    → IsNodeOf (Branch lines finding (trees_from (map tree_of nodes)))
unfolding boxed
two_below lines f finding e [] count = absurd (omega (arith, count))
two_below lines f finding e (node ∷ []) count = absurd (omega (arith, count))
two_below lines f finding e (node ∷ other ∷ []) count = node_of_kind lines (f (boxed node) (boxed other)) finding (two_trees (tree_of node) (tree_of other)) (e (boxed node) (boxed other))
two_below lines f finding e (node ∷ other ∷ third ∷ nodes) count = absurd (omega (arith, count))

node_with : (lines : LineSet) (finding : Finding) (nodes : List Node) → length nodes < 9223372036854775808 → HasChildren finding (length nodes)
    → IsNodeOf (Branch lines finding (trees_from (map tree_of nodes)))
node_with lines Empty nodes few count = leaf lines kind.Empty Empty said_empty nodes count
node_with lines (Cycle fault) nodes few count = leaf lines (kind.Cycle fault) (Cycle fault) (said_cycle fault) nodes count
node_with lines (Reduced steps) nodes few count = one_below lines (kind.Reduced steps) (Reduced steps) (said_reduced steps) nodes count
node_with lines OneSum nodes few count = node_of_kind lines (kind.OneSum (rolled nodes few)) OneSum (trees_from (map tree_of nodes)) (said_one_sum (rolled nodes few) ∙ ap (λ trees. (OneSum, trees)) (rolled_trees nodes few))
node_with lines (Network n) nodes few count = leaf lines (kind.Network n) (Network n) (said_network n) nodes count
node_with lines (Conetwork n) nodes few count = leaf lines (kind.Conetwork n) (Conetwork n) (said_conetwork n) nodes count
node_with lines R10 nodes few count = leaf lines kind.R10 R10 said_r10 nodes count
node_with lines (TwoSum two) nodes few count = two_below lines (kind.TwoSum two) (TwoSum two) (said_two_sum two) nodes count
node_with lines (ThreeSum three) nodes few count = two_below lines (kind.ThreeSum three) (ThreeSum three) (said_three_sum three) nodes count
node_with lines Enumerated nodes few count = leaf lines kind.Enumerated Enumerated said_enumerated nodes count
node_with lines (Violator fault) nodes few count = leaf lines (kind.Violator fault) (Violator fault) (said_violator fault) nodes count
node_with lines Undecided nodes few count = leaf lines kind.Undecided Undecided said_undecided nodes count
node_with lines (Pivoted place) nodes few count = one_below lines (kind.Pivoted place) (Pivoted place) (said_pivoted place) nodes count

-- ---- few children

-- the number of children that the lines of a node allow
few_children : (lines : LineSet) (finding : Finding) (trees : Trees) → FitsLines lines finding trees → HasChildren finding (count_trees trees) → count_trees trees ≤ 2 + size_of lines
few_children lines Empty trees fits count = omega (arith, count)
few_children lines (Cycle fault) trees fits count = omega (arith, count)
few_children lines (Reduced steps) trees fits count = omega (arith, count)
few_children lines OneSum trees fits count = omega (arith, fits)
few_children lines (Network n) trees fits count = omega (arith, count)
few_children lines (Conetwork n) trees fits count = omega (arith, count)
few_children lines R10 trees fits count = omega (arith, count)
few_children lines (TwoSum two) trees fits count = omega (arith, count)
few_children lines (ThreeSum three) trees fits count = omega (arith, count)
few_children lines Enumerated trees fits count = omega (arith, count)
few_children lines (Violator fault) trees fits count = omega (arith, count)
few_children lines Undecided trees fits count = omega (arith, count)
few_children lines (Pivoted place) trees fits count = omega (arith, count)

-- lines within these sizes
record AreLinesWithin (lines : LineSet) : Type 0 where
  rows_increase : IsStrictlyIncreasing lines.rows
  columns_increase : IsStrictlyIncreasing lines.columns
  rows_in : AllBelow 1000 lines.rows
  columns_in : AllBelow 1000 lines.columns

few_lines : (lines : LineSet) → AreLinesWithin lines → size_of lines ≤ 2000
few_lines lines are =
    let rows = length-increasing lines.rows 1000 are.rows_increase are.rows_in in
    let columns = length-increasing lines.columns 1000 are.columns_increase are.columns_in in
    omega (arith, rows, columns)

below_lines : (xs ys : List ℕ) → ((x : ℕ) → Contains xs x → Contains ys x) → AllBelow 1000 ys → AllBelow 1000 xs
below_lines xs ys within below k l = contained_below 1000 ys (get_or xs k 0) below (within (get_or xs k 0) (contains_from_in xs (get_or xs k 0) (in-get_or xs k l)))

lines_of : (child parent : LineSet) → AreLinesOf child parent → AreLinesWithin parent → AreLinesWithin child
lines_of child parent among are = record {
  rows_increase = among.rows_increase;
  columns_increase = among.columns_increase;
  rows_in = below_lines child.rows parent.rows among.rows are.rows_in;
  columns_in = below_lines child.columns parent.columns among.columns are.columns_in;
}

record AreNodesOf (trees : Trees) : Type 0 where
  nodes : List Node
  have : trees_from (map tree_of nodes) ≡ trees

mutual
  node_exists : (parent : LineSet) (levels : ℕ) (tree : Tree) → AreLinesWithin parent → IsTreeWithin parent levels tree → IsNodeOf tree
  node_exists parent levels (Branch lines finding trees) are within =
      let here = lines_of lines parent within.1 are in
      let below = nodes_exist lines (levels - 1) trees here within.4 in
      let as_many : length below.nodes ≡ count_trees trees = sym (count_of below.nodes) ∙ ap count_trees below.have in
      let few = few_children lines finding trees within.2 within.3 in
      let small = few_lines lines here in
      subst (λ t. IsNodeOf (Branch lines finding t)) below.have (node_with lines finding below.nodes (omega (arith, as_many, few, small)) (subst (HasChildren finding) (sym as_many) within.3))

  nodes_exist : (parent : LineSet) (levels : ℕ) (trees : Trees) → AreLinesWithin parent → AreTreesWithin parent levels trees → AreNodesOf trees
  nodes_exist parent levels NoTrees are within = record { nodes = []; have = refl }
  nodes_exist parent levels (MoreTrees tree trees) are within =
      let first = node_exists parent levels tree are within.0 in
      let rest = nodes_exist parent levels trees are within.1 in
      record { nodes = first.node ∷ rest.nodes; have = ap₂ (λ (t : Tree) (ts : Trees). MoreTrees t ts) first.has rest.have }

root_lines : (rows columns : ℕ) (tree : Tree) → IsTreeFor rows columns tree → AreLinesWithin (lines_at_root tree)
root_lines rows columns (Branch lines finding trees) is_tree =
    let high = is_tree.rows_in in
    let wide = is_tree.columns_in in
    record {
      rows_increase = is_tree.nodes.1.rows_increase;
      columns_increase = is_tree.nodes.1.columns_increase;
      rows_in = λ k l. let low = is_tree.root_rows k l in omega (arith, low, high);
      columns_in = λ k l. let low = is_tree.root_columns k l in omega (arith, low, wide);
    }

-- a tree for a matrix as a node of the code
pub node_of_tree : (rows columns : ℕ) (tree : Tree) → IsTreeFor rows columns tree → (node : Node) × (tree_of node ≡ tree)
node_of_tree rows columns tree is_tree =
    let found = node_exists (lines_at_root tree) 2001 tree (root_lines rows columns tree is_tree) is_tree.nodes in
    (found.node, found.has)
