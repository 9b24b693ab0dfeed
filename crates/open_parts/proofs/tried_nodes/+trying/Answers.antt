use Rattle.std.proofs.Common.{rules, ◌≡◌, ◌+◌, ◌∙◌, List, ap, drop, map, sym, subst, arith}
use Rattle.std.proofs.lemmas.Result.{IfOk-weaker}
use Rattle.tree_type.specs.declared.tree.Node.{Node}
use Rattle.tree_type.specs.DecompositionTrees.{Branch, children_of, finding_of, tree_of, trees_from}
use Rattle.tree_type.specs.Invariant.{AreLines}
use Rattle.open_parts.specs.TriedShapes.{IsTriedLeaf}
use Rattle.open_parts.proofs.NodeSteps.{child_lines, children_refined, leaf_refined, more_refined, node_children, node_refined, root_lines_is, root_lines_of}
use Rattle.open_parts.proofs.tried_nodes.+trying.Goals as goal

pub tried_children-loop-index-init : goal.tried_children-loop-index-init
tried_children-loop-index-init g t c = ap (λ (nodes : List Node). trees_from (map tree_of nodes)) c.new-tried.ensures.items

pub tried_children-tried_node-requires : goal.tried_children-tried_node-requires
tried_children-tried_node-requires g t c =
    let tree = tree_of c.args.node.now in
    let index = c.loop-index.index in
    λ κs lives. (
      omega (arith, c.decreases, c.child-child.ensures.fewer),
      (search rules, (search rules, child_lines c.args.search.now.matrix.now tree (tree_of c.child-child.result.now) index (drop (index + 1) (children_of tree)) c.child-child.ensures.rest c.requires)),
    )

pub tried_children-loop-index-preserved : goal.tried_children-loop-index-preserved
tried_children-loop-index-preserved g t c =
    let search' = c.args.search.now in
    more_refined (IsTriedLeaf search'.limit search'.matrix.now) (children_of (tree_of c.args.node.now)) c.loop-index.index (tree_of c.child-child.result.now) c.child-child.ensures.child c.loop-index.tried.items c.push.new.self.items c.in_ok-next.next
    c.in_ok-push.ensures.items c.loop-index.invariant c.in_ok-next.ensures

pub tried_children-returns : goal.tried_children-returns
tried_children-returns g t c =
    let search' = c.args.search.now in
    children_refined (IsTriedLeaf search'.limit search'.matrix.now) (tree_of c.args.node.now) c.loop-index.index (omega (arith, c.loop-index-test.false, c.child_count-index-end.ensures)) (trees_from (map tree_of c.loop-index.tried.items)) c.loop-index.invariant

pub tried_node-tried_leaf-requires-after_bounds : goal.tried_node-tried_leaf-requires-after_bounds
tried_node-tried_leaf-requires-after_bounds g t c κs within = subst (AreLines c.args.search.now.matrix.now) (root_lines_is c.args.node.now) (root_lines_of c.args.search.now.matrix.now (tree_of c.args.node.now) c.requires)

pub tried_node-returns-then-is_undecided : goal.tried_node-returns-then-is_undecided
tried_node-returns-then-is_undecided g t c =
    let search' = c.args.search.now in
    IfOk-weaker c.tried_leaf.result (λ leaf. IsTriedLeaf search'.limit search'.matrix.now c.args.node.now.lines (tree_of leaf)) _
    (λ leaf e. leaf_refined (IsTriedLeaf search'.limit search'.matrix.now) c.args.node.now (tree_of leaf) (sym c.is_undecided.ensures ∙ c.if-is_undecided.true) e) c.tried_leaf.ensures

pub tried_node-tried_children-requires : goal.tried_node-tried_children-requires
tried_node-tried_children-requires g t c = λ κs lives. (omega (arith, c.decreases), (search rules, (search rules, c.requires)))

pub tried_node-with_children-requires : goal.tried_node-with_children-requires
tried_node-with_children-requires g t c = node_children c.args.search.now.matrix.now (IsTriedLeaf c.args.search.now.limit c.args.search.now.matrix.now) (tree_of c.args.node.now) c.in_ok-children.children.items c.requires c.in_ok-children.ensures

pub tried_node-returns : goal.tried_node-returns
tried_node-returns g t c =
    let search' = c.args.search.now in
    let node = c.args.node.now in
    IfOk-weaker c.with_children.result (λ made. tree_of made ≡ Branch node.lines (finding_of (tree_of node)) (trees_from (map tree_of c.in_ok-children.children.items))) _
    (λ made e. node_refined (IsTriedLeaf search'.limit search'.matrix.now) (tree_of node) (tree_of made) (trees_from (map tree_of c.in_ok-children.children.items)) (sym c.is_undecided.ensures ∙ c.if-is_undecided.false)
    (subst (λ lines. tree_of made ≡ Branch lines (finding_of (tree_of node)) (trees_from (map tree_of c.in_ok-children.children.items))) (sym (root_lines_is node)) e) c.in_ok-children.ensures) c.with_children.ensures
