use Rattle.std.proofs.Common.{◌+◌, drop, ap, arith}
use Rattle.tree_type.specs.DecompositionTrees.{children_of, lines_at_root, tree_of}
use Rattle.tree_type.proofs.NodeTrees.{tree_is}
use Rattle.cmr_unimodular.proofs.Outlines.{child_outlined, children_at_depth, next_at_depth, opening_outlined}
use Rattle.cmr_unimodular.proofs.outline.+push_node.Goals as goal

pub loop-index-init : goal.loop-index-init
loop-index-init t c =
    let node = c.args.node.now in record {
      whole = opening_outlined c.args.depth c.args.text.now.items c.push_node_line.new.text.items node.lines (tree_of node) (ap lines_at_root (tree_is node)) c.in_ok-push_node_line.ensures;
      left = children_at_depth c.args.depth (tree_of node) c.requires;
    }

pub push_node-requires : goal.push_node-requires
push_node-requires t c =
    let trees = children_of (tree_of c.args.node.now) in
    let at = c.loop-index in (
      omega (arith, c.decreases, c.child.ensures.fewer),
      (next_at_depth (c.args.depth + 1) (drop at.index trees) (drop (at.index + 1) trees) (tree_of c.child.result.now) c.child.ensures.rest at.invariant.left).0,
    )

pub loop-index-preserved : goal.loop-index-preserved
loop-index-preserved t c =
    let trees = children_of (tree_of c.args.node.now) in
    let at = c.loop-index in
    let child = tree_of c.child.result.now in record {
      whole = child_outlined (c.args.depth + 1) at.text.items c.push_node.new.text.items _ (drop at.index trees) (drop (at.index + 1) trees) child c.child.ensures.rest c.in_ok-push_node.ensures at.invariant.whole;
      left = (next_at_depth (c.args.depth + 1) (drop at.index trees) (drop (at.index + 1) trees) child c.child.ensures.rest at.invariant.left).1;
    }
