use Rattle.std.specs.Prelude.{fold}
use Rattle.std.proofs.Common.{◌+◌, drop}
use Rattle.text_fields.specs.Written.{with_line}
use Rattle.tree_type.specs.DecompositionTrees.{children_of, tree_of}
use Rattle.tree_text.specs.CanonicalTrees.{node_lines}
use Rattle.tree_text.proofs.WrittenLines.{opening_written, child_written}
use Rattle.tree_text.proofs.write.+write_node.Goals as goal

pub loop-index-init : goal.loop-index-init
loop-index-init t c = record {
  whole = opening_written c.args.text.now c.write_opening.new.text (tree_of c.args.node.now) c.in_ok-write_opening.ensures.lines;
  at_start = c.in_ok-write_opening.ensures.at_start;
}

pub loop-index-preserved : goal.loop-index-preserved
loop-index-preserved t c =
    let trees = children_of (tree_of c.args.node.now) in
    let at = c.loop-index in
    record {
      whole = child_written at.text c.write_node.new.text (fold with_line c.args.text.now (node_lines (tree_of c.args.node.now))) (drop at.index trees) (drop (at.index + 1) trees) (tree_of c.child.result.now) c.child.ensures.rest c.in_ok-write_node.ensures.lines at.invariant.whole;
      at_start = c.in_ok-write_node.ensures.at_start;
    }
