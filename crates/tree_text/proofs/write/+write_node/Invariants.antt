use Rattle.std.proofs.Common.{◌≡◌, drop, false}
use Rattle.std.specs.Prelude.{fold}
use Rattle.text_fields.specs.Written.{with_line}
use Rattle.tree_type.specs.DecompositionTrees.{children_of, tree_of, trees_from}
use Rattle.tree_type.specs.NodeCounts.{node_count}
use Rattle.tree_text.specs.CanonicalTrees.{node_lines, forest_lines}
use Rattle.tree_text.proofs.write.+write_node.Given as goal

abbrev pub decreases-write_node : goal.decreases-write_node
decreases-write_node l = node_count (tree_of l.node.now)

-- the text so far and the remaining children make the whole text
abbrev pub invariant-loop-index : goal.invariant-loop-index
invariant-loop-index l = record {
  whole : fold with_line l.text (forest_lines (trees_from (drop l.index (children_of (tree_of l.node))))) ≡ fold with_line l.fn.text (node_lines (tree_of l.node));
  at_start : l.text.is_begun ≡ false;
}
