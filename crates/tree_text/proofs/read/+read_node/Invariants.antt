use Rattle.std.proofs.Common.{◌≡◌, ◌-◌, [], length, map, Some}
use Rattle.text_fields.specs.Reading.{times}
use Rattle.tree_type.specs.DecompositionTrees.{tree_of}
use Rattle.tree_text.specs.TreeReading.{another_tree, node}
use Rattle.tree_text.proofs.read.+read_node.Given as goal

abbrev pub decreases-read_node : goal.decreases-read_node
decreases-read_node l = l.levels

abbrev pub invariant-loop : goal.invariant-loop
invariant-loop l = record {
  read : times (another_tree (node l.header (l.levels - 1) (Some l.opening.value.lines))) (l.opening.value.children - l.counter) (map tree_of l.children.items) l.words ≡ times (another_tree (node l.header (l.levels - 1) (Some l.opening.value.lines))) l.opening.value.children [] l.initial.words;
  len : length l.children.items ≡ l.counter;
}
