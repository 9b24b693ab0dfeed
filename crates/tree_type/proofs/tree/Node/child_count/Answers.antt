use Rattle.std.proofs.Common.{◌∙◌, length, ap, sym}
use Rattle.std.proofs.lemmas.List.{length-map}
use Rattle.tree_type.specs.DecompositionTrees.{nodes_in, tree_of}
use Rattle.tree_type.proofs.NodeChildren.{one_sum_children}
use Rattle.tree_type.proofs.tree.Node.child_count.Goals as goal

pub returns-in-OneSum : goal.returns-in-OneSum
returns-in-OneSum c =
    c.len.ensures ∙ sym (ap length (one_sum_children c.args.self.now c.in-OneSum.children c.in-OneSum.is) ∙ length-map (nodes_in c.in-OneSum.children) tree_of)
