use Rattle.std.proofs.Common.{◌<◌, ◌∙◌, length, ap, subst}
use Rattle.std.proofs.lemmas.List.{length-map}
use Rattle.tree_type.specs.DecompositionTrees.{children_of, nodes_in, tree_of}
use Rattle.tree_type.proofs.NodeChildren.{one_sum_children, one_sum_child, rest_at, fewer_nodes}
use Rattle.tree_type.proofs.tree.Node.child.Goals as goal

pub get-requires : goal.get-requires
get-requires c =
    subst (λ n. c.args.index < n) (ap length (one_sum_children c.args.self.now c.in-OneSum.children c.in-OneSum.is) ∙ length-map (nodes_in c.in-OneSum.children) tree_of) c.requires

pub returns-in-OneSum-clause-child : goal.returns-in-OneSum-clause-child
returns-in-OneSum-clause-child c = one_sum_child c.args.self.now c.in-OneSum.children c.args.index c.get.result.now c.in-OneSum.is c.get.ensures

pub returns-in-OneSum-clause-rest : goal.returns-in-OneSum-clause-rest
returns-in-OneSum-clause-rest c =
    rest_at (children_of (tree_of c.args.self.now)) c.args.index (tree_of c.get.result.now) (one_sum_child c.args.self.now c.in-OneSum.children c.args.index c.get.result.now c.in-OneSum.is c.get.ensures)

pub returns-in-OneSum-clause-fewer : goal.returns-in-OneSum-clause-fewer
returns-in-OneSum-clause-fewer c =
    fewer_nodes (tree_of c.args.self.now) (tree_of c.get.result.now) c.args.index (one_sum_child c.args.self.now c.in-OneSum.children c.args.index c.get.result.now c.in-OneSum.is c.get.ensures)
