use Rattle.std.proofs.Common.{sym, subst}
use Rattle.tree_type.specs.DecompositionTrees.{tree_of}
use Rattle.cmr_unimodular.specs.Outline.{IsAtDepth}
use Rattle.cmr_unimodular.proofs.Outlines.{root_depth}
use Rattle.cmr_unimodular.proofs.outline.push_outline.Goals as goal

pub push_node-requires : goal.push_node-requires
push_node-requires c =
    let tree = c.args.tree.now in
    subst (λ node. IsAtDepth 0 (tree_of node)) (sym c.root.ensures.root) (root_depth tree.rows tree.columns (tree_of tree.root) c.root.ensures.tree)
