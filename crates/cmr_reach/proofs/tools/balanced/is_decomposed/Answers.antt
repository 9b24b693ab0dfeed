use Rattle.tree_type.specs.DecompositionTrees.{tree_of}
use Rattle.cmr_reach.proofs.BalancedAnswers.{balanced_by_tree, tree_for, undecomposed}
use Rattle.cmr_reach.proofs.tools.balanced.is_decomposed.Goals as goal

pub returns-clause-yes : goal.returns-clause-yes
returns-clause-yes g c = λ e.
    let m = c.args.matrix.now in
    let tree = c.in_ok-tree.tree in
    let drawn = c.in_ok-tree.ensures in
    let is = c.root-root.ensures.tree in
    let yes = c.says_yes.ensures.yes e in
    (record { tree = tree_of tree.root; is_tree = tree_for m tree drawn.rows drawn.columns is; shape = drawn.shape; verdict = yes }, balanced_by_tree m c.requires.shape tree is drawn.sound yes)

pub returns-clause-no : goal.returns-clause-no
returns-clause-no g c = λ e.
    let m = c.args.matrix.now in
    let tree = c.in_ok-tree.tree in
    let drawn = c.in_ok-tree.ensures in
    undecomposed c.args.options.now.budget c.args.options.now.pivots m (tree_of tree.root) (tree_for m tree drawn.rows drawn.columns c.root-root.ensures.tree) drawn.shape (c.says_yes.ensures.no e)
