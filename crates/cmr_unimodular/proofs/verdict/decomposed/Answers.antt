use Rattle.std.proofs.Common.{length, ap, arith}
use Rattle.tree_laws.proofs.SoundTrees.{verdict_means}
use Rattle.tree_type.specs.DecompositionTrees.{tree_of}
use Rattle.cmr_unimodular.specs.Verdict.{IsDecomposition}
use Rattle.cmr_unimodular.proofs.RightVerdicts.{root_height, verdict_is_right}
use Rattle.cmr_unimodular.proofs.verdict.decomposed.Goals as goal

pub prove-unreachable-requires : goal.prove-unreachable-requires
prove-unreachable-requires g c =
    omega (arith, root_height c.args.options.now.budget c.args.options.now.pivots c.args.matrix.now c.in_ok-tree.tree.root c.in_ok-tree.ensures.shape, c.rows-rows.ensures.rows, c.len.ensures, ap (λ node. length node.lines.rows) c.root-root.ensures.root)

pub returns-clause-decomposition : goal.returns-clause-decomposition
returns-clause-decomposition g c = record { rows = c.in_ok-tree.ensures.rows; columns = c.in_ok-tree.ensures.columns; is_tree = c.root-root.ensures.tree; shape = c.in_ok-tree.ensures.shape; sound = c.in_ok-tree.ensures.sound }

pub returns-clause-right : goal.returns-clause-right
returns-clause-right g c =
    let tree = c.in_ok-tree.tree in
    let is : IsDecomposition c.args.options.now.budget c.args.options.now.pivots c.args.matrix.now tree =
    record { rows = c.in_ok-tree.ensures.rows; columns = c.in_ok-tree.ensures.columns; is_tree = c.root-root.ensures.tree; shape = c.in_ok-tree.ensures.shape; sound = c.in_ok-tree.ensures.sound } in
    verdict_is_right c.args.options.now.budget c.args.options.now.pivots c.args.matrix.now c.rows-rows.ensures.shape tree is

pub returns-clause-means : goal.returns-clause-means
returns-clause-means g c =
    let tree = c.in_ok-tree.tree in
    verdict_means c.args.matrix.now c.rows-rows.ensures.shape tree.rows tree.columns (tree_of tree.root) c.root-root.ensures.tree c.in_ok-tree.ensures.sound
