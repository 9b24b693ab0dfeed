use Rattle.std.proofs.Common.{◌∙◌, length, ap, arith, subst, sym}
use Rattle.std.proofs.lemmas.Result.{IfOk-weaker}
use Rattle.tree_type.specs.DecompositionTrees.{tree_of}
use Rattle.tree_laws.specs.Laws.{VerdictMeans}
use Rattle.tree_laws.proofs.SoundTrees.{verdict_means}
use Rattle.cmr_evidence.specs.Check.{accepted, accepted_report}
use Rattle.cmr_evidence.proofs.CheckAnswers.{root_height}
use Rattle.cmr_evidence.proofs.tools.check.accepted_tree.Goals as goal

pub prove-unreachable-requires : goal.prove-unreachable-requires
prove-unreachable-requires c =
    omega (arith, root_height c.args.matrix.now c.args.tree.now c.requires, c.rows-rows.ensures.rows, c.len.ensures, ap (λ node. length node.lines.rows) c.root-root.ensures.root)

pub accepted-requires : goal.accepted-requires
accepted-requires c =
    let m = c.args.matrix.now in
    let tree = c.args.tree.now in
    subst (VerdictMeans m) (sym c.verdict-found.ensures) (verdict_means m c.rows-rows.ensures.shape tree.rows tree.columns (tree_of tree.root) c.root-root.ensures.tree c.requires)

pub returns : goal.returns
returns c =
    let m = c.args.matrix.now in
    let tree = c.args.tree.now in
    let means = verdict_means m c.rows-rows.ensures.shape tree.rows tree.columns (tree_of tree.root) c.root-root.ensures.tree c.requires in
    IfOk-weaker c.accepted.result _ _ (λ outcome e. accepted c.requires means (e ∙ ap (accepted_report m) c.verdict-found.ensures)) c.accepted.ensures
