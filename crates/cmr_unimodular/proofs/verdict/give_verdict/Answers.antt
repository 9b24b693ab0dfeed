use Rattle.std.proofs.lemmas.Result.{IfOk-weaker}
use Rattle.cmr_unimodular.proofs.verdict.give_verdict.Goals as goal

pub returns : goal.returns
returns g c =
    IfOk-weaker c.report_tree.result _ _ (λ outcome e. record { tree = c.in_ok-tree.tree; decomposition = c.in_ok-tree.ensures.decomposition; right = c.in_ok-tree.ensures.right; report_is = e }) c.report_tree.ensures
