use Rattle.std.proofs.Common.{subst}
use Rattle.std.proofs.lemmas.Result.{IfOk-weaker}
use Rattle.cmr_unimodular.specs.Verdict.{IsDecomposition, IsRightVerdict, VerdictOrder, verdict_in}
use Rattle.cmr_unimodular.specs.Regular.{regular_order_of}
use Rattle.cmr_unimodular.proofs.RegularAnswers.{reported}
use Rattle.cmr_unimodular.proofs.tools.regular.sign_and_test.Goals as goal

pub returns : goal.returns
returns g c =
    let signed = c.in_ok-signed.signed in
    let signing = c.in_ok-signed.ensures in
    let tree = c.in_ok-tree.tree in
    reported (regular_order_of c.args.options.now) c.args.matrix.now signed signing.0 tree c.report_signing.result signing.1
    (subst (λ (o : VerdictOrder). IsDecomposition o.budget o.pivots signed tree) c.verdict_options-asked.ensures.order c.in_ok-tree.ensures.decomposition)
    (subst (λ (o : VerdictOrder). IsRightVerdict o.budget o.pivots signed (verdict_in tree)) c.verdict_options-asked.ensures.order c.in_ok-tree.ensures.right)
    (IfOk-weaker c.report_signing.result _ _ (λ outcome report. report signing.0 signing.1) c.report_signing.ensures)
