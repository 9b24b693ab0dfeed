use Rattle.std.proofs.Common.{◌∙◌, ap}
use Rattle.cmr_unimodular.specs.Verdict.{verdict_report}
use Rattle.cmr_unimodular.proofs.tools.regular.report_signing.Goals as goal

pub with_signing-requires-clause-reported : goal.with_signing-requires-clause-reported
with_signing-requires-clause-reported c = c.in_ok-reported.ensures ∙ ap (λ o. verdict_report o c.args.signed.now c.args.tree.now) c.verdict_options.ensures.order
