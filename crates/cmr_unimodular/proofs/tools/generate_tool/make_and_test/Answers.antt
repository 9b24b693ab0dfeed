use Rattle.std.proofs.Common.{subst}
use Rattle.cmr_front.specs.Outcome.{outcome_report}
use Rattle.cmr_unimodular.specs.Verdict.{Decides}
use Rattle.cmr_unimodular.specs.Generate.{generate_order_of}
use Rattle.cmr_unimodular.proofs.GenerateAnswers.{reported, size_low, sum_size_low}
use Rattle.cmr_unimodular.proofs.tools.generate_tool.make_and_test.Goals as goal

pub make-requires-clause-size : goal.make-requires-clause-size
make-requires-clause-size g c = size_low c.args.options.now.what c.args.options.now.size c.requires.size

pub make-requires-clause-sum_size : goal.make-requires-clause-sum_size
make-requires-clause-sum_size g c = sum_size_low c.args.options.now.what c.args.options.now.size c.requires.size

pub returns : goal.returns
returns g c =
    reported (generate_order_of c.args.options.now) c.in_ok-matrix.matrix (outcome_report c.in_ok-verdict.verdict) c.with_summary.result c.in_ok-matrix.ensures
    (subst (λ o. Decides o c.in_ok-matrix.matrix (outcome_report c.in_ok-verdict.verdict)) c.verdict_options.ensures.order c.in_ok-verdict.ensures)
    c.with_summary.ensures.report c.with_summary.ensures.shape
