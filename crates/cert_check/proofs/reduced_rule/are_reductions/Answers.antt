use Rattle.std.proofs.Common.{rules, ◌+◌, drop}
use Rattle.std.proofs.lemmas.List.{drop_more}
use Rattle.cmr_base.specs.Matrix.{entry}
use Rattle.cmr_base.specs.declared.line.Line.TheVariants.{Row}
use Rattle.tree_type.specs.Soundness.{AreReductions}
use Rattle.cert_check.proofs.SumRules.{fewer_lines, reduced_more}
use Rattle.cert_check.proofs.reduced_rule.are_reductions.Goals as goal

pub loop-step-preserved : goal.loop-step-preserved
loop-step-preserved c = record {
  lines = fewer_lines c.args.matrix.now c.loop-step.left c.in_ok-left-2.left _ c.loop-step.invariant.lines c.in_ok-left-2.ensures.rows c.in_ok-left-2.ensures.columns;
  rest = reduced_more (entry c.args.matrix.now) c.loop-step.left c.in_ok-left-2.left (drop c.loop-step.step-index c.args.steps.now) (drop (c.loop-step.step-index + 1) c.args.steps.now)
      (AreReductions (entry c.args.matrix.now) c.args.lines.now.rows c.args.lines.now.columns c.args.steps.now)
      (c.is_step.ensures.0 (search rules)) c.in_ok-left-2.ensures.rows c.in_ok-left-2.ensures.columns (drop_more c.args.steps.now c.loop-step.step-index (Row 0) c.loop-step-test.true) c.loop-step.invariant.rest;
}
