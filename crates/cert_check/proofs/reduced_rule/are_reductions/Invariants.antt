use Rattle.std.proofs.Common.{◌↔◌, drop}
use Rattle.cmr_base.specs.Matrix.{entry}
use Rattle.tree_type.specs.Invariant.{AreLines}
use Rattle.tree_type.specs.Soundness.{AreReductions}
use Rattle.cert_check.proofs.reduced_rule.are_reductions.Given as goal

-- the remaining steps are reductions of the remaining lines if and only if all steps are reductions of all lines
abbrev pub invariant-loop-step : goal.invariant-loop-step
invariant-loop-step l = record {
  lines : AreLines l.matrix l.left;
  rest : AreReductions (entry l.matrix) l.left.rows l.left.columns (drop l.step-index l.steps) ↔ AreReductions (entry l.matrix) l.lines.rows l.lines.columns l.steps;
}
