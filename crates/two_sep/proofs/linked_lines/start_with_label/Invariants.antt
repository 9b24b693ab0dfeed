use Rattle.line_growth.specs.GrowingSets.{HasSameSizes}
use Rattle.two_sep.specs.LinkedLines.{GrowsFromLabel}
use Rattle.two_sep.proofs.linked_lines.start_with_label.Given as goal

abbrev pub invariant-loop-place : goal.invariant-loop-place
invariant-loop-place l = record {
  size : HasSameSizes l.fn.set l.set;
  grows : GrowsFromLabel l.matrix l.labels l.label l.set;
}
