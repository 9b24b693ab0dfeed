use Rattle.two_sep.specs.FirstSeeds.{ArePassed}
use Rattle.two_sep.specs.LinkedLines.{AreSizedFor}
use Rattle.two_sep.proofs.separations.separation_at.Given as goal

abbrev pub invariant-loop-column : goal.invariant-loop-column
invariant-loop-column l = record {
  size : AreSizedFor l.matrix l.linked;
  passed : ArePassed l.matrix l.row l.column l.labels.items;
}
