use Rattle.two_sep.specs.FirstSeeds.{ArePassed}
use Rattle.two_sep.specs.LinkedLines.{AreSizedFor}
use Rattle.two_sep.proofs.separations.two_separation_of.Given as goal

abbrev pub invariant-loop-row : goal.invariant-loop-row
invariant-loop-row l = record {
  size : AreSizedFor l.matrix l.linked;
  passed : ArePassed l.matrix l.row 0 l.labels.items;
}
