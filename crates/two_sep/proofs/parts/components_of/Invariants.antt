use Rattle.line_growth.specs.GrowingSets.{IsSizedFor}
use Rattle.two_sep.specs.FoundParts.{HasFound}
use Rattle.two_sep.proofs.parts.components_of.Given as goal

abbrev pub invariant-loop-place : goal.invariant-loop-place
invariant-loop-place l = record {
  size : IsSizedFor l.matrix l.part;
  found : HasFound l.matrix l.place l.found;
}
