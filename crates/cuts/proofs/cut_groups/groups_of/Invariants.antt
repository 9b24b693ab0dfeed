use Rattle.cuts.specs.Finders.{AreFound}
use Rattle.cuts.proofs.cut_groups.groups_of.Given as goal

abbrev pub invariant-loop-line : goal.invariant-loop-line
invariant-loop-line l = AreFound l.matrix l.finder
