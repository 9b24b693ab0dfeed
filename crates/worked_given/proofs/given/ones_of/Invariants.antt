use Rattle.cmr_base.specs.Trees.{IsBinary}
use Rattle.worked_given.proofs.given.ones_of.Given as goal

abbrev pub invariant-loop-row : goal.invariant-loop-row
invariant-loop-row l = IsBinary l.ones
