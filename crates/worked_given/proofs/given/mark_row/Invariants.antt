use Rattle.cmr_base.specs.Trees.{IsBinary}
use Rattle.worked_given.proofs.given.mark_row.Given as goal

abbrev pub invariant-loop-column : goal.invariant-loop-column
invariant-loop-column l = IsBinary l.ones
