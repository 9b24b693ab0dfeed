use Rattle.cmr_base.specs.Trees.{IsBinary}
use Rattle.worked_graphs.proofs.networks.path.Given as goal

abbrev pub invariant-loop-column : goal.invariant-loop-column
invariant-loop-column l = IsBinary l.path
