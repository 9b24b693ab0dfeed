use Rattle.path_places.proofs.SubmatrixSteps.{AreRowsMet}
use Rattle.path_places.specs.SubmatrixFields.{view_of}
use Rattle.path_places.proofs.submatrix.Submatrix.meeting_rows.Given as goal

abbrev pub invariant-loop-row : goal.invariant-loop-row
invariant-loop-row l = AreRowsMet (view_of l.self) l.set l.row
