use Rattle.path_places.proofs.SubmatrixSteps.{AreColumnsMet}
use Rattle.path_places.specs.SubmatrixFields.{view_of}
use Rattle.path_places.proofs.submatrix.Submatrix.meeting_columns.Given as goal

abbrev pub invariant-loop-row : goal.invariant-loop-row
invariant-loop-row l = AreColumnsMet (view_of l.self) l.set l.row
