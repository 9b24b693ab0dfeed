use Rattle.std.proofs.Common.{◌≡◌, take, get_or, find, None}
use Rattle.cmr_base.specs.Matrix.{entry}
use Rattle.sp_reduce.specs.LineKinds.{table}
use Rattle.sp_reduce.specs.StayingSides.{is_copy}
use Rattle.sp_reduce.proofs.side.StayingLines.first_copy.Given as goal

abbrev pub invariant-places : goal.invariant-places
invariant-places l = find (is_copy (table (entry l.matrix) l.self.kind) l.across (get_or l.self.stays.items l.place 0)) (take l.other l.self.stays.items) ≡ None
