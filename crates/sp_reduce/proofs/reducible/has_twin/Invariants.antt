use Rattle.std.proofs.Common.{◌≡◌, take, false}
use Rattle.std.specs.List.{list_any}
use Rattle.cmr_base.specs.Matrix.{entry}
use Rattle.sp_reduce.specs.LineKinds.{table, is_twin}
use Rattle.sp_reduce.proofs.reducible.has_twin.Given as goal

abbrev pub invariant-twins : goal.invariant-twins
invariant-twins l = list_any (is_twin l.binary (table (entry l.matrix) l.kind) l.across l.line) (take l.twin-index l.own) ≡ false
