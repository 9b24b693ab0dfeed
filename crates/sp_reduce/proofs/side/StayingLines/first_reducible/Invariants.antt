use Rattle.std.proofs.Common.{◌≡◌, take, length, None}
use Rattle.cmr_base.specs.Matrix.{entry}
use Rattle.sp_reduce.specs.StayingSides.{IsSettled, first_step_of}
use Rattle.sp_reduce.proofs.side.StayingLines.first_reducible.Given as goal

-- no line so far is reducible, and only the marks have changed
abbrev pub invariant-places : goal.invariant-places
invariant-places l =
    (l.self ≡ record l.fn.self { settled = l.self.settled }) × (length l.self.settled.items ≡ length l.fn.self.stays.items)
    × IsSettled l.binary l.matrix l.self l.across
    × (first_step_of l.binary (entry l.matrix) l.fn.self.kind l.fn.self.stays.items l.across (take l.place l.fn.self.stays.items) ≡ None)
