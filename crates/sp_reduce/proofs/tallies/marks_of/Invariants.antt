use Rattle.std.proofs.Common.{take}
use Rattle.sp_reduce.specs.Tallies.{AreMarks}
use Rattle.sp_reduce.proofs.tallies.marks_of.Given as goal

abbrev pub invariant-lines : goal.invariant-lines
invariant-lines l = AreMarks l.size (take l.line-index l.lines) l.marks.items
