use Rattle.std.proofs.Common.{take}
use Rattle.core_parts.specs.SetsOfParts.{ArePlacesBy, HaveColumns}
use Rattle.core_parts.proofs.sets.put_columns.Given as goal

abbrev pub invariant-loop-line : goal.invariant-loop-line
invariant-loop-line l = HaveColumns l.fn.sets (take l.line l.marks) l.numbers l.sets × ArePlacesBy (take l.line l.marks) l.numbers l.places.items
