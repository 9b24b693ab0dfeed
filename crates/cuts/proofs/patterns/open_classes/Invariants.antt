use Rattle.std.proofs.Common.{◌≤◌, length}
use Rattle.cuts.specs.Patterns.{AreOpen}
use Rattle.cuts.proofs.patterns.open_classes.Given as goal

abbrev pub invariant-loop-row : goal.invariant-loop-row
invariant-loop-row l = (length l.found.items ≤ l.row) × AreOpen l.classes.own.now.words l.classes.numbers.now l.row l.found.items
