use Rattle.std.proofs.Common.{◌≡◌, replicate}
use Rattle.cmr_base.specs.Components.{no_lines}
use Rattle.core_parts.proofs.sets.no_sets.Given as goal

abbrev pub invariant-loop : goal.invariant-loop
invariant-loop l = l.sets.items ≡ replicate l.counter no_lines
