use Rattle.std.proofs.Common.{◌≡◌}
use Rattle.std.specs.Io.KnownBytes.{Keeps}
use Rattle.cmr_io.proofs.retry.write_counted.Given as goal

abbrev pub invariant-loop : goal.invariant-loop
invariant-loop g l = record {
  kept : Keeps (g.W.Write.contents l.initial.writer) (g.W.Write.contents l.writer);
  faults : l.faults ≡ l.initial.faults;
}
