use Rattle.std.proofs.Common.{◌+◌}
use Rattle.first_hit.specs.WorkerRuns.{NoneInRows}
use Rattle.first_hit.proofs.round.Round.first_of_worker.Given as goal

abbrev pub invariant-loop-row : goal.invariant-loop-row
invariant-loop-row g l = NoneInRows (g.P.Probe.holds l.probe) l.self l.row l.worker (l.worker + 1) l.self.to
