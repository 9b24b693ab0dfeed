use Rattle.std.proofs.Common.{◌*◌}
use Rattle.camion_sign.specs.Walks.{IsReaching, step_at}
use Rattle.camion_sign.proofs.reach.reach_row.Given as goal

abbrev pub invariant-loop-chunk : goal.invariant-loop-chunk
invariant-loop-chunk l = IsReaching l.matrix l.values l.fn.start.row l.fn.start.column l.head l.row (64 * l.chunk) (step_at l.fn.walk.steps.items l.head) l.fn.walk l.walk
