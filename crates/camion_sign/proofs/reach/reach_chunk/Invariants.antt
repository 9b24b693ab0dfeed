use Rattle.std.proofs.Common.{◌-◌, ◌<◌, ◌^◌, length}
use Rattle.camion_sign.specs.Walks.{IsReachingChunk, step_at}
use Rattle.camion_sign.proofs.reach.reach_chunk.Given as goal

abbrev pub invariant-bits : goal.invariant-bits
invariant-bits l = record {
  state : IsReachingChunk l.matrix l.values l.fn.start.row l.fn.start.column l.head l.row l.chunk l.rest (step_at l.fn.walk.steps.items l.head) l.fn.walk l.walk;
  fits : l.rest < 2 ^ 64;
}

abbrev pub decreases-bits : goal.decreases-bits
decreases-bits l = l.matrix.width - length l.walk.steps.items
