use Rattle.std.proofs.Common.{◌*◌}
use Rattle.cmr_base.specs.TransposedPlanes.{IsRowTransposed}
use Rattle.cmr_base.proofs.transposed_plane.transpose_row.Given as goal

abbrev pub invariant-loop-chunk : goal.invariant-loop-chunk
invariant-loop-chunk l = IsRowTransposed l.to l.row l.words (64 * l.chunk) l.initial.made l.made
