use Rattle.cmr_base.specs.Planes.{words_for}
use Rattle.cmr_base.specs.TransposedPlanes.{IsPlaneTransposed}
use Rattle.cmr_base.proofs.transposed_plane.transposed_plane.Given as goal

abbrev pub invariant-loop-row : goal.invariant-loop-row
invariant-loop-row l = IsPlaneTransposed l.fn.columns (words_for l.fn.rows) l.plane l.row l.made.items
