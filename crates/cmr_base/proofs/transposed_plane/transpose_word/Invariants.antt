use Rattle.cmr_base.proofs.TransposedRows.{AreBitsTransposed}
use Rattle.cmr_base.proofs.transposed_plane.transpose_word.Given as goal

abbrev pub invariant-loop-rest : goal.invariant-loop-rest
invariant-loop-rest l = AreBitsTransposed l.to l.row l.first l.word l.rest l.initial.made l.made

abbrev pub decreases-loop-rest : goal.decreases-loop-rest
decreases-loop-rest l = l.rest
