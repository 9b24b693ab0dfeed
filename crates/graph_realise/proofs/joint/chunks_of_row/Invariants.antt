use Rattle.cmr_base.specs.Trees.{support}
use Rattle.graph_realise.proofs.ChunkLemmas.{AreChunksTo}
use Rattle.graph_realise.proofs.joint.chunks_of_row.Given as goal

abbrev pub invariant-loop-chunk : goal.invariant-loop-chunk
invariant-loop-chunk l = AreChunksTo (support l.matrix l.row) l.matrix.width l.chunks l.chunk
