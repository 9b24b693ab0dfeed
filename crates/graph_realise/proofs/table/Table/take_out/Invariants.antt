use Rattle.std.proofs.Common.{◌&&◌, not}
use Rattle.cmr_base.specs.Trees.{support}
use Rattle.graph_realise.specs.BitTables.{cell, AreChunksFilled}
use Rattle.graph_realise.proofs.table.Table.take_out.Given as goal

abbrev pub invariant-loop-chunk : goal.invariant-loop-chunk
invariant-loop-chunk l = AreChunksFilled (λ column. cell l.initial.self l.row column && not (support l.matrix l.other column)) l.initial.self l.self l.row l.chunks l.chunk-index
