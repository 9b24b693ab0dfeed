use Rattle.std.proofs.Common.{◌*◌, ◌&&◌, not}
use Rattle.graph_realise.specs.BitTables.{cell, IsRowFilled}
use Rattle.graph_realise.proofs.table.Table.reverse.Given as goal

abbrev pub invariant-loop-chunk : goal.invariant-loop-chunk
invariant-loop-chunk l = IsRowFilled (λ column. cell l.marks l.line column && not (cell l.initial.self l.row column)) l.initial.self l.self l.row (64 * l.chunk)
