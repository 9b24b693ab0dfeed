use Rattle.std.proofs.Common.{◌*◌, ◌||◌}
use Rattle.graph_realise.specs.BitTables.{cell, IsRowFilled}
use Rattle.graph_realise.proofs.table.Table.add.Given as goal

abbrev pub invariant-loop-chunk : goal.invariant-loop-chunk
invariant-loop-chunk l = IsRowFilled (λ column. cell l.initial.self l.row column || cell l.marks l.line column) l.initial.self l.self l.row (64 * l.chunk)
