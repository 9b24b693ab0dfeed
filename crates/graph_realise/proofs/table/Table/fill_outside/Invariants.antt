use Rattle.std.proofs.Common.{◌*◌, ◌&&◌, not}
use Rattle.cmr_base.specs.ColumnSets.{has_column}
use Rattle.graph_realise.specs.BitTables.{IsRowFilled}
use Rattle.graph_realise.proofs.table.Table.fill_outside.Given as goal

abbrev pub invariant-loop-chunk : goal.invariant-loop-chunk
invariant-loop-chunk l = IsRowFilled (λ column. has_column l.one column && not (has_column l.other column)) l.initial.self l.self l.row (64 * l.chunk)
