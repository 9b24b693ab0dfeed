use Rattle.std.proofs.Common.{◌*◌, false}
use Rattle.graph_realise.specs.BitTables.{IsRowFilled}
use Rattle.graph_realise.proofs.table.Table.clear.Given as goal

abbrev pub invariant-loop-chunk : goal.invariant-loop-chunk
invariant-loop-chunk l = IsRowFilled (λ column. false) l.initial.self l.self l.row (64 * l.chunk)
