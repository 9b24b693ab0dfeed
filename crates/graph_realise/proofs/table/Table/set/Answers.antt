use Rattle.graph_realise.proofs.TableLemmas.{cell_set}
use Rattle.graph_realise.proofs.table.Table.set.Goals as goal

pub returns : goal.returns
returns c = cell_set c.args.self.now c.set_word.new.self c.args.row c.args.column c.word.result c.with_bit-word.result c.args.value c.requires.column c.word.ensures c.with_bit-word.ensures.here c.with_bit-word.ensures.others c.set_word.ensures
