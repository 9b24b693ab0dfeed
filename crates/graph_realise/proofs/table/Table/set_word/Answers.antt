use Rattle.std.proofs.Common.{refl}
use Rattle.graph_realise.proofs.TableLemmas.{set_laid_out}
use Rattle.graph_realise.proofs.table.Table.set_word.Goals as goal

pub returns : goal.returns
returns c =
    rw c.words_for.ensures
    (set_laid_out c.self.inside c.args.self.now _ c.args.row c.args.chunk c.args.word c.self.view_is c.self.invariant c.requires.row c.requires.chunk refl)
