use Rattle.std.proofs.Common.{◌∙◌, sym}
use Rattle.three_sep.proofs.ForcedLemmas.{or_none, own_forced}
use Rattle.three_sep.proofs.forced.ForcedColumns.of_row.Goals as goal

pub returns-clause-forced : goal.returns-clause-forced
returns-clause-forced c = λ column e. own_forced c.args.matrix.now c.columns.ensures.shape c.args.i c.requires column
    (sym ((rw c.by_rows.ensures.matrix at c.columns_of.ensures.columns) column) ∙ sym (or_none _ _ (c.in_ok-columns.ensures.none column)) ∙ sym (c.add_words.ensures.columns column) ∙ e)
