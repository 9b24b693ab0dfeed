use Rattle.cmr_base.proofs.ColumnWords.{words_columns, words_long}
use Rattle.cmr_base.proofs.NextNonzeros.{column_in}
use Rattle.std.proofs.Common.{◌∙◌, sym}
use Rattle.cmr_base.proofs.bit_set.columns_of.Goals as goal

pub returns-clause-columns : goal.returns-clause-columns
returns-clause-columns c = words_columns c.args.matrix.now c.args.row c.support_words.result.now c.support_words.ensures c.rows-rows.ensures.shape c.requires

pub returns-clause-whole : goal.returns-clause-whole
returns-clause-whole c =
    let m = c.args.matrix.now in
    let row = c.args.row in
    let words = c.support_words.result.now in
    let shape = c.rows-rows.ensures.shape in
    record {
      long = words_long m row words c.support_words.ensures;
      inside = λ column e. column_in m row column shape c.requires (sym (words_columns m row words c.support_words.ensures shape c.requires column) ∙ e);
    }
