use Rattle.std.proofs.Common.{◌∙◌, sym}
use Rattle.cmr_base.proofs.ColumnWords.{words_long}
use Rattle.camion_sign.proofs.SignWords.{minus_long, rows_agree}
use Rattle.camion_sign.proofs.row_signs.agree.Goals as goal

pub signs_agree-requires-clause-minus : goal.signs_agree-requires-clause-minus
signs_agree-requires-clause-minus c =
    minus_long c.args.matrix.now c.args.one c.minus_words.result.now c.minus_words.ensures ∙ sym (words_long c.args.matrix.now c.args.one c.support_words.result.now c.support_words.ensures)

pub signs_agree-requires-clause-other : goal.signs_agree-requires-clause-other
signs_agree-requires-clause-other c =
    words_long c.args.matrix.now c.args.two c.support_words-2.result.now c.support_words-2.ensures ∙ sym (words_long c.args.matrix.now c.args.one c.support_words.result.now c.support_words.ensures)

pub signs_agree-requires-clause-other_minus : goal.signs_agree-requires-clause-other_minus
signs_agree-requires-clause-other_minus c =
    minus_long c.args.matrix.now c.args.two c.minus_words-2.result.now c.minus_words-2.ensures ∙ sym (words_long c.args.matrix.now c.args.one c.support_words.result.now c.support_words.ensures)

pub returns : goal.returns
returns c = λ e.
    rows_agree c.args.matrix.now c.args.one c.args.two c.requires.shape c.requires.one c.requires.two
    c.support_words.result.now c.minus_words.result.now c.support_words-2.result.now c.minus_words-2.result.now
    c.support_words.ensures c.minus_words.ensures c.support_words-2.ensures c.minus_words-2.ensures (c.signs_agree.ensures e)
