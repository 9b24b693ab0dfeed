use Rattle.std.proofs.Common.{◌∙◌, ap, subst}
use Rattle.cmr_base.specs.BitSets.{AreWordsOf}
use Rattle.cmr_base.specs.Matrix.{Matrix}
use Rattle.cmr_base.specs.Trees.{support}
use Rattle.camion_sign.proofs.line_words.row_words.Goals as goal

pub returns-clause-columns : goal.returns-clause-columns
returns-clause-columns c column = c.columns_of.ensures.columns column ∙ ap (λ (a : Matrix). support a c.args.row column) c.by_rows.ensures.matrix

pub returns-clause-whole : goal.returns-clause-whole
returns-clause-whole c = subst (λ (a : Matrix). AreWordsOf a.width c.columns_of.result.now) c.by_rows.ensures.matrix c.columns_of.ensures.whole
