use Rattle.std.proofs.Common.{◌<◌, subst, sym}
use Rattle.cmr_base.specs.Matrix.{Matrix}
use Rattle.cmr_base.proofs.TransposedLines.{transposed_inside}
use Rattle.three_sep.proofs.OtherLemmas.{flat_from_tall, tall_from_flat}
use Rattle.three_sep.proofs.others.is_tall_other.Goals as goal

pub is_flat_other-requires-clause-own : goal.is_flat_other-requires-clause-own
is_flat_other-requires-clause-own c = transposed_inside c.args.matrix.now c.transposed-columns.result c.transposed-columns.ensures c.args.own c.requires.own

pub is_flat_other-requires-clause-across : goal.is_flat_other-requires-clause-across
is_flat_other-requires-clause-across c = transposed_inside c.args.matrix.now c.transposed-columns.result c.transposed-columns.ensures c.args.across c.requires.across

pub is_flat_other-requires-clause-other : goal.is_flat_other-requires-clause-other
is_flat_other-requires-clause-other c = subst (λ (k : Matrix). c.args.other < k.width) (sym c.transposed-columns.ensures) c.requires.other

pub returns-clause-yes : goal.returns-clause-yes
returns-clause-yes c = λ e. tall_from_flat c.args.matrix.now c.transposed-columns.result c.transposed-columns.ensures c.rows-rows.ensures.shape c.args.own c.args.across c.args.other (c.is_flat_other.ensures.yes e)

pub returns-clause-no : goal.returns-clause-no
returns-clause-no c = λ e tied. c.is_flat_other.ensures.no e (flat_from_tall c.args.matrix.now c.transposed-columns.result c.transposed-columns.ensures c.rows-rows.ensures.shape c.args.own c.args.across c.args.other tied)
