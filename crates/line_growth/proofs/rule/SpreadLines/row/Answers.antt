use Rattle.std.proofs.Common.{◌∙◌, refl, arith}
use Rattle.cmr_base.proofs.EntryBytes.{kept_entry}
use Rattle.cmr_base.proofs.SmallNumbers.{small_as_byte}
use Rattle.line_growth.proofs.Sums.{spread_row}
use Rattle.line_growth.proofs.rule.SpreadLines.row.Goals as goal

pub returns-clause-value : goal.returns-clause-value
returns-clause-value c = λ column.
    let lines = c.args.self in
    let is = c.requires.spread in
    spread_row c.args.matrix.now lines is _ _ _ _ _ _ _ (small_as_byte 2 lines.determinant (omega arith) is.small) refl refl refl refl c.args.row column _ _
    (kept_entry c.entry-first.result c.entry-first.ensures.small ∙ c.entry-first.ensures.value) (kept_entry c.entry-other.result c.entry-other.ensures.small ∙ c.entry-other.ensures.value) c.factors.ensures.sum
