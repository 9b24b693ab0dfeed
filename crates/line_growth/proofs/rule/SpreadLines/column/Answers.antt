use Rattle.std.proofs.Common.{◌∙◌, arith}
use Rattle.cmr_base.proofs.EntryBytes.{kept_entry}
use Rattle.cmr_base.proofs.Parts.{height-transposed}
use Rattle.cmr_base.proofs.SmallNumbers.{small_as_byte}
use Rattle.line_growth.proofs.Sums.{spread_column}
use Rattle.line_growth.proofs.rule.SpreadLines.column.Goals as goal

pub returns-clause-sum : goal.returns-clause-sum
returns-clause-sum c =
    let is = c.requires.spread in
    record {
      first = let h = height-transposed c.args.matrix.now in let l = is.left in omega arith;
      other = let h = height-transposed c.args.matrix.now in let l = is.right in omega arith;
      first_factor = c.factors.ensures.first;
      other_factor = c.factors.ensures.other;
    }

pub returns-clause-value : goal.returns-clause-value
returns-clause-value c = λ row.
    let lines = c.args.self in
    let is = c.requires.spread in
    let small = is.entries in
    spread_column c.args.matrix.now lines is _ _ _ _ _ _ _ (small_as_byte 2 lines.determinant (omega arith) is.small) c.rows-rows.ensures.shape (kept_entry lines.core.x small.x) (kept_entry lines.core.z small.z) (kept_entry lines.core.y small.y)
    (kept_entry lines.core.w small.w) c.args.column row _ _ (kept_entry c.entry-first.result c.entry-first.ensures.small ∙ c.entry-first.ensures.value) (kept_entry c.entry-other.result c.entry-other.ensures.small ∙ c.entry-other.ensures.value) c.factors.ensures.sum
