use Rattle.std.proofs.Common.{◌∙◌, refl, sym}
use Rattle.std.proofs.lemmas.Bool.{true≢false}
use Rattle.cmr_base.specs.declared.line.Line.TheVariants.{Row}
use Rattle.cmr_base.proofs.MaskLemmas.{empty_by_columns}
use Rattle.cmr_base.proofs.line_mask.LineMask.is_empty.Goals as goal

pub returns-then-is_empty : goal.returns-then-is_empty
returns-then-is_empty c = empty_by_columns c.args.self.now c.is_empty-then-is_empty.result (c.if-is_empty.ensures.0 refl) c.is_empty-then-is_empty.ensures

pub returns-else-is_empty : goal.returns-else-is_empty
returns-else-is_empty c = (
  (λ e. absurd (true≢false (sym e ∙ c.if-is_empty.false))),
  (λ none. c.is_empty.ensures.1 (λ row. none (Row row))),
)
