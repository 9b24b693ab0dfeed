use Rattle.std.proofs.Common.{sym}
use Rattle.std.proofs.lemmas.Bool.{true≢false}
use Rattle.cmr_base.specs.declared.line.Line.TheVariants.{Row}
use Rattle.cmr_base.proofs.MaskLemmas.{meets_by_columns}
use Rattle.cmr_base.proofs.line_mask.LineMask.meets.Goals as goal

pub returns-then-meets : goal.returns-then-meets
returns-then-meets c = (
  (λ e. let common = c.meets.ensures.0 e in (Row common.0, common.1, common.2)),
  (λ common. c.if-meets.true),
)

pub returns-else-meets : goal.returns-else-meets
returns-else-meets c = meets_by_columns c.args.self.now c.args.other.now c.meets-else-meets.result (λ common. true≢false (sym (c.if-meets.ensures.1 common))) c.meets-else-meets.ensures
