use Rattle.std.proofs.Common.{◌∙◌, subst, sym, arith}
use Rattle.cmr_base.specs.Matrix.{IsEntry}
use Rattle.sum_ops.specs.Plans.{LowerFits}
use Rattle.sum_ops.specs.declared.plan.LowerBlock.{LowerBlock}
use Rattle.cmr_base.proofs.SmallNumbers.{small_as_byte}
use Rattle.sum_ops.proofs.plan.Plan.lower_entry.Goals as goal

pub returns-in-Spread-clause-small : goal.returns-in-Spread-clause-small
returns-in-Spread-clause-small c =
    let plan = c.args.self in
    let fits = subst (λ (block : LowerBlock). LowerFits block plan c.args.first.now c.args.second.now) c.in-Spread.is c.requires.fits.lower in
    subst IsEntry (sym (small_as_byte 8 c.entry-in-Spread.result (omega arith) c.entry-in-Spread.ensures.small ∙ c.entry-in-Spread.ensures.value)) (fits.1 c.args.row c.args.column c.requires.from c.requires.row c.requires.column)
