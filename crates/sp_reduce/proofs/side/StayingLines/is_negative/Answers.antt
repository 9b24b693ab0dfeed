use Rattle.std.proofs.Common.{◌∙◌, sym}
use Rattle.sp_reduce.proofs.Weights.{no_negative, minus_at_most}
use Rattle.sp_reduce.proofs.side.StayingLines.is_negative.Goals as goal

pub may_be_negative-requires-clause-light : goal.may_be_negative-requires-clause-light
may_be_negative-requires-clause-light c = minus_at_most c.args.matrix.now c.args.self.now c.args.across.now c.requires.counted c.args.place c.requires.place

pub returns-else-may_be_negative : goal.returns-else-may_be_negative
returns-else-may_be_negative c =
    c.if-may_be_negative.false
    ∙ sym (no_negative c.args.matrix.now c.args.self.now c.args.across.now c.requires.counted c.args.place c.args.other c.requires.place c.requires.other (sym c.may_be_negative.ensures ∙ c.if-may_be_negative.false))
