use Rattle.std.proofs.Common.{◌∙◌, sym}
use Rattle.sp_reduce.proofs.Weights.{no_copy}
use Rattle.sp_reduce.proofs.side.StayingLines.is_copy.Goals as goal

pub returns-else-may_be_copy : goal.returns-else-may_be_copy
returns-else-may_be_copy c =
    c.if-may_be_copy.false
    ∙ sym (no_copy c.args.matrix.now c.args.self.now c.args.across.now c.requires.counted c.args.place c.args.other c.requires.place c.requires.other (sym c.may_be_copy.ensures ∙ c.if-may_be_copy.false))
