use Rattle.std.proofs.Common.{◌<◌, ◌∙◌, sym, ap, not, length, arith}
use Rattle.sp_reduce.proofs.SideLemmas.{settled_set, none_is}
use Rattle.sp_reduce.proofs.side.StayingLines.examine.Goals as goal

pub returns-clause-settled : goal.returns-clause-settled
returns-clause-settled c =
    let side = c.args.self.now in
    let inside : c.args.place < length side.settled.items = omega (arith, c.requires.side.parallel.settled, c.requires.place) in
    settled_set c.args.binary c.args.matrix.now side c.args.across.now c.args.place c.is_none.result inside c.requires.settled
    (λ e. sym c.reason-reason.ensures ∙ none_is c.reason-reason.result (c.is_none.ensures ∙ ap not e))
