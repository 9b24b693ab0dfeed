use Rattle.cmr_base.proofs.DrawnNumbers.{drawn_on}
use Rattle.cmr_base.proofs.draws.draw.Goals as goal

pub loop-place-preserved : goal.loop-place-preserved
loop-place-preserved c =
    drawn_on c.args.count c.args.bound c.args.step c.args.state c.loop-place._place c.loop-place.below c.loop-place.now c.draw_below-drawn.result.number c.draw_below-drawn.result.state c.loop-place.numbers.items c.push.new.self.items
    c.requires.step c.loop-place-test.true c.loop-place.invariant c.draw_below-drawn.ensures.low c.draw_below-drawn.ensures.number c.draw_below-drawn.ensures.state c.in_ok-push.ensures.items
