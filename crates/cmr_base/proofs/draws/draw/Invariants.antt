use Rattle.cmr_base.proofs.DrawnNumbers.{AreDrawn}
use Rattle.cmr_base.proofs.draws.draw.Given as goal

abbrev pub invariant-loop-place : goal.invariant-loop-place
invariant-loop-place l = AreDrawn l.count l.bound l.step l.state l._place l.below l.now l.numbers.items
