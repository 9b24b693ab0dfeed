use Rattle.std.proofs.Common.{arith}
use Rattle.graph_realise.proofs.JointLemmas.{none_marked, marked_more, marked_none, all_marked}
use Rattle.graph_realise.proofs.joint.marks_of.Goals.{in-Some, in_default}
use Rattle.graph_realise.proofs.joint.marks_of.Goals as goal

pub loop-line-init : goal.loop-line-init
loop-line-init c = none_marked c.args.numbers.now c.args.count c.in_ok-marks.marks c.in_ok-marks.ensures.height c.in_ok-marks.ensures.width c.in_ok-marks.ensures.none

pub loop-line-preserved : goal.loop-line-preserved
loop-line-preserved c =
    let numbers = c.args.numbers.now in
    let line = c.loop-line.line in
    elim c.match-numbers-line.branch [
      | in-Some w ↦ rw w.marks-is (marked_more numbers c.args.count line w.in-Some.part c.loop-line.marks w.set.new.self w.in-Some.is c.loop-line.invariant w.set.ensures)
      | in_default w ↦ rw w.marks-is (marked_none numbers c.args.count line c.loop-line.marks w.in_default.is c.loop-line.invariant)
    ]

pub returns : goal.returns
returns c = all_marked c.args.numbers.now c.args.count c.loop-line.line c.loop-line.marks (let l = c.loop-line-test.false in omega arith) c.loop-line.invariant
