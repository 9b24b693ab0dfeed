use Rattle.std.proofs.Common.{refl, arith}
use Rattle.line_growth.proofs.SetSteps.{all_taken, none_taken, one_taken, same_sizes}
use Rattle.line_growth.proofs.growing_set.GrowingSet.start.Goals as goal

pub lines-init : goal.lines-init
lines-init c = record {
  inside = omega arith;
  size = c.clear.ensures.size;
  growing = λ m upper lower. none_taken m upper lower c.args.lines.now c.clear.new.self (c.clear.ensures.growing m upper lower);
}

pub lines-preserved : goal.lines-preserved
lines-preserved c =
    let from = c.lines.from in
    let so = c.lines.invariant in
    record {
      inside = omega (arith, so.inside);
      size = same_sizes c.args.self.now c.lines.self c.add.new.self so.size c.add.ensures.size;
      growing = λ m upper lower. one_taken m upper lower c.args.lines.now from _ c.add.new.self c.lines-test.true so.inside refl (c.in_ok-add.ensures.growing m upper lower _ (so.growing m upper lower));
    }

pub returns-clause-growing : goal.returns-clause-growing
returns-clause-growing c = λ m upper lower. all_taken m upper lower c.args.lines.now c.lines.from c.lines.self (omega (arith, c.lines-test.false)) (c.lines.invariant.growing m upper lower)
