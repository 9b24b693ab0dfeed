use Rattle.std.proofs.Common.{ℕ, cond, false, get_or, arith}
use Rattle.std.proofs.lemmas.Grind.{common_steps}
use Rattle.sp_reduce.specs.StayingSides.{weight}
use Rattle.sp_reduce.proofs.Loops.{pushed_each}
use Rattle.sp_reduce.proofs.tallies.weights_of.Goals as goal

pub lines-preserved : goal.lines-preserved
lines-preserved c =
    let is = c.lines.invariant in
    record {
      inside = omega (arith, c.lines-test.true);
      many = grind (arith, common_steps, c.in_ok-push.ensures.items, is.many);
      exact = pushed_each c.lines.weights.items c.push.new.self.items c.weight_if.result (λ (k : ℕ). cond (get_or c.args.marks.now k false) (weight k) 0) c.lines.line is.many c.in_ok-push.ensures.items c.weight_if.ensures.value is.exact;
    }

pub returns : goal.returns
returns c =
    let is = c.lines.invariant in
    let done = c.lines-test.false in
    let inside = is.inside in
    let many = is.many in
    record { long = omega (arith, done, inside, many); exact = λ k h. is.exact k (omega (arith, h, done)) }
