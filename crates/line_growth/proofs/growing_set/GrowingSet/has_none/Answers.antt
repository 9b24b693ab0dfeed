use Rattle.std.proofs.Common.{◌≡◌, false, refl, arith}
use Rattle.cmr_base.specs.declared.line.Line.TheVariants.{Row}
use Rattle.line_growth.specs.GrowingSets.{set_of}
use Rattle.line_growth.proofs.SetSteps.{all_at}
use Rattle.line_growth.proofs.growing_set.GrowingSet.has_none.Goals as goal

pub returns : goal.returns
returns c = (
  (λ t. all_at (λ x. set_of c.args.self.now x ≡ false) c.args.lines.now (Row 0) (λ p l. c.loop-line.invariant p (let t = c.loop-line-test.false in let e = c.loop-line.auto.line-index-end in omega arith))),
  λ h. refl,
)
