use Rattle.std.proofs.Common.{refl, sym, arith}
use Rattle.cmr_base.proofs.Booleans.{true_is_false}
use Rattle.chains.proofs.ChainChecks.{in_lines, not_in_lines}
use Rattle.chains.proofs.check.has.Goals as goal

pub returns-then-lines-place : goal.returns-then-lines-place
returns-then-lines-place c = ((λ t. in_lines c.args.lines.now c.loop-place.place c.args.line c.loop-place-test.true c.if-lines-place.true), (λ h. refl))

pub returns : goal.returns
returns c = ((λ f. true_is_false (sym f)), (λ h. absurd (not_in_lines c.args.lines.now c.args.line c.loop-place.place (let t = c.loop-place-test.false in omega arith) c.loop-place.invariant h)))
