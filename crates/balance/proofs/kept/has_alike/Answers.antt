use Rattle.std.proofs.Common.{refl, subst}
use Rattle.std.proofs.lemmas.List.{take_all}
use Rattle.std.proofs.lemmas.Bool.{false≢true}
use Rattle.std.specs.List.{AllByRecursion}
use Rattle.balance.specs.CandidateColumns.{AreAlikeColumns}
use Rattle.balance.proofs.KeptSteps.{some_alike, none_alike}
use Rattle.balance.proofs.kept.has_alike.Goals as goal

pub returns-then-are_alike : goal.returns-then-are_alike
returns-then-are_alike c = ((λ yes. some_alike c.args.matrix.now c.args.rows.now c.args.columns.now c.args.column c.loop-other.other-index c.loop-other-test.true (c.are_alike.ensures.0 c.if-are_alike.true)), (λ h. refl))

pub returns : goal.returns
returns c = (
  (λ no. absurd (false≢true no)),
  (λ h. absurd (none_alike c.args.matrix.now c.args.rows.now c.args.columns.now c.args.column (subst (AllByRecursion (λ other. ¬ (AreAlikeColumns c.args.matrix.now c.args.rows.now other c.args.column))) (take_all c.loop-other.other-index c.args.columns.now c.loop-other-test.false) c.loop-other.invariant) h)),
)
