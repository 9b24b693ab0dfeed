use Rattle.std.proofs.lemmas.Result.{IfOk-weaker}
use Rattle.cmr_reach.specs.Balanced.{decomposed}
use Rattle.cmr_reach.proofs.tools.balanced.without_cycle_fault.Goals as goal

pub returns-then-branch : goal.returns-then-branch
returns-then-branch g c =
    let says = c.in_ok-is_decomposed.ensures.yes c.if-branch.true in
    IfOk-weaker c.yes_outcome.result _ _ (λ outcome report. decomposed c.requires.no_fault says.0 says.1 report) c.yes_outcome.ensures

pub search-requires-clause-needed : goal.search-requires-clause-needed
search-requires-clause-needed g c κs within = record { no_fault = c.requires.no_fault; undecomposed = c.in_ok-is_decomposed.ensures.no c.if-branch.false }
