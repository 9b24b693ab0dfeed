use Rattle.std.proofs.Common.{◌≤◌}
use Rattle.clap.specs.Words.{app_of, found_of, rows_of}
use Rattle.cmr_front.proofs.Matches.{Gives-matches_with_input, as_defined}
use Rattle.cmr_reach.specs.Balanced.{balanced_app, balanced_order_in, balanced_order_of, balanced_order, balanced_tool}
use Rattle.cmr_reach.proofs.tools.balanced.read_balanced.Goals as goal
use Rattle.cmr_reach.proofs.BalancedAnswers.{balanced_order-ranges}

pub returns-clause-value : goal.returns-clause-value
returns-clause-value c =
    Gives-matches_with_input balanced_order_of (app_of c.in_ok-balanced_command.field-0) balanced_app c.args.words.now (rows_of (found_of c.in_ok-matches.matches)) balanced_order_in c.options_in.result
    c.in_ok-balanced_command.ensures c.in_ok-matches.ensures c.options_in.ensures

pub returns-clause-ranges : goal.returns-clause-ranges
returns-clause-ranges c = as_defined balanced_order_of (λ o. (balanced_tool o).InRanges) c.options_in.result (balanced_order c.args.words.now) (returns-clause-value c) (λ o e. (balanced_order-ranges c.args.words.now o e).0)

pub returns-clause-pivots : goal.returns-clause-pivots
returns-clause-pivots c = as_defined balanced_order_of (λ o. o.pivots ≤ 100) c.options_in.result (balanced_order c.args.words.now) (returns-clause-value c) (λ o e. (balanced_order-ranges c.args.words.now o e).1)
