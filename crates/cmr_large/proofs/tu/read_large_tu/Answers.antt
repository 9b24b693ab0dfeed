use Rattle.std.proofs.Common.{◌≤◌, rules, subst}
use Rattle.clap.specs.Words.{app_of, found_of, rows_of}
use Rattle.cmr_front.specs.Words.Parsing.{matches_with_input}
use Rattle.cmr_front.specs.Words.ReadWords.{Gives, ◌>>=◌}
use Rattle.cmr_front.proofs.Matches.{Gives-matches_with_input, as_defined}
use Rattle.cmr_large.specs.LargeTu.{large_app, large_order_in, large_order_of, large_tool, large_tu_order}
use Rattle.cmr_large.proofs.LargeRanges.{large_order-ranges}
use Rattle.cmr_large.proofs.tu.read_large_tu.Goals as goal

pub returns-in_err-matches-clause-value : goal.returns-in_err-matches-clause-value
returns-in_err-matches-clause-value c =
    subst (λ app. Gives large_order_of c.from_residual-in_err-matches.result (matches_with_input app c.args.words.now >>= large_order_in)) c.in_ok-large_command.ensures (search rules)

pub returns-clause-value : goal.returns-clause-value
returns-clause-value c =
    Gives-matches_with_input large_order_of (app_of c.in_ok-large_command.field-0) large_app c.args.words.now (rows_of (found_of c.in_ok-matches.matches)) large_order_in c.options_in.result
    c.in_ok-large_command.ensures c.in_ok-matches.ensures c.options_in.ensures

pub returns-clause-ranges : goal.returns-clause-ranges
returns-clause-ranges c = as_defined large_order_of (λ o. (large_tool o).InRanges) c.options_in.result (large_tu_order c.args.words.now) (returns-clause-value c)
    (λ o e. (large_order-ranges c.args.words.now o e).0)

pub returns-clause-pivots : goal.returns-clause-pivots
returns-clause-pivots c = as_defined large_order_of (λ o. o.pivots ≤ 100) c.options_in.result (large_tu_order c.args.words.now) (returns-clause-value c)
    (λ o e. (large_order-ranges c.args.words.now o e).1)
