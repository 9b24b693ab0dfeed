use Rattle.std.proofs.Common.{◌≤◌, rules, subst}
use Rattle.clap.specs.Words.{app_of, found_of, rows_of}
use Rattle.cmr_front.specs.Words.Parsing.{matches_with_input}
use Rattle.cmr_front.specs.Words.ReadWords.{Gives, ◌>>=◌}
use Rattle.cmr_unimodular.specs.Regular.{regular_app, regular_order_in, regular_order_of, regular_order, regular_tool}
use Rattle.cmr_front.proofs.Matches.{Gives-matches_with_input, as_defined}
use Rattle.cmr_unimodular.proofs.tools.regular.read_regular.Goals as goal
use Rattle.cmr_unimodular.proofs.RegularAnswers.{regular_order-ranges}

pub returns-in_err-matches-clause-value : goal.returns-in_err-matches-clause-value
returns-in_err-matches-clause-value c =
    subst (λ app. Gives regular_order_of c.from_residual-in_err-matches.result (matches_with_input app c.args.words.now >>= regular_order_in)) c.in_ok-regular_command.ensures (search rules)

pub returns-clause-value : goal.returns-clause-value
returns-clause-value c =
    Gives-matches_with_input regular_order_of (app_of c.in_ok-regular_command.field-0) regular_app c.args.words.now (rows_of (found_of c.in_ok-matches.matches)) regular_order_in c.options_in.result
    c.in_ok-regular_command.ensures c.in_ok-matches.ensures c.options_in.ensures

pub returns-clause-ranges : goal.returns-clause-ranges
returns-clause-ranges c = as_defined regular_order_of (λ o. (regular_tool o).InRanges) c.options_in.result (regular_order c.args.words.now) (returns-clause-value c) (λ o e. (regular_order-ranges c.args.words.now o e).0)

pub returns-clause-pivots : goal.returns-clause-pivots
returns-clause-pivots c = as_defined regular_order_of (λ o. o.pivots ≤ 100) c.options_in.result (regular_order c.args.words.now) (returns-clause-value c) (λ o e. (regular_order-ranges c.args.words.now o e).1)
