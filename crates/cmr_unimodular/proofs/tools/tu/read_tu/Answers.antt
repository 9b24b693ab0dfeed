use Rattle.std.proofs.Common.{◌≤◌, rules, subst}
use Rattle.clap.specs.Words.{app_of, found_of, rows_of}
use Rattle.cmr_front.specs.Words.Parsing.{matches_with_input}
use Rattle.cmr_front.specs.Words.ReadWords.{Gives, ◌>>=◌}
use Rattle.cmr_unimodular.specs.Tu.{tu_app, tu_order_in, tu_order_of, tu_order, tu_tool}
use Rattle.cmr_front.proofs.Matches.{Gives-matches_with_input, as_defined}
use Rattle.cmr_unimodular.proofs.tools.tu.read_tu.Goals as goal
use Rattle.cmr_unimodular.proofs.TuAnswers.{tu_order-ranges}

pub returns-in_err-matches-clause-value : goal.returns-in_err-matches-clause-value
returns-in_err-matches-clause-value c =
    subst (λ app. Gives tu_order_of c.from_residual-in_err-matches.result (matches_with_input app c.args.words.now >>= tu_order_in)) c.in_ok-tu_command.ensures (search rules)

pub returns-clause-value : goal.returns-clause-value
returns-clause-value c =
    Gives-matches_with_input tu_order_of (app_of c.in_ok-tu_command.field-0) tu_app c.args.words.now (rows_of (found_of c.in_ok-matches.matches)) tu_order_in c.options_in.result
    c.in_ok-tu_command.ensures c.in_ok-matches.ensures c.options_in.ensures

pub returns-clause-ranges : goal.returns-clause-ranges
returns-clause-ranges c = as_defined tu_order_of (λ o. (tu_tool o).InRanges) c.options_in.result (tu_order c.args.words.now) (returns-clause-value c) (λ o e. (tu_order-ranges c.args.words.now o e).0)

pub returns-clause-pivots : goal.returns-clause-pivots
returns-clause-pivots c = as_defined tu_order_of (λ o. o.pivots ≤ 100) c.options_in.result (tu_order c.args.words.now) (returns-clause-value c) (λ o e. (tu_order-ranges c.args.words.now o e).1)
