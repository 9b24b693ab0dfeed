use Rattle.std.proofs.Common.{◌≤◌, rules, subst}
use Rattle.clap.specs.Words.{app_of, found_of, rows_of}
use Rattle.cmr_front.specs.Words.Parsing.{matches_in}
use Rattle.cmr_front.specs.Words.ReadWords.{Gives, ◌>>=◌}
use Rattle.cmr_unimodular.specs.Generate.{generate_app, generate_order_in, generate_order_of, generate_order, generate_tool}
use Rattle.cmr_front.proofs.Matches.{Gives-matches_in, as_defined}
use Rattle.cmr_unimodular.proofs.tools.generate_tool.read_generate.Goals as goal
use Rattle.cmr_unimodular.proofs.GenerateAnswers.{generate_order-ranges}

pub returns-in_err-matches-clause-value : goal.returns-in_err-matches-clause-value
returns-in_err-matches-clause-value c =
    subst (λ app. Gives generate_order_of c.from_residual-in_err-matches.result (matches_in app c.args.words.now >>= generate_order_in)) c.in_ok-generate_command.ensures (search rules)

pub returns-clause-value : goal.returns-clause-value
returns-clause-value c =
    Gives-matches_in generate_order_of (app_of c.in_ok-generate_command.field-0) generate_app c.args.words.now (rows_of (found_of c.in_ok-matches.matches)) generate_order_in c.options_in.result
    c.in_ok-generate_command.ensures c.in_ok-matches.ensures c.options_in.ensures

pub returns-clause-ranges : goal.returns-clause-ranges
returns-clause-ranges c = as_defined generate_order_of (λ o. (generate_tool o).InRanges) c.options_in.result (generate_order c.args.words.now) (returns-clause-value c) (λ o e. (generate_order-ranges c.args.words.now o e).0)

pub returns-clause-pivots : goal.returns-clause-pivots
returns-clause-pivots c = as_defined generate_order_of (λ o. o.pivots ≤ 100) c.options_in.result (generate_order c.args.words.now) (returns-clause-value c) (λ o e. (generate_order-ranges c.args.words.now o e).1)
