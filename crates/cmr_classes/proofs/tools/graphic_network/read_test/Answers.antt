use Rattle.std.proofs.Common.{rules, subst}
use Rattle.clap.specs.Words.{app_of, found_of, rows_of}
use Rattle.cmr_front.specs.Words.Parsing.{matches_with_input}
use Rattle.cmr_front.specs.Words.ReadWords.{Gives, ◌>>=◌}
use Rattle.cmr_classes.specs.GraphicNetwork.{test_app, test_order_in, test_order_of, test_order}
use Rattle.cmr_front.proofs.Matches.{Gives-matches_with_input, as_defined}
use Rattle.cmr_classes.proofs.tools.graphic_network.read_test.Goals as goal
use Rattle.cmr_classes.specs.GraphMatrix.{test_tool}
use Rattle.cmr_classes.proofs.GraphMatrixAnswers.{test_in_ranges}

pub returns-in_err-matches-clause-value : goal.returns-in_err-matches-clause-value
returns-in_err-matches-clause-value c =
    subst (λ app. Gives test_order_of c.from_residual-in_err-matches.result (matches_with_input app c.args.words.now >>= test_order_in)) c.in_ok-test_command.ensures (search rules)

pub returns-clause-value : goal.returns-clause-value
returns-clause-value c =
    Gives-matches_with_input test_order_of (app_of c.in_ok-test_command.field-0) (test_app c.args.property) c.args.words.now (rows_of (found_of c.in_ok-matches.matches)) test_order_in c.options_in.result
    c.in_ok-test_command.ensures c.in_ok-matches.ensures c.options_in.ensures

pub returns-clause-ranges : goal.returns-clause-ranges
returns-clause-ranges c = as_defined test_order_of (λ o. (test_tool c.args.property o).InRanges) c.options_in.result (test_order c.args.property c.args.words.now) (returns-clause-value c) (λ o e. test_in_ranges c.args.property o)
