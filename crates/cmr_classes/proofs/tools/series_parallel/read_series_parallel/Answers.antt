use Rattle.std.proofs.Common.{rules, subst}
use Rattle.clap.specs.Words.{app_of, found_of, rows_of}
use Rattle.cmr_front.specs.Words.Parsing.{matches_with_input}
use Rattle.cmr_front.specs.Words.ReadWords.{Gives, ◌>>=◌}
use Rattle.cmr_classes.specs.SeriesParallel.{series_parallel_app, series_parallel_order_in, series_parallel_order_of}
use Rattle.cmr_front.proofs.Matches.{Gives-matches_with_input}
use Rattle.cmr_classes.proofs.tools.series_parallel.read_series_parallel.Goals as goal

pub returns-in_err-matches : goal.returns-in_err-matches
returns-in_err-matches c =
    subst (λ app. Gives series_parallel_order_of c.from_residual-in_err-matches.result (matches_with_input app c.args.words.now >>= series_parallel_order_in)) c.in_ok-series_parallel_command.ensures (search rules)

pub returns : goal.returns
returns c =
    Gives-matches_with_input series_parallel_order_of (app_of c.in_ok-series_parallel_command.field-0) series_parallel_app c.args.words.now (rows_of (found_of c.in_ok-matches.matches)) series_parallel_order_in c.options_in.result
    c.in_ok-series_parallel_command.ensures c.in_ok-matches.ensures c.options_in.ensures
