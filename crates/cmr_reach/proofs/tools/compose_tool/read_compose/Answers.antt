use Rattle.clap.specs.Words.{app_of, found_of, rows_of}
use Rattle.cmr_front.proofs.Matches.{Gives-matches_in}
use Rattle.cmr_reach.specs.Compose.{compose_app, compose_order_in, compose_order_of}
use Rattle.cmr_reach.proofs.tools.compose_tool.read_compose.Goals as goal

pub returns : goal.returns
returns c =
    Gives-matches_in compose_order_of (app_of c.in_ok-compose_command.field-0) compose_app c.args.words.now (rows_of (found_of c.in_ok-matches.matches)) compose_order_in c.options_in.result
    c.in_ok-compose_command.ensures c.in_ok-matches.ensures c.options_in.ensures
