use Rattle.clap.specs.Words.{app_of, found_of, rows_of}
use Rattle.cmr_evidence.specs.Check.{check_app, check_order_in, check_order_of}
use Rattle.cmr_front.proofs.Matches.{Gives-matches_in}
use Rattle.cmr_evidence.proofs.tools.check.read_check.Goals as goal

pub returns : goal.returns
returns c =
    Gives-matches_in check_order_of (app_of c.in_ok-check_command.field-0) check_app c.args.words.now (rows_of (found_of c.in_ok-matches.matches)) check_order_in c.options_in.result
    c.in_ok-check_command.ensures c.in_ok-matches.ensures c.options_in.ensures
