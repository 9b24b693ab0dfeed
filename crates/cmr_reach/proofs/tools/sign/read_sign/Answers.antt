use Rattle.clap.specs.Words.{app_of, found_of, rows_of}
use Rattle.cmr_front.proofs.Matches.{Gives-matches_in}
use Rattle.cmr_reach.specs.Sign.{sign_app, sign_order_in, sign_order_of}
use Rattle.cmr_reach.proofs.tools.sign.read_sign.Goals as goal

pub returns : goal.returns
returns c =
    Gives-matches_in sign_order_of (app_of c.in_ok-sign_command.field-0) sign_app c.args.words.now (rows_of (found_of c.in_ok-matches.matches)) sign_order_in c.options_in.result
    c.in_ok-sign_command.ensures c.in_ok-matches.ensures c.options_in.ensures
