use Rattle.clap.specs.Words.{app_of, found_of, rows_of}
use Rattle.cmr_front.proofs.Matches.{Gives-matches_in}
use Rattle.cmr_reach.specs.Parts.{parts_app, parts_order_in, parts_order_of}
use Rattle.cmr_reach.proofs.tools.parts.read_parts.Goals as goal

pub returns : goal.returns
returns c =
    Gives-matches_in parts_order_of (app_of c.in_ok-parts_command.field-0) parts_app c.args.words.now (rows_of (found_of c.in_ok-matches.matches)) parts_order_in c.options_in.result
    c.in_ok-parts_command.ensures c.in_ok-matches.ensures c.options_in.ensures
