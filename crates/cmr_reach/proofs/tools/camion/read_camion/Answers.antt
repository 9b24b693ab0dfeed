use Rattle.clap.specs.Words.{app_of, found_of, rows_of}
use Rattle.cmr_reach.specs.Camion.{camion_app, camion_order_in, camion_order_of}
use Rattle.cmr_front.proofs.Matches.{Gives-matches_with_input}
use Rattle.cmr_reach.proofs.tools.camion.read_camion.Goals as goal

pub returns : goal.returns
returns c =
    Gives-matches_with_input camion_order_of (app_of c.in_ok-camion_command.field-0) camion_app c.args.words.now (rows_of (found_of c.in_ok-matches.matches)) camion_order_in c.options_in.result
    c.in_ok-camion_command.ensures c.in_ok-matches.ensures c.options_in.ensures
