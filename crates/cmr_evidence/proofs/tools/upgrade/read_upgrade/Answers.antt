use Rattle.clap.specs.Words.{app_of, found_of, rows_of}
use Rattle.cmr_front.proofs.Matches.{Gives-matches_in}
use Rattle.cmr_evidence.specs.Upgrade.{upgrade_app, upgrade_order_in, upgrade_order_of}
use Rattle.cmr_evidence.proofs.tools.upgrade.read_upgrade.Goals as goal

pub returns : goal.returns
returns c =
    Gives-matches_in upgrade_order_of (app_of c.in_ok-upgrade_command.field-0) upgrade_app c.args.words.now (rows_of (found_of c.in_ok-matches.matches)) upgrade_order_in c.options_in.result
    c.in_ok-upgrade_command.ensures c.in_ok-matches.ensures c.options_in.ensures
