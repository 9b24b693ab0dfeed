use Rattle.std.proofs.Common.{sym, ◌∙◌}
use Rattle.clap.specs.Words.{app_of}
use Rattle.cmr_front.proofs.Matches.{matches_found, matches_refused}
use Rattle.cmr_front.proofs.words.parsing.matches_in.Goals as goal

pub returns-in_err-try_get_matches_from : goal.returns-in_err-try_get_matches_from
returns-in_err-try_get_matches_from c =
    matches_refused (app_of c.args.command) c.args.words.now c.in_err-try_get_matches_from.field-0.0 c.from_residual.result (sym c.has_dash.ensures ∙ c.if-has_dash.false)
    (c.in_err-try_get_matches_from.ensures.kinds c.requires) c.from_residual.ensures.1

pub returns : goal.returns
returns c =
    matches_found (app_of c.args.command) c.args.words.now c.in_ok-try_get_matches_from.field-0 c.requires
    (sym c.has_dash.ensures ∙ c.if-has_dash.false) (c.in_ok-try_get_matches_from.ensures.kinds c.requires) c.in_ok-try_get_matches_from.ensures.matches
