use Rattle.std.proofs.Common.{◌∙◌}
use Rattle.cmr_base.specs.Matrix.{height}
use Rattle.chains.proofs.ChainViolators.{same_zeros}
use Rattle.camion_sign.proofs.SigningStates.{start_state}
use Rattle.camion_sign.proofs.signing.no_signs.Goals as goal

pub returns-clause-state : goal.returns-clause-state
returns-clause-state c =
    let m = c.args.matrix.now in
    start_state m _ (c.in_ok-zero.ensures ∙ same_zeros c.rows.result c.columns.result (height m) m.width c.rows.ensures.rows c.columns.ensures.columns) c.new.ensures.kept
    (c.in_ok-new.ensures.long ∙ c.columns-2.ensures.columns) c.in_ok-new.ensures.none c.in_ok-new.ensures.passed
