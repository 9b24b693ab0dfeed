use Rattle.std.proofs.Common.{◌≡◌, ◌∙◌, ℕ, refl, subst, arith}
use Rattle.cmr_base.specs.Matrix.{height}
use Rattle.camion_sign.specs.Signings.{IsAtRow}
use Rattle.camion_sign.proofs.ForcedSigns.{signs_before}
use Rattle.camion_sign.proofs.signing.sign_rows.Goals as goal

pub loop-row-init : goal.loop-row-init
loop-row-init c = (c.in_ok-places.ensures, c.requires, refl)

pub loop-row-preserved : goal.loop-row-preserved
loop-row-preserved c = (c.end.ensures, c.in_ok-sign_row.ensures.state, c.in_ok-sign_row.ensures.flag ∙ c.loop-row.invariant.2)

pub sign_row-requires-clause-places : goal.sign_row-requires-clause-places
sign_row-requires-clause-places c =
    let state = c.loop-row.invariant.1 in
    c.begin.ensures c.loop-row.signing.signs c.loop-row.row c.loop-row.invariant.0 (signs_before c.args.matrix.now c.loop-row.signing.signs c.loop-row.row state.signs state.turn)

pub returns-clause-state : goal.returns-clause-state
returns-clause-state c =
    let m = c.args.matrix.now in
    let e : c.loop-row.row ≡ height m = omega (arith, c.loop-row-test.false, c.loop-row.auto.row-end, c.rows-row-end.ensures.rows) in
    subst (λ (row : ℕ). IsAtRow m row c.loop-row.signing) e c.loop-row.invariant.1
