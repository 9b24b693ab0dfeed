use Rattle.std.proofs.Common.{ℕ, List, sym, subst}
use Rattle.cmr_base.specs.Matrix.{Matrix}
use Rattle.cmr_base.specs.LineSets.{IsRowSet}
use Rattle.ghouila.specs.MarkedSignings.{IsOutcome}
use Rattle.ghouila.proofs.NamedRows.{named_right}
use Rattle.ghouila.proofs.by_pivots.sign_by_steps.Goals as goal

pub sign_left-requires : goal.sign_left-requires
sign_left-requires c = subst (λ (m : Matrix). IsRowSet m c.in_ok-left.left.items) (sym c.in_ok-work.ensures.copy)
    (subst (IsRowSet c.args.matrix.now) (sym c.in_ok-left.ensures.items) (record { increasing = c.in_ok-left.ensures.increasing; in_range = c.requires }))

pub returns-clause-right : goal.returns-clause-right
returns-clause-right c =
    let outcome = c.in_ok-outcome.outcome in
    named_right c.args.matrix.now c.args.rows.now outcome c.in_ok-signing.signing
    (subst (λ (m : Matrix). IsOutcome m c.args.rows.now outcome) c.in_ok-work.ensures.copy (subst (λ (rows : List ℕ). IsOutcome c.in_ok-work.work rows outcome) c.in_ok-left.ensures.items c.in_ok-outcome.ensures.found))
    c.in_ok-signing.ensures
