use Rattle.std.proofs.Common.{◌<◌, ◌≤◌, ◌+◌, ◌-◌, ◌∙◌, ℕ, drop, ap, subst}
use Rattle.std.specs.Prelude.{slice_get}
use Rattle.pivots.specs.DrawnPlaces.{places_on}
use Rattle.pivots.proofs.DrawnPlaces.{place_here, place_later}
use Rattle.pivots.proofs.drawn.place_numbered.Goals as goal

pub returns-then-left-count : goal.returns-then-left-count
returns-then-left-count c =
    c.place_in_row.ensures
    ∙ place_here c.args.matrix.now c.args.rows.now c.args.columns.now c.loop-row.row-index c.loop-row.left c.loop-row-test.true (subst (λ (n : ℕ). c.loop-row.left < n) c.count_in_row-count.ensures.count c.if-left-count.true)
    ∙ c.loop-row.invariant

pub loop-row-preserved : goal.loop-row-preserved
loop-row-preserved c =
    ap (λ (n : ℕ). slice_get (places_on c.args.matrix.now (drop (c.loop-row.row-index + 1) c.args.rows.now) c.args.columns.now) (c.loop-row.left - n)) c.count_in_row-count.ensures.count
    ∙ place_later c.args.matrix.now c.args.rows.now c.args.columns.now c.loop-row.row-index c.loop-row.left c.loop-row-test.true (subst (λ (n : ℕ). n ≤ c.loop-row.left) c.count_in_row-count.ensures.count c.if-left-count.false)
    ∙ c.loop-row.invariant
