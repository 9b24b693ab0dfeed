use Rattle.std.proofs.Common.{◌≡◌, ◌∙◌, ℕ, List, Contains, pos, ap, ap₂, length, subst, sym, arith, rules}
use Rattle.std.specs.Prelude.{IfSome, IfNone, Option}
use Rattle.cmr_base.specs.Matrix.{height, entry}
use Rattle.cmr_base.proofs.Parts.{length-increasing}
use Rattle.pivots.specs.declared.drawn.DrawnPlace.{DrawnPlace}
use Rattle.pivots.specs.DrawnPlaces.{places_on}
use Rattle.cmr_base.specs.PlacedPivots.{IsPlaceIn}
use Rattle.pivots.proofs.DrawnPlaces.{none_placed, drawn_in, none_drawn}
use Rattle.pivots.proofs.drawn.drawn_place.Goals as goal

pub prove-unreachable-requires : goal.prove-unreachable-requires
prove-unreachable-requires c =
    omega (arith, length-increasing c.args.lines.now.rows (height c.args.matrix.now) c.as_slice-rows.ensures.increasing c.requires.rows.in_range, ap length c.as_slice-rows.ensures.items)

pub prove-unreachable-requires-2 : goal.prove-unreachable-requires-2
prove-unreachable-requires-2 c =
    omega (arith, length-increasing c.args.lines.now.columns c.args.matrix.now.width c.as_slice-columns.ensures.increasing c.requires.columns.in_range, ap length c.as_slice-columns.ensures.items)

pub returns-then-count-eq0-clause-none : goal.returns-then-count-eq0-clause-none
returns-then-count-eq0-clause-none c = none_placed c.args.matrix.now c.args.lines.now.rows c.args.lines.now.columns
    (ap₂ (λ (rows columns : List ℕ). length (places_on c.args.matrix.now rows columns)) (sym c.as_slice-rows.ensures.items) (sym c.as_slice-columns.ensures.items) ∙ sym c.count_places-count.ensures ∙ c.if-count-eq0.true)

pub returns-in_err-place-clause-drawn : goal.returns-in_err-place-clause-drawn
returns-in_err-place-clause-drawn c = search rules

pub returns-in_err-place-clause-none : goal.returns-in_err-place-clause-none
returns-in_err-place-clause-none c =
    subst (λ (o : Option DrawnPlace). IfNone o ((i j : ℕ) → Contains c.args.lines.now.rows i → Contains c.args.lines.now.columns j → entry c.args.matrix.now i j ≡ pos 0)) (sym (returns-in_err-place-clause-drawn c))
    (none_drawn c.args.matrix.now c.args.lines.now c.args.state)

pub returns-clause-drawn : goal.returns-clause-drawn
returns-clause-drawn c = search rules

pub returns-clause-place : goal.returns-clause-place
returns-clause-place c =
    subst (λ (o : Option DrawnPlace). IfSome o (λ drawn. IsPlaceIn c.args.matrix.now c.args.lines.now drawn.place)) (sym (returns-clause-drawn c))
    (drawn_in c.args.matrix.now c.args.lines.now c.args.state)
