use Rattle.std.proofs.Common.{rules, ◌∙◌, Option, MatchOption, subst}
use Rattle.cmr_base.specs.LineSets.{submatrix}
use Rattle.cmr_base.specs.Matrix.{Matrix}
use Rattle.cmr_base.specs.declared.position.Position.{Position}
use Rattle.separating_places.specs.SeparatingPlaces.{HasNoPlaceFor, IsPlaceFor}
use Rattle.separating_places.proofs.ChosenPlaces.{named_place, no_separating_place, separating_place_in}
use Rattle.separating_places.proofs.place.separating_place.Goals as goal

abbrev IsFoundIn : Option Position → Matrix → Type 0
IsFoundIn found m = MatchOption found (HasNoPlaceFor m) (IsPlaceFor m)

pub returns-in_default-clause-place : goal.returns-in_default-clause-place
returns-in_default-clause-place c =
    let part = submatrix c.args.matrix.now c.args.lines.now.rows c.args.lines.now.columns in
    let answer = subst (IsFoundIn c.in_ok-place.field-0) (c.of.ensures ∙ c.in_ok-submatrix.ensures) c.in_ok-place.ensures in
    no_separating_place c.args.matrix.now c.args.lines.now (subst (λ (o : Option Position). IsFoundIn o part) c.in_default.is answer)

pub returns-clause-place : goal.returns-clause-place
returns-clause-place c =
    let part = submatrix c.args.matrix.now c.args.lines.now.rows c.args.lines.now.columns in
    let answer = subst (IsFoundIn c.in_ok-place.field-0) (c.of.ensures ∙ c.in_ok-submatrix.ensures) c.in_ok-place.ensures in
    named_place c.args.matrix.now c.args.lines.now c.in-Some.place _ (subst (λ (o : Option Position). IsFoundIn o part) c.in-Some.is answer) (search rules) (search rules)

pub returns-clause-inside : goal.returns-clause-inside
returns-clause-inside c = separating_place_in c.args.matrix.now c.args.lines.now _ (returns-clause-place c)
