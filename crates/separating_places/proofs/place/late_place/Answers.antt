use Rattle.std.proofs.Common.{rules, ◌∙◌, Option, MatchOption, subst}
use Rattle.cmr_base.specs.LineSets.{submatrix}
use Rattle.cmr_base.specs.Matrix.{Matrix}
use Rattle.cmr_base.specs.declared.position.Position.{Position}
use Rattle.block_ranks.specs.PlacesBeforeCuts.{HasNoPlaceBeforeCut, IsFirstPlaceBeforeCut}
use Rattle.separating_places.proofs.ChosenPlaces.{before_cut_in, named_before_cut, no_late}
use Rattle.separating_places.proofs.place.late_place.Goals as goal

abbrev IsFoundIn : Option Position → Matrix → Type 0
IsFoundIn found m = MatchOption found (HasNoPlaceBeforeCut m) (IsFirstPlaceBeforeCut m)

pub returns-in_default-clause-place : goal.returns-in_default-clause-place
returns-in_default-clause-place c =
    let part = submatrix c.args.matrix.now c.args.lines.now.rows c.args.lines.now.columns in
    let answer = subst (IsFoundIn c.in_ok-place.field-0) (c.of.ensures ∙ c.in_ok-submatrix.ensures) c.in_ok-place.ensures in
    no_late c.args.matrix.now c.args.lines.now c.args.state (subst (λ (o : Option Position). IsFoundIn o part) c.in_default.is answer)

pub returns-clause-place : goal.returns-clause-place
returns-clause-place c =
    let part = submatrix c.args.matrix.now c.args.lines.now.rows c.args.lines.now.columns in
    let answer = subst (IsFoundIn c.in_ok-place.field-0) (c.of.ensures ∙ c.in_ok-submatrix.ensures) c.in_ok-place.ensures in
    (c.if-state-ne-LATE_STATE.false, named_before_cut c.args.matrix.now c.args.lines.now c.in-Some.place _ (subst (λ (o : Option Position). IsFoundIn o part) c.in-Some.is answer) (search rules) (search rules))

pub returns-clause-inside : goal.returns-clause-inside
returns-clause-inside c = before_cut_in c.args.matrix.now c.args.lines.now _ (returns-clause-place c).1
