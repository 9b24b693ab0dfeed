use Rattle.std.proofs.Common.{Option, MatchOption, subst}
use Rattle.cmr_base.specs.declared.position.Position.{Position}
use Rattle.separating_places.specs.SeparatingPlaces.{HasNoLatePlace, HasNoSeparatingPlace, IsLatePlace, IsSeparatingPlace}
use Rattle.separating_places.proofs.ChosenPlaces.{drawn_last}
use Rattle.separating_places.proofs.place.chosen_place.Goals as goal

pub returns-in-None-clause-place : goal.returns-in-None-clause-place
returns-in-None-clause-place c =
    let m = c.args.matrix.now in
    let lines = c.args.lines.now in
    drawn_last m lines c.args.state c.drawn_place.result
    (subst (λ (o : Option Position). MatchOption o (HasNoSeparatingPlace m lines) (IsSeparatingPlace m lines)) c.in_default.is c.in_ok-place.ensures.place)
    (subst (λ (o : Option Position). MatchOption o (HasNoLatePlace m lines c.args.state) (IsLatePlace m lines c.args.state)) c.in-None.is c.in_ok-place-2.ensures.place)
    c.drawn_place.ensures.drawn
