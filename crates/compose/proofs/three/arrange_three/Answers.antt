use Rattle.std.proofs.Common.{◌≡◌, ◌∙◌, ap, sym, subst, true, false}
use Rattle.std.proofs.lemmas.Result.{IfOk-weaker}
use Rattle.cmr_base.specs.Matrix.{entry}
use Rattle.cmr_base.specs.Separations.{listed, first_is_flat, second_is_flat}
use Rattle.compose.specs.declared.sides.Sides.{Sides}
use Rattle.compose.specs.SumKinds.{kind_of_form}
use Rattle.compose.specs.Arrangements.{HasSignedLines, arranged, three_lines, three_arrangement}
use Rattle.compose.specs.RoundTrips.{IsRoundTrip}
use Rattle.compose.proofs.FittingArrangements.{three_arrangement_fits, connector_there}
use Rattle.compose.proofs.RoundTrips.{three_round_trips}
use Rattle.compose.proofs.three.arrange_three.Goals as goal

pub three_lines-requires-clause-first : goal.three_lines-requires-clause-first
three_lines-requires-clause-first c =
    let three = c.args.three.now in
    connector_there c.args.matrix.now (listed three.side.rows three.side.columns) true (first_is_flat three.form) three.first c.requires.separation.one

pub three_lines-requires-clause-second : goal.three_lines-requires-clause-second
three_lines-requires-clause-second c =
    let three = c.args.three.now in
    connector_there c.args.matrix.now (listed three.side.rows three.side.columns) false (second_is_flat three.form) three.second c.requires.separation.two

pub of-requires-2 : goal.of-requires-2
of-requires-2 c =
    let m = c.args.matrix.now in
    let three = c.args.three.now in
    let same : c.in_ok-three_lines.field-0 ≡ three_arrangement m three = c.in_ok-three_lines.ensures ∙ ap (λ (s : Sides). three_lines (entry m) three.form s three.first three.second) c.in_ok-sides.ensures.sides in
    subst (HasSignedLines m) (sym same) (three_arrangement_fits m three c.in_ok-sides.ensures.shape.small c.requires)

pub returns-clause-round_trip : goal.returns-clause-round_trip
returns-clause-round_trip c =
    let m = c.args.matrix.now in
    let three = c.args.three.now in
    let same : c.in_ok-three_lines.field-0 ≡ three_arrangement m three = c.in_ok-three_lines.ensures ∙ ap (λ (s : Sides). three_lines (entry m) three.form s three.first three.second) c.in_ok-sides.ensures.sides in
    IfOk-weaker c.of-2.result _ _ (λ both e. subst (IsRoundTrip (kind_of_form three.form) m) (sym (e ∙ ap (arranged m) same)) (three_round_trips m three c.in_ok-sides.ensures.shape.small c.requires)) c.of-2.ensures
