use Rattle.std.proofs.Common.{◌≡◌, ◌∙◌, ap, sym, subst}
use Rattle.std.proofs.lemmas.Result.{IfOk-weaker}
use Rattle.cmr_base.specs.Matrix.{height, entry}
use Rattle.cmr_base.proofs.ListedLines.{first_lines_contain}
use Rattle.compose.specs.declared.sides.Sides.{Sides}
use Rattle.compose.specs.declared.sum_kind.SumKind.TheVariants as kind
use Rattle.compose.specs.Arrangements.{HasSignedLines, arranged, two_sum_lines, two_arrangement}
use Rattle.compose.specs.RoundTrips.{IsRoundTrip}
use Rattle.compose.proofs.FittingArrangements.{two_arrangement_fits}
use Rattle.compose.proofs.RoundTrips.{two_round_trips}
use Rattle.compose.proofs.two.arrange_two.Goals as goal

pub two_sum_lines-requires-clause-row : goal.two_sum_lines-requires-clause-row
two_sum_lines-requires-clause-row c = first_lines_contain (height c.args.matrix.now) c.args.two.now.row c.requires.two.0.0

pub two_sum_lines-requires-clause-column : goal.two_sum_lines-requires-clause-column
two_sum_lines-requires-clause-column c = first_lines_contain c.args.matrix.now.width c.args.two.now.column c.requires.one.0.0

pub of-requires-2 : goal.of-requires-2
of-requires-2 c =
    let m = c.args.matrix.now in
    let two = c.args.two.now in
    let same : c.in_ok-two_sum_lines.field-0 ≡ two_arrangement m two = c.in_ok-two_sum_lines.ensures ∙ ap (λ (s : Sides). two_sum_lines (entry m) s two.row two.column) c.in_ok-sides.ensures.sides in
    subst (HasSignedLines m) (sym same) (two_arrangement_fits m two c.in_ok-sides.ensures.shape.small c.requires)

pub returns-clause-round_trip : goal.returns-clause-round_trip
returns-clause-round_trip c =
    let m = c.args.matrix.now in
    let two = c.args.two.now in
    let same : c.in_ok-two_sum_lines.field-0 ≡ two_arrangement m two = c.in_ok-two_sum_lines.ensures ∙ ap (λ (s : Sides). two_sum_lines (entry m) s two.row two.column) c.in_ok-sides.ensures.sides in
    IfOk-weaker c.of-2.result _ _ (λ both e. subst (IsRoundTrip kind.Two m) (sym (e ∙ ap (arranged m) same)) (two_round_trips m two c.requires)) c.of-2.ensures
