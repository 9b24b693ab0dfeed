use Rattle.std.proofs.Common.{Option, MatchOption, sym, subst}
use Rattle.std.proofs.lemmas.Result.{IfOk-weaker}
use Rattle.cmr_base.specs.declared.line_set.LineSet.{LineSet}
use Rattle.cmr_base.specs.LineSets.{AllBelow}
use Rattle.cmr_base.specs.Matrix.{Matrix, height}
use Rattle.path_places.specs.PathPlaces.{HasNoCutPlace, IsCutPlace}
use Rattle.path_places.specs.SideMasks.{side_of}
use Rattle.cmr_base.specs.declared.position.Position.{Position}
use Rattle.three_sep.specs.FirstCuts.{HasNoCut, IsFirstCutOn}
use Rattle.separating_places.proofs.ChosenPlaces.{cut_answer, no_place_without_cut}
use Rattle.separating_places.proofs.place.place_for.Goals as goal

abbrev IsFoundCut : Matrix → Option LineSet → Type 0
IsFoundCut m found = MatchOption found (HasNoCut m) (λ lines. IsFirstCutOn m lines.rows lines.columns)

abbrev IsFoundPlace : LineSet → Matrix → Option Position → Type 0
IsFoundPlace side m found = MatchOption found (HasNoCutPlace m (side_of side)) (λ place. IsCutPlace m (side_of side) place.row place.column)

pub cut_place-requires-clause-rows : goal.cut_place-requires-clause-rows
cut_place-requires-clause-rows c =
    let first = subst (IsFoundCut c.args.matrix.now) c.in-Some.is c.in_ok-side.ensures in
    subst (λ (m : Matrix). AllBelow (height m) c.in-Some.side.rows) (sym c.by_rows.ensures.matrix) first.row_set.in_range

pub cut_place-requires-clause-columns : goal.cut_place-requires-clause-columns
cut_place-requires-clause-columns c =
    let first = subst (IsFoundCut c.args.matrix.now) c.in-Some.is c.in_ok-side.ensures in
    subst (λ (m : Matrix). AllBelow m.width c.in-Some.side.columns) (sym c.by_rows.ensures.matrix) first.column_set.in_range

pub returns : goal.returns
returns c =
    let m = c.args.matrix.now in
    let side = c.in-Some.side in
    let first = subst (IsFoundCut m) c.in-Some.is c.in_ok-side.ensures in
    IfOk-weaker c.cut_place.result (IsFoundPlace side c.by_rows.result.now) _
    (λ found answer. cut_answer m side first found (subst (λ (n : Matrix). IsFoundPlace side n found) c.by_rows.ensures.matrix answer)) c.cut_place.ensures

pub returns-in_default : goal.returns-in_default
returns-in_default c =
    let m = c.args.matrix.now in
    no_place_without_cut m (subst (IsFoundCut m) c.in_default.is c.in_ok-side.ensures)
