use Rattle.std.proofs.Common.{◌≢◌, ◌<◌, ◌∙◌, ℕ, List, length, get_or, ap, subst, sym, arith}
use Rattle.std.proofs.lemmas.List.Elements.{Contains-get_or}
use Rattle.cmr_base.specs.LineSets.{IsColumnSet}
use Rattle.cmr_base.specs.Matrix.{height}
use Rattle.cmr_base.proofs.Places.{contained_below}
use Rattle.pivots.specs.ChosenLines.{two_lines}
use Rattle.pivots.specs.PivotedRows.{IsPivotedRow}
use Rattle.pivots.proofs.PivotedRows.{rows_begun, rows_go_on, rows_ended, first_two_of, first_two_apart, shows_first_two}
use Rattle.pivots.proofs.part_pivot.pivot_part.Goals as goal

pub loop-row-init : goal.loop-row-init
loop-row-init c = rows_begun c.args.matrix.now c.args.lines.now c.args.place c.in_ok-work.work c.in_ok-work.ensures.copy c.copy.ensures.shape

pub pivot_row-requires-clause-columns : goal.pivot_row-requires-clause-columns
pivot_row-requires-clause-columns c = subst (IsColumnSet c.args.matrix.now) (sym c.as_slice-columns.ensures.items) c.requires.columns

pub pivot_row-requires-clause-place_row : goal.pivot_row-requires-clause-place_row
pivot_row-requires-clause-place_row c = contained_below (height c.args.matrix.now) c.args.lines.now.rows c.args.place.row c.requires.rows.in_range c.requires.place.row

pub pivot_row-requires-clause-place_column : goal.pivot_row-requires-clause-place_column
pivot_row-requires-clause-place_column c = contained_below c.args.matrix.now.width c.args.lines.now.columns c.args.place.column c.requires.columns.in_range c.requires.place.column

pub pivot_row-requires-clause-row : goal.pivot_row-requires-clause-row
pivot_row-requires-clause-row c =
    let same = c.as_slice-row-items.ensures.items in
    let k = c.loop-row.row-index in
    subst (λ (rows : List ℕ). get_or rows c.loop-row.row-index 0 < height c.args.matrix.now) (sym same) (c.requires.rows.in_range k (omega (arith, ap length same)))

pub two_lines-requires : goal.two_lines-requires
two_lines-requires c =
    let same = c.as_slice-row-items.ensures.items in
    let inside : c.loop-row.row-index < length c.args.lines.now.rows = omega (arith, ap length same) in
    subst (λ (rows : List ℕ). c.args.place.row ≢ get_or rows c.loop-row.row-index 0) (sym same)
    (first_two_apart c.args.matrix.now c.args.lines.now c.args.place c.copy.ensures.shape c.requires.rows c.requires.columns c.requires.place (get_or c.args.lines.now.rows c.loop-row.row-index 0) c.in-Some.column
    (Contains-get_or c.args.lines.now.rows c.loop-row.row-index 0 inside)
    (first_two_of c.args.matrix.now c.args.lines.now c.args.place c.as_slice-row-items.result.now c.as_slice-columns.result.now c.loop-row.row-index c.in-Some.column c.as_slice-row-items.ensures.items c.as_slice-columns.ensures.items c.in-Some.ensures.some)).0

pub two_lines-requires-in-Some : goal.two_lines-requires-in-Some
two_lines-requires-in-Some c =
    let same = c.as_slice-row-items.ensures.items in
    let inside : c.loop-row.row-index < length c.args.lines.now.rows = omega (arith, ap length same) in
    (first_two_apart c.args.matrix.now c.args.lines.now c.args.place c.copy.ensures.shape c.requires.rows c.requires.columns c.requires.place (get_or c.args.lines.now.rows c.loop-row.row-index 0) c.in-Some.column
    (Contains-get_or c.args.lines.now.rows c.loop-row.row-index 0 inside)
    (first_two_of c.args.matrix.now c.args.lines.now c.args.place c.as_slice-row-items.result.now c.as_slice-columns.result.now c.loop-row.row-index c.in-Some.column c.as_slice-row-items.ensures.items c.as_slice-columns.ensures.items c.in-Some.ensures.some)).1

pub returns-in-Some : goal.returns-in-Some
returns-in-Some c =
    let same = c.as_slice-row-items.ensures.items in
    let inside : c.loop-row.row-index < length c.args.lines.now.rows = omega (arith, ap length same) in
    shows_first_two c.args.matrix.now c.args.lines.now c.args.place c.copy.ensures.shape c.requires.rows c.requires.columns c.requires.place
    c.loop-row.work c.loop-row.row-index c.in-Some.column c.in_ok-two_lines.field-0 c.in_ok-two_lines-2.field-0 inside c.loop-row.invariant
    (first_two_of c.args.matrix.now c.args.lines.now c.args.place c.as_slice-row-items.result.now c.as_slice-columns.result.now c.loop-row.row-index c.in-Some.column c.as_slice-row-items.ensures.items c.as_slice-columns.ensures.items c.in-Some.ensures.some)
    (c.in_ok-two_lines.ensures ∙ ap (λ (rows : List ℕ). two_lines c.args.place.row (get_or rows c.loop-row.row-index 0)) same) c.in_ok-two_lines-2.ensures

pub loop-row-preserved : goal.loop-row-preserved
loop-row-preserved c =
    let same = c.as_slice-row-items.ensures.items in
    let k = c.loop-row.row-index in
    rows_go_on c.args.matrix.now c.args.lines.now c.args.place c.loop-row.work c.pivot_row.new.work k (omega (arith, ap length same))
    (subst (λ (columns : List ℕ). IsPivotedRow c.args.matrix.now c.loop-row.work c.pivot_row.new.work columns c.args.place (get_or c.args.lines.now.rows c.loop-row.row-index 0)) c.as_slice-columns.ensures.items
    (subst (λ (rows : List ℕ). IsPivotedRow c.args.matrix.now c.loop-row.work c.pivot_row.new.work c.as_slice-columns.result.now c.args.place (get_or rows c.loop-row.row-index 0)) same c.in_default.ensures.none))
    c.loop-row.invariant

pub returns : goal.returns
returns c =
    let same = c.as_slice-row-items.ensures.items in
    let stop = c.loop-row-test.false in
    rows_ended c.args.matrix.now c.args.lines.now c.args.place c.loop-row.work c.loop-row.row-index (omega (arith, stop, ap length same)) c.loop-row.invariant
