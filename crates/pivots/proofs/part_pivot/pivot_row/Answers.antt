use Rattle.std.proofs.Common.{◌∙◌, ◌+◌, subst, sym, arith, rules, w8, to_z, of_z, SFits}
use Rattle.std.proofs.lemmas.Bool.{false≢true}
use Rattle.std.proofs.lemmas.Int.{to_z-of_z}
use Rattle.cmr_base.specs.Matrix.{Matrix, IsEntry}
use Rattle.pivots.proofs.PivotedRows.{IsRowPivotedTo, row_begun, row_goes_on, row_ended, row_stopped}
use Rattle.pivots.proofs.part_pivot.pivot_row.Goals as goal

pub loop-column-init : goal.loop-column-init
loop-column-init c = row_begun c.args.matrix.now c.args.work.now c.args.columns.now c.args.place c.args.row c.requires.shape

pub returns-then-not-is_entry-clause-some : goal.returns-then-not-is_entry-clause-some
returns-then-not-is_entry-clause-some c =
    let z = c.entry_after-after.result in
    let fits : SFits w8 z = search rules in
    row_stopped c.args.matrix.now c.args.work.now c.args.columns.now c.args.place c.args.row c.loop-column.work c.loop-column.column-index c.loop-column-test.true c.requires.columns.increasing
    (λ small. false≢true (sym c.if-not-is_entry.true ∙ c.is_entry.ensures.1 (subst IsEntry (sym (to_z-of_z w8 z fits ∙ c.entry_after-after.ensures)) small)))
    c.loop-column.invariant

pub loop-column-preserved : goal.loop-column-preserved
loop-column-preserved c =
    let z = c.entry_after-after.result in
    let fits : SFits w8 z = search rules in
    let k = c.loop-column.column-index in
    let high = c.loop-column.invariant.same_height in
    let wide = c.loop-column.invariant.same_width in
    let row_in = c.requires.row in
    let column_in = c.requires.columns.in_range k c.loop-column-test.true in
    let height_is = c.requires.height in
    let width_is = c.requires.width in
    subst (λ (work : Matrix). IsRowPivotedTo c.args.matrix.now c.args.work.now work c.args.columns.now c.args.place c.args.row (c.loop-column.column-index + 1)) (sym c.set.ensures)
    (row_goes_on c.args.matrix.now c.args.work.now c.args.columns.now c.args.place c.args.row c.loop-column.work k (to_z w8 (of_z w8 z)) c.loop-column-test.true
    (omega (arith, high, row_in, height_is)) (omega (arith, wide, column_in, width_is))
    (to_z-of_z w8 z fits ∙ c.entry_after-after.ensures) (c.is_entry.ensures.0 c.if-not-is_entry.false) c.loop-column.invariant)

pub returns-clause-none : goal.returns-clause-none
returns-clause-none c =
    let stop = c.loop-column-test.false in
    row_ended c.args.matrix.now c.args.work.now c.args.columns.now c.args.place c.args.row c.loop-column.work c.loop-column.column-index (omega (arith, stop)) c.loop-column.invariant
