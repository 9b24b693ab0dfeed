use Rattle.std.proofs.Common.{◌≡◌, ◌+◌, ◌∙◌, pos, get_or, to_z, of_z, w8, arith, sym, subst}
use Rattle.std.proofs.lemmas.Int.{ints}
use Rattle.cmr_base.specs.Matrix.{Matrix, IsEntry}
use Rattle.cmr_base.specs.WrittenColumns.{IsColumnWritten}
use Rattle.cmr_base.proofs.ColumnSteps.{nothing_written, zero_written, entry_written}
use Rattle.cmr_base.proofs.network_matrix.write_column.Goals as goal
use Rattle.cmr_base.proofs.network_matrix.write_column.Goals.{then-value-ne0, else-value-ne0}

pub loop-row-init : goal.loop-row-init
loop-row-init c = nothing_written c.args.matrix.now c.args.column c.args.entries.now c.requires.shape

pub loop-row-preserved : goal.loop-row-preserved
loop-row-preserved c =
    let old = c.args.matrix.now in
    let now = c.loop-row.matrix in
    let row = c.loop-row.row in
    let before = c.loop-row.invariant in
    let value = get_or c.args.entries.now row (pos 0) in
    let small : IsEntry value = c.requires.small row in
    let low = small.low in
    let high = small.high in
    let kept : to_z w8 (of_z w8 value) ≡ value = omega (arith, ints) in
    elim c.if-value-ne0.branch [
      | then-value-ne0 w ↦ subst (λ (new : Matrix). IsColumnWritten old new c.args.column c.args.entries.now (row + 1)) (sym (w.matrix-is ∙ w.set.ensures))
          (entry_written old c.args.column c.args.entries.now now row before (to_z w8 (of_z w8 value)) kept (subst IsEntry (sym kept) small)
          (omega (arith, c.loop-row-test.true, c.rows-row-end.ensures.rows, before.height_same)) (omega (arith, c.requires.column, before.width_same)))
      | else-value-ne0 w ↦ subst (λ (new : Matrix). IsColumnWritten old new c.args.column c.args.entries.now (row + 1)) (sym w.matrix-is)
          (zero_written old c.args.column c.args.entries.now now row before (let zero_byte = w.if-value-ne0.false in omega (arith, ints)) (c.requires.zeros row))
    ]
