use Rattle.std.proofs.Common.{◌≡◌, ◌<◌, ◌+ℤ◌, get_or, to_z, of_z, w32, arith, ap, ◌∙◌}
use Rattle.cmr_base.specs.declared.limits.TheConstants.{MAX_ROWS}
use Rattle.cmr_base.specs.Matrix.{entry}
use Rattle.cmr_base.specs.Sums.{sum_over}
use Rattle.cmr_base.proofs.SumSteps.{sum_over-drop_more, kept_row, row_fits, lower_row, higher_row}
use Rattle.cmr_base.proofs.matrix.Matrix.sum_on.Goals as goal

pub overflow_add-sum : goal.overflow_add-sum
overflow_add-sum c =
    let few : c.loop-row.row-index < MAX_ROWS = omega (arith, c.loop-row-test.true, c.requires.few_rows) in
    row_fits (to_z w32 c.loop-row.sum-bits) c.row_sum-sum.result c.loop-row.row-index few c.loop-row.invariant.low c.loop-row.invariant.high c.row_sum-sum.ensures.low c.row_sum-sum.ensures.high

pub loop-row-preserved : goal.loop-row-preserved
loop-row-preserved c =
    let m = c.args.self.now in
    let rows = c.args.rows.now in
    let columns = c.args.columns.now in
    let i = c.loop-row.row-index in
    let old = to_z w32 c.loop-row.sum-bits in
    let x = c.row_sum-sum.result in
    let new = to_z w32 (of_z w32 (old +ℤ to_z w32 (of_z w32 x))) in
    let before = c.loop-row.invariant in
    let few : i < MAX_ROWS = omega (arith, c.loop-row-test.true, c.requires.few_rows) in
    let is : new ≡ old +ℤ x = kept_row old x i few before.low before.high c.row_sum-sum.ensures.low c.row_sum-sum.ensures.high in
    let value : x ≡ sum_over columns (λ column. entry m (get_or rows i 0) column) = c.row_sum-sum.ensures.sum in
    record {
      rest = sum_over-drop_more rows i (λ row. sum_over columns (λ column. entry m row column)) old new c.loop-row-test.true (is ∙ ap (λ z. old +ℤ z) value) before.rest;
      low = lower_row old x new i is before.low c.row_sum-sum.ensures.low;
      high = higher_row old x new i is before.high c.row_sum-sum.ensures.high;
    }
