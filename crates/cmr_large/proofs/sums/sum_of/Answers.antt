use Rattle.std.proofs.Common.{◌≡◌, ◌+ℤ◌, ℤ, length, to_z, of_z, w64, arith, ap, ◌∙◌}
use Rattle.cmr_base.specs.Sums.{sum_over}
use Rattle.cmr_base.proofs.SumSteps.{sum_over-drop_more}
use Rattle.sparse_matrix.specs.SparseRows.{sparse_entry}
use Rattle.cmr_large.proofs.RunSums.{higher_sum, kept_sum, lower_sum, row_sum_is, sum_ends, sum_fits}
use Rattle.cmr_large.proofs.sums.sum_of.Goals as goal

pub overflow_add-sum : goal.overflow_add-sum
overflow_add-sum c =
    let matrix = c.args.matrix.now in
    let lines = c.args.lines.now in
    let before = c.loop-row.invariant in
    let sum = row_sum_is matrix c.row.ensures.shape lines.rows lines.columns c.as_slice-row-items.ensures.increasing c.len-count.ensures.increasing c.requires.rows c.requires.columns
    c.as_slice-row-items.result.now c.as_slice-row-items.ensures.items c.loop-row.row-index c.loop-row-test.true c.row.result.now c.row.ensures.run c.row_sum-sum.result c.row_sum-sum.ensures in
    sum_fits (to_z w64 c.loop-row.sum-bits) c.row_sum-sum.result c.loop-row.row-index sum.few before.low before.high sum.low sum.high

pub loop-row-preserved : goal.loop-row-preserved
loop-row-preserved c =
    let matrix = c.args.matrix.now in
    let lines = c.args.lines.now in
    let before = c.loop-row.invariant in
    let index = c.loop-row.row-index in
    let old = to_z w64 c.loop-row.sum-bits in
    let here = c.row_sum-sum.result in
    let new = to_z w64 (of_z w64 (old +ℤ to_z w64 (of_z w64 here))) in
    let sum = row_sum_is matrix c.row.ensures.shape lines.rows lines.columns c.as_slice-row-items.ensures.increasing c.len-count.ensures.increasing c.requires.rows c.requires.columns
    c.as_slice-row-items.result.now c.as_slice-row-items.ensures.items index c.loop-row-test.true c.row.result.now c.row.ensures.run here c.row_sum-sum.ensures in
    let is : new ≡ old +ℤ here = kept_sum old here index sum.few before.low before.high sum.low sum.high in
    record {
      rest = sum_over-drop_more lines.rows index (λ row. sum_over lines.columns (sparse_entry matrix row)) old new sum.inside (is ∙ ap (λ (z : ℤ). old +ℤ z) sum.value) before.rest;
      low = lower_sum old here new index is before.low sum.low;
      high = higher_sum old here new index is before.high sum.high;
    }

pub returns : goal.returns
returns c =
    sum_ends c.args.matrix.now c.columns-width.ensures.shape c.args.lines.now.rows c.args.lines.now.columns c.loop-row.row-index (to_z w64 c.loop-row.sum-bits)
    (λ l. omega (arith, l, c.loop-row-test.false, ap length c.as_slice-row-items.ensures.items)) c.loop-row.invariant.rest
