use Rattle.std.proofs.Common.{◌≡◌, ℤ, ◌≤◌, ◌+ℤ◌, to_z, of_z, w32, arith, ap, ◌∙◌}
use Rattle.cmr_base.specs.declared.limits.TheConstants.{MAX_COLUMNS}
use Rattle.cmr_base.specs.Matrix.{entry, IsEntry}
use Rattle.cmr_base.proofs.Integers.{sums}
use Rattle.cmr_base.proofs.SumSteps.{sum_over-drop_more, kept_entry}
use Rattle.cmr_base.proofs.matrix.Matrix.row_sum.Goals as goal

pub loop-column-preserved : goal.loop-column-preserved
loop-column-preserved c =
    let xs = c.args.columns.now in
    let i = c.loop-column.column-index in
    let old = to_z w32 c.loop-column.sum-bits in
    let x = c.entry.result in
    let small : IsEntry x = c.entry.ensures.small in
    let few : i ≤ MAX_COLUMNS = omega (arith, c.loop-column-test.true, c.requires.few) in
    let new = to_z w32 (of_z w32 (old +ℤ to_z w32 (of_z w32 c.from-sum.result))) in
    let is : new ≡ old +ℤ x =
    ap (λ (z : ℤ). to_z w32 (of_z w32 (old +ℤ to_z w32 (of_z w32 z)))) c.from-sum.ensures ∙ kept_entry old x i few c.loop-column.invariant.low c.loop-column.invariant.high small in
    record {
      rest = sum_over-drop_more xs i (λ j. entry c.args.self.now c.args.row j) old new c.loop-column-test.true (is ∙ ap (λ (z : ℤ). old +ℤ z) c.entry.ensures.value) c.loop-column.invariant.rest;
      low = let l = c.loop-column.invariant.low in let s = small.low in omega (arith, sums);
      high = let l = c.loop-column.invariant.high in let s = small.high in omega (arith, sums);
    }
