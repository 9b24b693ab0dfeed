use Rattle.std.proofs.Common.{◌≡◌, ◌∙◌, ◌+◌, sym, subst, ap₂, arith, ℤ, ◌*ℤ◌, w8, to_z, of_z}
use Rattle.cmr_base.specs.Matrix.{Matrix, entry, IsEntry}
use Rattle.cmr_base.proofs.SmallEntries.{entry_as_byte}
use Rattle.pivots.proofs.MultipliedRows.{IsMultiplied, multiplied_none, multiplied_there, multiplied_more}
use Rattle.pivots.proofs.matrix_pivot.multiply_row.Goals.{then-other-column, else-other-column}
use Rattle.pivots.proofs.matrix_pivot.multiply_row.Goals as goal

pub loop-other-init : goal.loop-other-init
loop-other-init c = multiplied_none c.args.work.now c.args.row c.args.column c.columns-other-end.ensures.shape

pub loop-other-preserved : goal.loop-other-preserved
loop-other-preserved c =
    let before = c.args.work.now in
    let now = c.loop-other.work in
    let k = c.loop-other.other in
    elim c.if-other-column.branch [
      | then-other-column w ↦
          let a = c.entry-factor.ensures in
          let q = w.entry.ensures in
          let p = w.product-multiple.ensures in
          let byte = entry_as_byte w.product-multiple.result p.small in
          let value : to_z w8 (of_z w8 w.product-multiple.result) ≡ entry c.args.work.now c.args.row c.args.column *ℤ entry c.args.work.now c.args.row c.loop-other.other =
          byte ∙ p.value ∙ ap₂ (λ (x y : ℤ). x *ℤ y) (entry_as_byte c.entry-factor.result a.small ∙ a.value)
          (entry_as_byte w.entry.result q.small ∙ q.value ∙ c.loop-other.invariant.ahead c.loop-other.other (omega arith)) in
          subst (λ (m : Matrix). IsMultiplied c.args.work.now m c.args.row c.args.column (c.loop-other.other + 1)) (sym (w.work-is ∙ w.set.ensures))
          (multiplied_more c.args.work.now c.loop-other.work c.args.row c.args.column c.loop-other.other (to_z w8 (of_z w8 w.product-multiple.result)) c.requires.row
          (let inside = c.loop-other-test.true in let wide = c.columns-other-end.ensures.columns in omega arith) w.if-other-column.true (subst IsEntry (sym byte) p.small) value c.loop-other.invariant)
      | else-other-column w ↦ subst (λ (m : Matrix). IsMultiplied c.args.work.now m c.args.row c.args.column (c.loop-other.other + 1)) (sym w.work-is)
          (multiplied_there c.args.work.now c.loop-other.work c.args.row c.args.column c.loop-other.other w.if-other-column.false c.loop-other.invariant)
    ]
