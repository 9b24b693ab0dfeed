use Rattle.std.proofs.Common.{◌≡◌, ◌+◌, ◌∙◌, to_z, of_z, w8, subst, sym, arith}
use Rattle.std.proofs.lemmas.Int.{ints}
use Rattle.cmr_base.specs.Matrix.{Matrix, IsEntry}
use Rattle.cmr_base.proofs.CopiedRows.{IsCopiedBefore, nothing_copied, all_copied, passed_over, one_copied}
use Rattle.cmr_base.proofs.matrix.Matrix.copy_row.Goals as goal
use Rattle.cmr_base.proofs.matrix.Matrix.copy_row.Goals.{then-place-columns, else-place-columns}

pub loop-column-init : goal.loop-column-init
loop-column-init c = record {
  inside = omega arith;
  copied = nothing_copied c.args.self.now c.args.row c.args._columns.now c.args.to c.args.part.now c.requires.shape c.requires.empty;
}

pub loop-column-preserved : goal.loop-column-preserved
loop-column-preserved c =
    let m = c.args.self.now in
    let row = c.args.row in
    let columns = c.args._columns.now in
    let places = c.args.places.now in
    let to = c.args.to in
    let old = c.args.part.now in
    let now = c.loop-column.part in
    let from = c.loop-column.from in
    let next = c.in-Some.column in
    let before = c.loop-column.invariant.copied in
    let found = c.in-Some.ensures.first in
    let small = c.in-Some.ensures.small in
    let same = before.width_same in
    record {
      inside = omega (arith, small);
      copied = elim c.if-place-columns.branch [
        | then-place-columns w ↦
            let entry_small = w.entry.ensures.small in
            let low = entry_small.low in
            let high = entry_small.high in
            let kept : to_z w8 (of_z w8 w.entry.result) ≡ w.entry.result = omega (arith, ints) in
            subst (λ (new : Matrix). IsCopiedBefore m row columns to old (next + 1) new) (sym (w.part-is ∙ w.set.ensures))
            (one_copied m row columns to old from now before places c.requires.places next found.0 found.3 (to_z w8 (of_z w8 w.entry.result)) (kept ∙ w.entry.ensures.value) (subst IsEntry (sym kept) entry_small) found.1
            (omega (arith, w.if-place-columns.true, c.columns.ensures.columns, same, c.requires.width)) c.requires.to c.requires.width)
        | else-place-columns w ↦ subst (λ (new : Matrix). IsCopiedBefore m row columns to old (next + 1) new) (sym w.part-is)
            (passed_over m row columns to old from now before places c.requires.places next found.0 found.3 (omega (arith, w.if-place-columns.false, c.columns.ensures.columns, same, c.requires.width)))
      ];
    }

pub returns : goal.returns
returns c = all_copied c.args.self.now c.args.row c.args._columns.now c.args.to c.args.part.now c.loop-column.from c.loop-column.part c.loop-column.invariant.copied c.in_default.ensures.first
