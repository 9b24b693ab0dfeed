use Rattle.std.proofs.Common.{◌≡◌, ◌∙◌, ◌+◌, ◌*ℤ◌, ℤ, arith, ap, sym, subst, to_z, of_z, w8}
use Rattle.std.proofs.lemmas.List.{get_or_read}
use Rattle.cmr_base.proofs.SignEntries.{sign_is_entry}
use Rattle.ghouila.proofs.Bytes.{kept_entry}
use Rattle.network_orient.specs.declared.column_groups.ColumnGroups.{ColumnGroups}
use Rattle.network_orient.specs.SignedGroups.{group_of}
use Rattle.network_orient.proofs.Merging.{IsMergedTo, merged_kept, merged_moved}
use Rattle.network_orient.proofs.column_groups.ColumnGroups.merge.Goals as goal
use Rattle.network_orient.proofs.column_groups.ColumnGroups.merge.Goals.{then-index-replaced, else-index-replaced}

pub loop-column-preserved : goal.loop-column-preserved
loop-column-preserved c =
    let old = c.args.self.now in
    let groups = c.loop-column.self.groups.items in
    let signs = c.loop-column.self.signs.items in
    let column = c.loop-column.column in
    let kept : to_z w8 (of_z w8 c.args.factor) ≡ c.args.factor = kept_entry c.args.factor (sign_is_entry c.args.factor c.requires.factor) in
    let read : c.index.result.now ≡ group_of groups column = get_or_read groups column c.index.result.now (omega (arith, c.loop-column-test.true, c.loop-column.invariant.group_each)) c.index.ensures 0 in
    let merged = λ (now : ColumnGroups). IsMergedTo (column + 1) old.groups.items old.signs.items now.groups.items now.signs.items c.args.replaced c.args.stays (to_z w8 (of_z w8 c.args.factor)) in
    elim c.if-index-replaced.branch [
      | then-index-replaced w ↦ subst merged (sym w.self-is)
          (merged_moved old.groups.items old.signs.items c.args.replaced c.args.stays (to_z w8 (of_z w8 c.args.factor)) groups signs column c.loop-column.invariant
          (omega arith) c.requires.each (sym read ∙ w.if-index-replaced.true) (to_z w8 (of_z w8 w.product.result)) (kept_entry w.product.result w.product.ensures.small ∙ w.product.ensures.value ∙ ap (λ (z : ℤ). z *ℤ to_z w8 (of_z w8 c.args.factor)) (kept_entry w.sign_of.result w.sign_of.ensures.small ∙ w.sign_of.ensures.value)))
      | else-index-replaced w ↦ subst merged (sym w.self-is)
          (merged_kept old.groups.items old.signs.items c.args.replaced c.args.stays (to_z w8 (of_z w8 c.args.factor)) groups signs column c.loop-column.invariant (λ e. w.if-index-replaced.false (read ∙ e)))
    ]
