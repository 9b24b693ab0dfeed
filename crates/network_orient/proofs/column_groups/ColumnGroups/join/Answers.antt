use Rattle.std.proofs.Common.{◌≡◌, ◌+◌, ◌∙◌, ◌*ℤ◌, ℕ, ℤ, ap₂, sym, subst, to_z, of_z, w8, arith}
use Rattle.std.proofs.lemmas.List.{get_or_read}
use Rattle.cmr_base.specs.Matrix.{height}
use Rattle.ghouila.proofs.Bytes.{kept_entry, product_bytes}
use Rattle.network_orient.specs.SignedGroups.{group_of, row_sign_by, IsMerged}
use Rattle.ghouila.proofs.PivotBytes.{kept_sign}
use Rattle.network_orient.proofs.ForcedSigns.{groups_later, joined_groups, merged_coarser, merged_products}
use Rattle.network_orient.proofs.column_groups.ColumnGroups.join.Goals as goal

pub returns-then-replaced-stays-clause-groups : goal.returns-then-replaced-stays-clause-groups
returns-then-replaced-stays-clause-groups c =
    let m = c.args.from.now in
    let n = c.args.to.now in
    let groups = c.args.self.now.groups.items in
    let signs = c.args.self.now.signs.items in
    let all = c.requires.groups in
    let factor = to_z w8 (of_z w8 c.product.result) in
    let by_first = c.row_sign_by-by_first in
    let by_other = c.row_sign_by-by_other in
    let replaced : c.index-replaced.result.now ≡ group_of groups c.args.other = get_or_read groups c.args.other c.index-replaced.result.now (omega (arith, c.requires.other, all.group_each)) c.index-replaced.ensures 0 in
    let stays : c.index-stays.result.now ≡ group_of groups c.args.first = get_or_read groups c.args.first c.index-stays.result.now (omega (arith, c.requires.first, all.group_each)) c.index-stays.ensures 0 in
    let is_factor : factor ≡ row_sign_by m n signs c.args.row c.args.first *ℤ row_sign_by m n signs c.args.row c.args.other =
    kept_entry c.product.result c.product.ensures.small ∙ product_bytes by_first.result by_other.result c.product.result by_first.ensures.small by_other.ensures.small c.product.ensures.value
    ∙ ap₂ (λ (x y : ℤ). x *ℤ y) by_first.ensures.value by_other.ensures.value in
    joined_groups m n c.args.row c.args.first c.args.other groups c.merge.new.self.groups.items signs c.merge.new.self.signs.items factor c.requires.first c.requires.other
    by_first.ensures.entry by_other.ensures.entry
    (kept_sign c.product.result (c.product.ensures.sign (kept_sign by_first.result by_first.ensures.sign) (kept_sign by_other.result by_other.ensures.sign))) is_factor all
    (subst (λ (g : ℕ). IsMerged groups signs c.merge.new.self.groups.items c.merge.new.self.signs.items g (group_of groups c.args.first) factor) replaced
    (subst (λ (g : ℕ). IsMerged groups signs c.merge.new.self.groups.items c.merge.new.self.signs.items c.index-replaced.result.now g factor) stays c.merge.ensures))

pub returns-then-replaced-stays-clause-coarser : goal.returns-then-replaced-stays-clause-coarser
returns-then-replaced-stays-clause-coarser c =
    let groups = c.args.self.now.groups.items in
    let merged = c.merge.new.self in
    let factor_sign = kept_sign c.product.result (c.product.ensures.sign (kept_sign c.row_sign_by-by_first.result c.row_sign_by-by_first.ensures.sign) (kept_sign c.row_sign_by-by_other.result c.row_sign_by-by_other.ensures.sign)) in (
      merged_coarser c.args.from.now.width groups merged.groups.items c.args.self.now.signs.items merged.signs.items _ _ _ (sym c.requires.groups.group_each) c.merge.ensures,
      merged_products c.args.from.now.width groups merged.groups.items c.args.self.now.signs.items merged.signs.items _ _ _ (sym c.requires.groups.group_each) factor_sign c.merge.ensures,
    )

pub row_sign_by-by_first-requires-clause-groups : goal.row_sign_by-by_first-requires-clause-groups
row_sign_by-by_first-requires-clause-groups c =
    groups_later c.args.from.now c.args.to.now (c.args.row + 1) (height c.args.from.now) c.args.self.now.groups.items c.args.self.now.signs.items (let l = c.requires.row in omega arith) c.requires.groups

pub row_sign_by-by_other-requires-clause-groups : goal.row_sign_by-by_other-requires-clause-groups
row_sign_by-by_other-requires-clause-groups c =
    groups_later c.args.from.now c.args.to.now (c.args.row + 1) (height c.args.from.now) c.args.self.now.groups.items c.args.self.now.signs.items (let l = c.requires.row in omega arith) c.requires.groups
