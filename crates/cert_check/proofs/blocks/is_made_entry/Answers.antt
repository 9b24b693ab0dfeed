use Rattle.std.proofs.Common.{◌≡◌, ◌↔◌, ◌∙◌, ◌*ℤ◌, ℤ, IsTrue, nat_eq, ap, sym, w8, to_z, of_z}
use mathlib.Core.Path.{ap₂}
use Rattle.cmr_base.specs.Matrix.{entry, IsEntry}
use Rattle.cmr_base.proofs.RowLists.{eq_of, is_eq}
use Rattle.cmr_base.proofs.EntryBytes.{kept_entry, product_bytes}
use Rattle.cert_check.proofs.blocks.is_made_entry.Goals as goal

same_entry : (x y p q : ℤ) → IsEntry x → IsEntry y → x ≡ p → y ≡ q → IsTrue (nat_eq (of_z w8 x) (of_z w8 y)) ↔ (p ≡ q)
same_entry x y p q a b e f = (
  (λ same. sym e ∙ sym (kept_entry x a) ∙ ap (to_z w8) (eq_of (of_z w8 x) (of_z w8 y) same) ∙ kept_entry y b ∙ f),
  λ same. is_eq (of_z w8 x) (of_z w8 y) (ap (of_z w8) (e ∙ same ∙ sym f)),
)

pub returns : goal.returns
returns c =
    let M = entry c.args.matrix.now in
    let a = c.entry in
    let b = c.entry-2 in
    let f = c.product-factor in
    let d = c.entry-4 in
    let factor : f.result ≡ M c.args.row c.args.j *ℤ M c.args.i c.args.j = product_bytes a.result b.result f.result a.ensures.small b.ensures.small f.ensures.value ∙ ap₂ (λ (x y : ℤ). x *ℤ y) a.ensures.value b.ensures.value in
    let made : c.product.result ≡ (M c.args.row c.args.j *ℤ M c.args.i c.args.j) *ℤ M c.args.i c.args.column = product_bytes f.result d.result c.product.result f.ensures.small d.ensures.small c.product.ensures.value ∙ ap₂ (λ (x y : ℤ). x *ℤ y) factor d.ensures.value in
    same_entry c.entry-3.result c.product.result (M c.args.row c.args.column) ((M c.args.row c.args.j *ℤ M c.args.i c.args.j) *ℤ M c.args.i c.args.column) c.entry-3.ensures.small c.product.ensures.small c.entry-3.ensures.value made
