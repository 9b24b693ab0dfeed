use Rattle.std.proofs.Common.{◌≡◌, ◌∙◌, ◌*ℤ◌, ℕ, ℤ, arith, ap, ap₂, sym, w8, to_z, of_z}
use Rattle.cmr_base.specs.Matrix.{entry}
use Rattle.cmr_base.proofs.Booleans.{zero_is}
use Rattle.cmr_base.proofs.SignEntries.{sign_is_entry}
use Rattle.cmr_base.proofs.EntryBytes.{same_bytes}
use Rattle.ghouila.proofs.Bytes.{kept_entry}
use Rattle.network_orient.specs.SignedGroups.{sign_of}
use Rattle.network_orient.proofs.ForcedSigns.{multiplied_bytes, columns_to_next, columns_all, zero_multiplied}
use Rattle.network_orient.proofs.column_groups.ColumnGroups.is_row_multiplied.Goals as goal

pub loop-column-init : goal.loop-column-init
loop-column-init c = record { few = omega arith; multiplied = λ column l. absurd (omega arith) }

pub returns-then-entry-product : goal.returns-then-entry-product
returns-then-entry-product c =
    let next = c.in-Some.column in
    let value : c.product.result ≡ c.args.sign *ℤ (sign_of c.args.self.now.signs.items next *ℤ entry c.args.from.now c.args.row next) =
    multiplied_bytes c.args.sign c.sign_of.result c.entry.result c.product-multiplied.result c.product.result c.requires.sign c.sign_of.ensures.small c.entry.ensures.small c.product-multiplied.ensures.small c.product.ensures.small
    c.product-multiplied.ensures.value c.product.ensures.value
    ∙ ap₂ (λ (s x : ℤ). c.args.sign *ℤ (s *ℤ x)) c.sign_of.ensures.value c.entry.ensures.value in (
      (λ e. cc),
      λ multiplied. absurd (c.if-entry-product.true (ap (λ (z : ℤ). of_z w8 z)
          (c.entry-in-Some.ensures.value ∙ multiplied next c.in-Some.ensures.first.1 ∙ sym value))),
    )

pub loop-column-preserved : goal.loop-column-preserved
loop-column-preserved c =
    let m = c.args.from.now in
    let n = c.args.to.now in
    let row = c.args.row in
    let signs = c.args.self.now.signs.items in
    let next = c.in-Some.column in
    let found = c.in-Some.ensures.first in
    let small = c.in-Some.ensures.small in
    let kept = kept_entry c.args.sign (sign_is_entry c.args.sign c.requires.sign) in
    let sign = to_z w8 (of_z w8 c.args.sign) in
    let value : c.product.result ≡ c.args.sign *ℤ (sign_of signs next *ℤ entry m row next) =
    multiplied_bytes c.args.sign c.sign_of.result c.entry.result c.product-multiplied.result c.product.result c.requires.sign c.sign_of.ensures.small c.entry.ensures.small c.product-multiplied.ensures.small c.product.ensures.small
    c.product-multiplied.ensures.value c.product.ensures.value
    ∙ ap₂ (λ (s x : ℤ). c.args.sign *ℤ (s *ℤ x)) c.sign_of.ensures.value c.entry.ensures.value in
    let same = same_bytes c.entry-in-Some.result c.product.result c.entry-in-Some.ensures.small c.product.ensures.small c.if-entry-product.false in record {
      few = omega arith;
      multiplied = columns_to_next (λ (column : ℕ). entry c.args.to.now c.args.row column ≡ to_z w8 (of_z w8 c.args.sign) *ℤ (sign_of c.args.self.now.signs.items column *ℤ entry c.args.from.now c.args.row column)) c.loop-column.place next
          c.loop-column.invariant.multiplied (λ column past l. zero_multiplied m n row column sign (sign_of signs column) c.requires.support (zero_is (entry m row column) (found.3 column past l)))
          (sym c.entry-in-Some.ensures.value ∙ same ∙ value ∙ sym (ap (λ (s : ℤ). s *ℤ (sign_of signs next *ℤ entry m row next)) kept));
    }

pub returns : goal.returns
returns c =
    let m = c.args.from.now in
    let n = c.args.to.now in
    let row = c.args.row in
    let signs = c.args.self.now.signs.items in (
      (λ e column l. columns_all (λ (column : ℕ). entry c.args.to.now c.args.row column ≡ to_z w8 (of_z w8 c.args.sign) *ℤ (sign_of c.args.self.now.signs.items column *ℤ entry c.args.from.now c.args.row column)) c.loop-column.place
          c.loop-column.invariant.multiplied (λ column past. zero_multiplied m n row column (to_z w8 (of_z w8 c.args.sign)) (sign_of signs column) c.requires.support (zero_is (entry m row column) (c.in_default.ensures.first column past))) column
          ∙ ap (λ (s : ℤ). s *ℤ (sign_of signs column *ℤ entry m row column)) (kept_entry c.args.sign (sign_is_entry c.args.sign c.requires.sign))),
      λ multiplied. cc,
    )
