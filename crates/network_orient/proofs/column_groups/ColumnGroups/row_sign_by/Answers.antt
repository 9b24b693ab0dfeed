use Rattle.std.proofs.Common.{◌∙◌, subst, sym}
use Rattle.cmr_base.specs.Signing.{IsSign}
use Rattle.cmr_base.proofs.SignEntries.{sign_of_entry}
use Rattle.ghouila.proofs.PivotBytes.{kept_sign}
use Rattle.network_orient.proofs.column_groups.ColumnGroups.row_sign_by.Goals as goal

pub returns-clause-sign : goal.returns-clause-sign
returns-clause-sign c =
    let from_sign = sign_of_entry c.entry.result c.entry.ensures.small (λ e. c.requires.nonzero (sym c.entry.ensures.value ∙ e)) in
    let to_sign = sign_of_entry c.entry-2.result c.entry-2.ensures.small (λ e. c.requires.nonzero ((c.requires.support.zeros_same c.args.row c.args.column).1 (sym c.entry-2.ensures.value ∙ e))) in
    let ratio = c.product-ratio.ensures.sign (kept_sign c.entry.result from_sign) (kept_sign c.entry-2.result to_sign) in
    let sign = subst IsSign (sym c.sign_of.ensures.value) (c.requires.groups.each_sign c.args.column) in
    kept_sign c.product.result (c.product.ensures.sign (kept_sign c.sign_of.result sign) (kept_sign c.product-ratio.result ratio))

pub returns-clause-entry : goal.returns-clause-entry
returns-clause-entry c =
    subst IsSign c.entry.ensures.value (sign_of_entry c.entry.result c.entry.ensures.small (λ e. c.requires.nonzero (sym c.entry.ensures.value ∙ e)))
