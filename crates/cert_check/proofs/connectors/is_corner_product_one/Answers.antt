use Rattle.std.proofs.Common.{◌≡◌, ◌∙◌, ◌*ℤ◌, ℤ}
use mathlib.Core.Path.{ap₂}
use Rattle.cmr_base.specs.Matrix.{entry}
use Rattle.cmr_base.specs.Separations.{corner_product}
use Rattle.cmr_base.proofs.EntryBytes.{product_bytes}
use Rattle.cert_check.proofs.SumRules.{one_byte}
use Rattle.cert_check.proofs.connectors.is_corner_product_one.Goals as goal

pub returns : goal.returns
returns c =
    let M = entry c.args.matrix.now in
    let above : c.product-above.result ≡ M c.args.one.row c.args.one.column *ℤ M c.args.one.row c.args.other.column =
    product_bytes c.entry.result c.entry-2.result c.product-above.result c.entry.ensures.small c.entry-2.ensures.small c.product-above.ensures.value ∙ ap₂ (λ (x y : ℤ). x *ℤ y) c.entry.ensures.value c.entry-2.ensures.value in
    let below : c.product-below.result ≡ M c.args.other.row c.args.one.column *ℤ M c.args.other.row c.args.other.column =
    product_bytes c.entry-3.result c.entry-4.result c.product-below.result c.entry-3.ensures.small c.entry-4.ensures.small c.product-below.ensures.value ∙ ap₂ (λ (x y : ℤ). x *ℤ y) c.entry-3.ensures.value c.entry-4.ensures.value in
    let whole : c.product.result ≡ corner_product M c.args.one c.args.other =
    product_bytes c.product-above.result c.product-below.result c.product.result c.product-above.ensures.small c.product-below.ensures.small c.product.ensures.value ∙ ap₂ (λ (x y : ℤ). x *ℤ y) above below in
    one_byte c.product.result (corner_product M c.args.one c.args.other) c.product.ensures.small whole
