use Rattle.std.proofs.Common.{◌≡◌, ◌∙◌, ◌+◌, ◌+ℤ◌, ◌*ℤ◌, ℤ, ap₂, sym, refl, arith}
use Rattle.cmr_base.specs.Matrix.{entry}
use Rattle.cmr_base.specs.Separations.{spread}
use Rattle.cmr_base.proofs.SmallEntries.{entry_as_byte}
use Rattle.cmr_base.proofs.SmallNumbers.{small_as_byte}
use Rattle.sum_ops.proofs.CoreSums.{byte}
use Rattle.sum_ops.proofs.spread.Spread.entry.Goals as goal

spread_same : (d x y z w r o d' x' y' z' w' r' o' a b : ℤ) → d ≡ d' → x ≡ x' → y ≡ y' → z ≡ z' → w ≡ w' → r ≡ r' → o ≡ o' → spread d x y z w r o a b ≡ spread d' x' y' z' w' r' o' a b
spread_same d x y z w r o d' x' y' z' w' r' o' a b e f g h i j k = rw (e, f, g, h, i, j, k) refl

pub returns-clause-value : goal.returns-clause-value
returns-clause-value c =
    let first = c.args.first.now in
    let second = c.args.second.now in
    let block = c.args.self in
    let core = c.at-core in
    let factors = c.factors-factors in
    let upper : byte c.entry-one.result ≡ entry first block.model c.args.column = entry_as_byte c.entry-one.result c.entry-one.ensures.small ∙ c.entry-one.ensures.value in
    let lower : byte c.entry-other.result ≡ entry first (block.model + 1) c.args.column = entry_as_byte c.entry-other.result c.entry-other.ensures.small ∙ c.entry-other.ensures.value in
    let row_first : byte c.entry.result ≡ entry second c.args.row 0 = entry_as_byte c.entry.result c.entry.ensures.small ∙ c.entry.ensures.value in
    let row_other : byte c.entry-2.result ≡ entry second c.args.row 1 = entry_as_byte c.entry-2.result c.entry-2.ensures.small ∙ c.entry-2.ensures.value in
    small_as_byte 8 c.entry-3.result (omega arith) c.entry-3.ensures.small
    ∙ c.entry-3.ensures.value
    ∙ ap₂ (λ (p q : ℤ). factors.result.first *ℤ p +ℤ factors.result.other *ℤ q) upper lower
    ∙ sym (factors.ensures.sum (entry first block.model c.args.column) (entry first (block.model + 1) c.args.column))
    ∙ spread_same (byte block.determinant) core.result.x core.result.y core.result.z core.result.w (byte c.entry.result) (byte c.entry-2.result)
    block.determinant (entry second 1 0) (entry second 1 1) (entry second 2 0) (entry second 2 1) (entry second c.args.row 0) (entry second c.args.row 1)
    (entry first block.model c.args.column) (entry first (block.model + 1) c.args.column)
    (entry_as_byte block.determinant c.requires.lines.determinant) core.ensures.place.x core.ensures.place.y core.ensures.place.z core.ensures.place.w row_first row_other
