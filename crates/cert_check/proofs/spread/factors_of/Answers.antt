use Rattle.std.proofs.Common.{◌≡◌, ◌∙◌, ◌+ℤ◌, ◌*ℤ◌, ℤ, w8, of_z, to_z, sym, refl, arith}
use Rattle.cmr_base.specs.Matrix.{entry}
use Rattle.cmr_base.specs.Separations.{spread, core_determinant}
use Rattle.cmr_base.proofs.SmallEntries.{entry_as_byte}
use Rattle.cmr_base.proofs.SmallNumbers.{small_as_byte}
use Rattle.ghouila.proofs.ConcentratedSums.{determinant_same}
use Rattle.cert_check.proofs.spread.factors_of.Goals as goal

made : (d x y z w r o d' x' y' z' w' r' o' a b f g : ℤ) → d ≡ d' → x ≡ x' → y ≡ y' → z ≡ z' → w ≡ w' → r ≡ r' → o ≡ o'
    → spread d x y z w r o a b ≡ f *ℤ a +ℤ g *ℤ b → spread d' x' y' z' w' r' o' a b ≡ f *ℤ a +ℤ g *ℤ b
made d x y z w r o d' x' y' z' w' r' o' a b f g e h i j k l m is = sym same ∙ is
  where
    same : spread d x y z w r o a b ≡ spread d' x' y' z' w' r' o' a b
    same = rw (e, h, i, j, k, l, m) refl

pub returns-clause-sum : goal.returns-clause-sum
returns-clause-sum c column =
    let M = entry c.args.matrix.now in
    let first = c.args.first in
    let second = c.args.second in
    let core = c.core_of-core in
    let place = core.ensures.place in
    let determinant : to_z w8 (of_z w8 c.determinant.result) ≡ core_determinant M first second =
    small_as_byte 2 c.determinant.result (omega arith) c.determinant.ensures.small
    ∙ c.determinant.ensures.value
    ∙ determinant_same core.result.x core.result.y core.result.z core.result.w (M second.row first.column) (M second.row first.other) (M second.other first.column) (M second.other first.other) place.x place.y place.z place.w in
    made (to_z w8 (of_z w8 c.determinant.result)) core.result.x core.result.y core.result.z core.result.w (to_z w8 (of_z w8 c.entry.result)) (to_z w8 (of_z w8 c.entry-2.result))
    (core_determinant M first second) (M second.row first.column) (M second.row first.other) (M second.other first.column) (M second.other first.other) (M c.args.row first.column) (M c.args.row first.other)
    (M second.row column) (M second.other column) c.factors.result.first c.factors.result.other determinant place.x place.y place.z place.w
    (entry_as_byte c.entry.result c.entry.ensures.small ∙ c.entry.ensures.value) (entry_as_byte c.entry-2.result c.entry-2.ensures.small ∙ c.entry-2.ensures.value)
    (c.factors.ensures.sum (M second.row column) (M second.other column))
