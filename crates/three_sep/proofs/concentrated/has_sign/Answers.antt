use Rattle.std.proofs.Common.{◌≡◌, ◌∙◌, ◌-ℤ◌, ◌*ℤ◌, ℤ, arith, ap₂, subst, sym}
use Rattle.cmr_base.specs.Matrix.{Matrix, entry}
use Rattle.cmr_base.specs.Cores.{IsCoreAt}
use Rattle.cmr_base.specs.Signing.{IsSign}
use Rattle.cmr_base.specs.Separations.{core_determinant}
use Rattle.cmr_base.proofs.SmallNumbers.{small_as_byte}
use Rattle.three_sep.specs.Searches.{first_at, second_at}
use Rattle.three_sep.proofs.concentrated.has_sign.Goals as goal

pub returns : goal.returns
returns c =
    let m = c.args.matrix.now in
    let d = c.args.corners.now in
    let q = c.args.q in
    let o = c.args.o in
    let core = c.at-core.result in
    let place : IsCoreAt (entry m) d.two.row o d.one.column q core = subst (λ (n : Matrix). IsCoreAt (entry n) d.two.row o d.one.column q core) c.by_rows.ensures.matrix c.at-core.ensures.place in
    let value : c.determinant.result ≡ core_determinant (entry m) (first_at d q) (second_at d o) =
    c.determinant.ensures.value ∙ ap₂ (λ (x y : ℤ). x -ℤ y) (ap₂ (λ (x y : ℤ). x *ℤ y) place.x place.w) (ap₂ (λ (x y : ℤ). x *ℤ y) place.y place.z) in
    let is = small_as_byte 2 c.determinant.result (omega arith) c.determinant.ensures.small ∙ value in (
      (λ t. subst IsSign is (c.is_sign.ensures.0 t)),
      λ s. c.is_sign.ensures.1 (subst IsSign (sym is) s),
    )
