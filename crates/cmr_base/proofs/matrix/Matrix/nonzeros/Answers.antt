use Rattle.std.proofs.Common.{◌≤◌, ◌∙◌, length, ap, arith}
use Rattle.std.specs.Prelude.{count_ones}
use Rattle.std.specs.List.{sum_by}
use Rattle.std.proofs.Math.Nat.{mul-le-mul_right}
use Rattle.cmr_base.specs.Matrix.{is_nonzero}
use Rattle.cmr_base.specs.Planes.{words_for}
use Rattle.cmr_base.proofs.PlaneSteps.{ones-rows}
use Rattle.cmr_base.proofs.Views.{are_planes, is_matrix, length-plane}
use Rattle.cmr_base.proofs.matrix.Matrix.nonzeros.Goals as goal

pub count_bits-requires : goal.count_bits-requires
count_bits-requires c =
    let a = c.self.inside in
    let m = c.args.self.now in
    let is = is_matrix a m c.self.view_is c.self.invariant in
    let planes = are_planes a m c.self.view_is c.self.invariant in
    let few : words_for m.width ≤ 16 = omega (arith, is.width_in) in
    let high = mul-le-mul_right (words_for m.width) is.height_in in
    omega (arith, ap length c.deref.ensures.value, length-plane m is_nonzero a.support.items planes.support_is, few, high)

pub returns : goal.returns
returns c =
    let a = c.self.inside in
    let m = c.args.self.now in
    let is = is_matrix a m c.self.view_is c.self.invariant in
    let planes = are_planes a m c.self.view_is c.self.invariant in
    c.count_bits.ensures ∙ ap (sum_by count_ones) (c.deref.ensures.value ∙ planes.support_is)
    ∙ ones-rows (words_for m.width) m.rows (λ row h. omega (arith, is.rectangular row h))
