use Rattle.std.proofs.Common.{◌+◌, ◌*◌, ◌≡◌, ℕ, subst, arith}
use Rattle.cmr_base.specs.Planes.{IsXorBefore}
use Rattle.cmr_base.proofs.XorWords.{xor_lanes_more}
use Rattle.cmr_base.proofs.planes.xor_lanes.Goals as goal

pub loop-lane-preserved : goal.loop-lane-preserved
loop-lane-preserved c =
    let place = 8 * c.loop-lane.lane in
    let next : place + 8 ≡ 8 * (c.loop-lane.lane + 1) = omega arith in
    subst (λ (n : ℕ). IsXorBefore n c.args.into.now c.args.from.now c.xor_at.new.into) next
    (xor_lanes_more 8 c.args.into.now c.args.from.now c.loop-lane.into c.xor_at.new.into place c.loop-lane.invariant c.requires (omega (arith, c.loop-lane-test.true)) c.xor_at.ensures)
