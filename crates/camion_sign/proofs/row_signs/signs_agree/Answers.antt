use Rattle.std.proofs.Common.{◌≡◌, arith}
use Rattle.std.proofs.lemmas.Nat.{le_or_l, le_or_r}
use Rattle.camion_sign.proofs.SignWords.{more_equal, more_opposite}
use Rattle.camion_sign.proofs.row_signs.signs_agree.Goals as goal

pub loop-chunk-preserved : goal.loop-chunk-preserved
loop-chunk-preserved c = record {
  equal = λ e.
      let before : c.loop-chunk.opposite ≡ 0 = omega (arith, e, le_or_l c.loop-chunk.opposite c.opposite_bits-opposite.result) in
      let here : c.opposite_bits-opposite.result ≡ 0 = omega (arith, e, le_or_r c.loop-chunk.opposite c.opposite_bits-opposite.result) in
      more_equal c.args.support.now c.args.minus.now c.args.other.now c.args.other_minus.now c.loop-chunk.chunk (c.loop-chunk.invariant.equal before) (c.opposite_bits-opposite.ensures here);
  opposite = λ e.
      let before : c.loop-chunk.equal ≡ 0 = omega (arith, e, le_or_l c.loop-chunk.equal c.equal_bits-equal.result) in
      let here : c.equal_bits-equal.result ≡ 0 = omega (arith, e, le_or_r c.loop-chunk.equal c.equal_bits-equal.result) in
      more_opposite c.args.support.now c.args.minus.now c.args.other.now c.args.other_minus.now c.loop-chunk.chunk (c.loop-chunk.invariant.opposite before) (c.equal_bits-equal.ensures here);
}
