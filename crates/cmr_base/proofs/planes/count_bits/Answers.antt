use Rattle.std.proofs.Common.{◌<◌, ◌^◌, get_or, arith, rules}
use Rattle.std.specs.Prelude.{count_ones}
use Rattle.std.proofs.lemmas.List.Sums.{sum_by_more}
use Rattle.std.proofs.lemmas.Nat.{ones-le}
use Rattle.cmr_base.proofs.planes.count_bits.Goals as goal

pub loop-word-preserved : goal.loop-word-preserved
loop-word-preserved c =
    let words = c.args.words.now in
    let place = c.loop-word.word-index in
    let small : get_or words place 0 < 2 ^ 64 = search rules in
    let few = ones-le 64 (get_or words place 0) small in
    let more = sum_by_more count_ones words place 0 c.loop-word-test.true in
    record { so_far = omega (arith, more, c.loop-word.invariant.so_far); few = omega (arith, few, c.loop-word.invariant.few) }
