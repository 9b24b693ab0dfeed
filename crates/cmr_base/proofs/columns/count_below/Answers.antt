use Rattle.std.proofs.Common.{◌<◌, ◌≤◌, ◌≡◌, ◌+◌, ◌*◌, ◌^◌, ◌∙◌, get_or, min, ap, arith, rules}
use Rattle.cmr_base.specs.ColumnSets.{has_column}
use Rattle.cmr_base.specs.Planes.{has_bit}
use Rattle.cmr_base.specs.Seeds.{count}
use Rattle.cmr_base.proofs.WordCounts.{count_chunk, count_few, ones_of_first}
use Rattle.cmr_base.proofs.columns.count_below.Goals as goal

pub overflow_add-count : goal.overflow_add-count
overflow_add-count c =
    let word = get_or c.args.set.now c.loop-chunk.chunk 0 in
    let places = c.min-places.result in
    let first = c.first_bits.result in
    let fits : first < 2 ^ 64 = search rules in
    let bits = ones_of_first first word places fits (omega (arith, c.min-places.ensures)) c.first_bits.ensures.inside c.first_bits.ensures.past in
    let few = count_few (has_bit word) places in
    omega (arith, bits, few, c.loop-chunk.invariant.few, c.min-places.ensures, c.requires, c.loop-chunk-test.true, c.ranges.columns.fits)

pub loop-chunk-preserved : goal.loop-chunk-preserved
loop-chunk-preserved c =
    let words = c.args.set.now in
    let chunk = c.loop-chunk.chunk in
    let word = get_or words chunk 0 in
    let places = c.min-places.result in
    let first = c.first_bits.result in
    let fits : first < 2 ^ 64 = search rules in
    let few : places ≤ 64 = omega (arith, c.min-places.ensures) in
    let bits = ones_of_first first word places fits few c.first_bits.ensures.inside c.first_bits.ensures.past in
    let now : min (64 * chunk) c.args.columns ≡ 64 * chunk = omega (arith, c.requires, c.loop-chunk-test.true) in
    let next : 64 * chunk + places ≡ min (64 * (chunk + 1)) c.args.columns = omega (arith, c.min-places.ensures, c.requires, c.loop-chunk-test.true, c.ranges.columns.fits) in
    let counted = count_chunk words chunk places c.loop-chunk.count _ (c.loop-chunk.invariant.counted ∙ ap (count (has_column words)) now) few bits ∙ ap (count (has_column words)) next in
    record {
      counted = counted;
      few = omega (arith, counted, count_few (has_column words) (min (64 * (chunk + 1)) c.args.columns));
    }
