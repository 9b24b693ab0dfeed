use Rattle.std.proofs.Common.{◌≡◌, ◌∙◌, SFits, get_or, rules, w8, arith}
use Rattle.std.proofs.lemmas.Int.{ints, to_z-of_z}
use Rattle.cmr_base.specs.Matrix.{entry}
use Rattle.cmr_base.proofs.SumSteps.{sum_over-take_more}
use Rattle.cmr_base.proofs.matrix.Matrix.column_sum.Goals as goal

pub loop-row-preserved : goal.loop-row-preserved
loop-row-preserved c =
    let m = c.args.self.now in
    let k = c.loop-row.row-index in
    let row = get_or c.args.rows.now k 0 in
    let small = c.entry.ensures.small in
    let fits : SFits w8 c.entry.result = search rules in
    let term : c.from-sum.result ≡ c.entry.result = c.from-sum.ensures ∙ to_z-of_z w8 c.entry.result fits in
    let more = sum_over-take_more c.args.rows.now (λ row. entry m row c.args.column) k c.loop-row-test.true in
    record {
      so_far = omega (arith, ints, more, term, c.entry.ensures.value, c.loop-row.invariant.so_far);
      low = omega (arith, ints, term, small.low);
      high = omega (arith, ints, term, small.high);
    }
