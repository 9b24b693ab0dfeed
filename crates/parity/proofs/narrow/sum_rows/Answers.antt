use Rattle.std.proofs.Common.{◌≡◌, ◌<◌, ◌∙◌, get_or}
use Rattle.std.proofs.Math.Pow.{pow_pos}
use Rattle.cmr_base.specs.Matrix.{is_nonzero}
use Rattle.cmr_base.specs.Planes.{is_minus}
use Rattle.parity.specs.PlaneSums.{minus_of, support_of}
use Rattle.parity.proofs.ColumnSums.{no_sums, sums_more, twos_small}
use Rattle.parity.proofs.PlaneLemmas.{one_word}
use Rattle.parity.proofs.narrow.sum_rows.Goals as goal

pub loop-row-init : goal.loop-row-init
loop-row-init c = record { so_far = no_sums c.args.matrix.now; small = pow_pos c.args.matrix.now.width }

pub loop-row-preserved : goal.loop-row-preserved
loop-row-preserved c =
    let m = c.args.matrix.now in
    let rows = c.args.rows.now in
    let i = c.loop-row.row-index in
    let row = get_or rows i 0 in
    let is = c.requires.shape in
    let inside : row < _ = c.requires.rows i c.loop-row-test.true in
    let support : c.support_word-support.result ≡ support_of m row = c.support_word-support.ensures ∙ one_word m is_nonzero row is inside c.requires.narrow in
    let minus : c.minus_word.result ≡ minus_of m row = c.minus_word.ensures ∙ one_word m is_minus row is inside c.requires.narrow in
    rw (support, minus) (record {
      so_far = sums_more m rows i c.loop-row.ones c.loop-row.twos is c.loop-row-test.true c.loop-row.invariant.so_far;
      small = twos_small m row c.loop-row.ones c.loop-row.twos is inside c.loop-row.invariant.small;
    })
