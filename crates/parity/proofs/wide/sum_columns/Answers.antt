use Rattle.std.proofs.Common.{◌≡◌, ◌<◌, ◌+◌, ◌^◌, ◌∙◌, [], ap, ap₂, sym, subst, take, get_or}
use Rattle.std.proofs.Math.Pow.{pow_pos}
use Rattle.parity.specs.PlaneSums.{AreSums, SumPlanes, minus_of, support_of, with_added_row}
use Rattle.cmr_base.specs.Matrix.{is_nonzero}
use Rattle.cmr_base.specs.Planes.{is_minus}
use Rattle.parity.proofs.PlaneLemmas.{length-row, number_of-row}
use Rattle.parity.proofs.ColumnSums.{no_sums, sums_more, twos_small}
use Rattle.parity.proofs.wide.sum_columns.Goals as goal

pub loop-row-init : goal.loop-row-init
loop-row-init c =
    let m = c.args.matrix.now in
    record {
      so_far = subst (λ (s : SumPlanes). AreSums m [] s.ones s.twos) (sym c.clear.ensures) (no_sums m);
      words = ap (λ (s : SumPlanes). s.words) c.clear.ensures;
      small = subst (λ (s : SumPlanes). s.twos < 2 ^ m.width) (sym c.clear.ensures) (pow_pos m.width);
    }

pub loop-row-preserved : goal.loop-row-preserved
loop-row-preserved c =
    let m = c.args.matrix.now in
    let rows = c.args.rows.now in
    let i = c.loop-row.row-index in
    let s = c.loop-row.sums in
    let row = get_or rows i 0 in
    let is = c.requires.shape in
    let after : c.add_row.new.self ≡ with_added_row s (support_of m row) (minus_of m row) = c.add_row.ensures ∙ ap₂ (with_added_row s) (number_of-row m is_nonzero (get_or rows i 0) c.support_words.result.now c.requires.shape (c.requires.rows i c.loop-row-test.true) c.support_words.ensures) (number_of-row m is_minus row c.minus_words.result.now c.requires.shape (c.requires.rows i c.loop-row-test.true) c.minus_words.ensures) in
    record {
      so_far = subst (λ (t : SumPlanes). AreSums m (take (i + 1) rows) t.ones t.twos) (sym after) (sums_more m rows i s.ones s.twos is c.loop-row-test.true c.loop-row.invariant.so_far);
      words = ap (λ (t : SumPlanes). t.words) after ∙ c.loop-row.invariant.words;
      small = subst (λ (t : SumPlanes). t.twos < 2 ^ m.width) (sym after) (twos_small m row s.ones s.twos is (c.requires.rows i c.loop-row-test.true) c.loop-row.invariant.small);
    }

pub add_row-requires-clause-support : goal.add_row-requires-clause-support
add_row-requires-clause-support c =
    length-row c.args.matrix.now is_nonzero (get_or c.args.rows.now c.loop-row.row-index 0) c.support_words.result.now c.support_words.ensures ∙ sym (c.loop-row.invariant.words ∙ c.requires.words)

pub add_row-requires-clause-minus : goal.add_row-requires-clause-minus
add_row-requires-clause-minus c =
    length-row c.args.matrix.now is_minus (get_or c.args.rows.now c.loop-row.row-index 0) c.minus_words.result.now c.minus_words.ensures ∙ sym (c.loop-row.invariant.words ∙ c.requires.words)
