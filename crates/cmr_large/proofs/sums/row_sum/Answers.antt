use Rattle.std.proofs.Common.{◌≡◌, ◌+ℤ◌, ◌<◌, ◌+◌, ◌^◌, ◌≤ℤ◌, ◌∙◌, neg_ℤ, pos, ℤ, get_or, to_z, of_z, w64, ap, sym, subst, arith}
use Rattle.cmr_base.proofs.Integers.{sums}
use Rattle.sparse_matrix.proofs.MarkedLines.{no_nonzero}
use Rattle.cmr_large.proofs.RunSums.{high_value, kept_value, low_value, no_sum, run_step}
use Rattle.cmr_large.proofs.sums.row_sum.Goals as goal
use Rattle.cmr_large.proofs.sums.row_sum.Goals.{then-has_line, else-has_line}

pub loop-nonzero-init : goal.loop-nonzero-init
loop-nonzero-init c = record { sum_is = sym (no_sum c.args.columns.now); low = omega (arith, sums); high = omega (arith, sums) }

pub loop-nonzero-preserved : goal.loop-nonzero-preserved
loop-nonzero-preserved c =
    let run = c.args.run.now in
    let index = c.loop-nonzero.nonzero-index in
    let old = to_z w64 c.loop-nonzero.sum-bits in
    let before = c.loop-nonzero.invariant in
    let new = to_z w64 c.if-has_line.sum-bits in
    let step = run_step c.args._width run c.args.columns.now index c.loop-nonzero-test.true c.requires.run c.requires.distinct c.len-count.ensures.increasing in
    elim c.if-has_line.branch [
      | then-has_line w ↦
          let value = (get_or run index no_nonzero).value in
          let few : index < 2 ^ 62 = omega (arith, c.loop-nonzero-test.true, c.requires.few) in
          let is : new ≡ old +ℤ value =
          w.sum-is ∙ ap (λ (z : ℤ). to_z w64 (of_z w64 (old +ℤ to_z w64 (of_z w64 z)))) w.from-sum.ensures ∙ kept_value old value index few before.low before.high step.sign in
          record {
            sum_is = is ∙ ap (λ (z : ℤ). z +ℤ value) before.sum_is ∙ sym (step.among (sym c.has_line.ensures ∙ w.if-has_line.true));
            low = subst (λ (z : ℤ). neg_ℤ (pos (index + 1)) ≤ℤ z) (sym is) (low_value old value index before.low step.sign);
            high = subst (λ (z : ℤ). z ≤ℤ pos (index + 1)) (sym is) (high_value old value index before.high step.sign);
          }
      | else-has_line w ↦
          let above = before.low in
          let below = before.high in
          let same = w.sum-is in
          record {
            sum_is = w.sum-is ∙ before.sum_is ∙ sym (step.apart (sym c.has_line.ensures ∙ w.if-has_line.false));
            low = omega (arith, sums, same, above);
            high = omega (arith, sums, same, below);
          }
    ]
