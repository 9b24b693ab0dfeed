use Rattle.std.proofs.Common.{◌≡◌, ◌∙◌, ◌+◌, ◌-◌, ap₂, arith, ℕ}
use Rattle.std.proofs.lemmas.Result.{IfOk-weaker}
use Rattle.cmr_base.specs.Matrix.{height, entry}
use Rattle.cmr_base.specs.MatrixSums.{filled, four_blocks}
use Rattle.cmr_base.specs.MatrixSums.{one_sum as the_one_sum}
use Rattle.cmr_base.specs.Separations.{zeros}
use Rattle.sum_ops.proofs.sums.one_sum.Goals as goal

pub sum-requires-clause-fits : goal.sum-requires-clause-fits
sum-requires-clause-fits c = record {
  rows = omega (arith, c.rows.ensures.rows);
  columns = omega (arith, c.columns.ensures.columns);
  up = omega arith;
  left = omega arith;
  first_matrix = c.rows.ensures.shape;
  upper_column = λ e. cc;
  upper_row = λ e. cc;
  lower = tt;
}

pub returns : goal.returns
returns c =
    let first = c.args.first.now in
    let second = c.args.second.now in
    let sizes : filled (c.rows.result + height second) (c.columns.result + second.width) (four_blocks c.rows.result c.columns.result 0 0 (entry first) zeros zeros (entry second)) ≡ the_one_sum first second =
    ap₂ (λ (m n : ℕ). filled (m + height second) (n + second.width) (four_blocks m n 0 0 (entry first) zeros zeros (entry second))) c.rows.ensures.rows c.columns.ensures.columns in
    let up : height second - 0 ≡ height second = omega arith in
    let left : second.width - 0 ≡ second.width = omega arith in
    let whole : filled (c.rows.result + (height second - 0)) (c.columns.result + (second.width - 0)) (four_blocks c.rows.result c.columns.result 0 0 (entry first) zeros zeros (entry second)) ≡ filled (c.rows.result + height second) (c.columns.result + second.width) (four_blocks c.rows.result c.columns.result 0 0 (entry first) zeros zeros (entry second)) =
    ap₂ (λ (a b : ℕ). filled (c.rows.result + a) (c.columns.result + b) (four_blocks c.rows.result c.columns.result 0 0 (entry first) zeros zeros (entry second))) up left in
    IfOk-weaker c.sum.result _ _ (λ sum e. e ∙ whole ∙ sizes) c.sum.ensures.blocks
