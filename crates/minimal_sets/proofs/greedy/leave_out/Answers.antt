use Rattle.std.proofs.Common.{Option, MatchOption, arith, subst, ◌≡◌, ◌+◌, ℕ}
use Rattle.cmr_base.specs.declared.line_set.LineSet.{LineSet}
use Rattle.cmr_base.proofs.WholeMatrices.{is_ternary}
use Rattle.cmr_base.proofs.Submatrices.{inherited_from_hereditary}
use Rattle.minimal_sets.specs.LeftOut.{left_submatrix, AreLeft}
use Rattle.minimal_sets.proofs.Passes.{count_is, pass_left, pass_kept}
use Rattle.minimal_sets.proofs.greedy.leave_out.Goals as goal

pub lines-preserved-in-Some : goal.lines-preserved-in-Some
lines-preserved-in-Some g c =
    let m = c.args.matrix.now in
    let P = g.P.Property.holds c.args.property.now in
    let left = c.lines.left in
    let next = c.lines.next in
    let count = c.min-count.result in
    let inherited = inherited_from_hereditary P c.requires.hereditary m (is_ternary m c.requires.shape) in
    let is = count_is c.lines.tried (c.rows.result + c.columns.result) next count c.min-count.ensures c.lines.invariant.some c.lines-test.true in
    let fewer : AreLeft P m left next count c.in-Some.fewer =
    subst (λ (found : Option LineSet). MatchOption found (P (left_submatrix m left next count)) (AreLeft P m left next count)) c.in-Some.is c.in_ok-fewer.ensures in
    record {
      pass = rw (fewer.rows, fewer.columns) (pass_left P m c.args.lines.rows c.args.lines.columns next count left.rows left.columns c.lines.invariant.pass inherited fewer.lacks);
      in_range = omega (arith, is.in_range, c.rows.ensures.rows, c.columns.ensures.columns);
      some = omega (arith, is.some);
      few = omega arith;
    }

pub lines-preserved : goal.lines-preserved
lines-preserved g c =
    let m = c.args.matrix.now in
    let P = g.P.Property.holds c.args.property.now in
    let left = c.lines.left in
    let next = c.lines.next in
    let count = c.min-count.result in
    let is = count_is c.lines.tried (c.rows.result + c.columns.result) next count c.min-count.ensures c.lines.invariant.some c.lines-test.true in
    let one : count ≡ 1 = omega (arith, c.if-count-gt1.false, is.some) in
    let has : P (left_submatrix m left next count) =
    subst (λ (found : Option LineSet). MatchOption found (P (left_submatrix m left next count)) (AreLeft P m left next count)) c.in-None-2.is c.in_ok-fewer.ensures in
    record {
      pass = pass_kept P m c.args.lines.rows c.args.lines.columns next left.rows left.columns c.lines.invariant.pass (subst (λ (k : ℕ). P (left_submatrix m left next k)) one has);
      in_range = omega (arith, c.lines-test.true, c.rows.ensures.rows, c.columns.ensures.columns);
      some = c.lines.invariant.some;
      few = omega (arith, c.lines.invariant.few);
    }
