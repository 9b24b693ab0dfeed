use Rattle.std.proofs.Common.{◌≡◌, ◌+◌, Option, MatchOption, ℕ, subst, arith}
use Rattle.cmr_base.specs.declared.line_set.LineSet.{LineSet}
use Rattle.cmr_base.specs.Reductions.{IsSeriesParallel}
use Rattle.minimal_sets.specs.LeftOut.{left_submatrix}
use Rattle.sp_reduce.specs.GreedyRests.{IsRestWithout}
use Rattle.sp_reduce.proofs.RestSearches.{count_of, search_removed, search_kept, search_end, search_needed}
use Rattle.sp_reduce.proofs.minimal.greedy_rest.Goals as goal

pub returns-then-branch : goal.returns-then-branch
returns-then-branch c = search_needed c.args.binary c.args.matrix.now 0 c.args.lines.rows c.args.lines.columns c.requires.search (c.in_ok-needs_all_lines.ensures c.if-branch.true)

pub needs_all_lines-requires-in-Some-clause-rows : goal.needs_all_lines-requires-in-Some-clause-rows
needs_all_lines-requires-in-Some-clause-rows c =
    let m = c.args.matrix.now in
    let left = c.lines.left in
    let next = c.lines.next in
    let count = c.min-count.result in
    let is = count_of c.lines.tried (c.rows.result + c.columns.result) next count c.min-count.ensures c.lines.invariant.some c.lines-test.true in
    let rest : IsRestWithout c.args.binary m left next count c.in-Some.rest =
    subst (λ (found : Option LineSet). MatchOption found (IsSeriesParallel c.args.binary (left_submatrix m left next count)) (IsRestWithout c.args.binary m left next count)) c.in-Some.is c.in_ok-rest.ensures in
    (search_removed c.args.binary m next count left c.in-Some.rest c.lines.invariant.search (omega (arith, is.in_range, c.rows.ensures.rows, c.columns.ensures.columns)) rest).row_set

pub needs_all_lines-requires-in-Some-clause-columns : goal.needs_all_lines-requires-in-Some-clause-columns
needs_all_lines-requires-in-Some-clause-columns c =
    let m = c.args.matrix.now in
    let left = c.lines.left in
    let next = c.lines.next in
    let count = c.min-count.result in
    let is = count_of c.lines.tried (c.rows.result + c.columns.result) next count c.min-count.ensures c.lines.invariant.some c.lines-test.true in
    let rest : IsRestWithout c.args.binary m left next count c.in-Some.rest =
    subst (λ (found : Option LineSet). MatchOption found (IsSeriesParallel c.args.binary (left_submatrix m left next count)) (IsRestWithout c.args.binary m left next count)) c.in-Some.is c.in_ok-rest.ensures in
    (search_removed c.args.binary m next count left c.in-Some.rest c.lines.invariant.search (omega (arith, is.in_range, c.rows.ensures.rows, c.columns.ensures.columns)) rest).column_set

pub returns-then-branch-2 : goal.returns-then-branch-2
returns-then-branch-2 c =
    let m = c.args.matrix.now in
    let left = c.lines.left in
    let next = c.lines.next in
    let count = c.min-count.result in
    let is = count_of c.lines.tried (c.rows.result + c.columns.result) next count c.min-count.ensures c.lines.invariant.some c.lines-test.true in
    let rest : IsRestWithout c.args.binary m left next count c.in-Some.rest =
    subst (λ (found : Option LineSet). MatchOption found (IsSeriesParallel c.args.binary (left_submatrix m left next count)) (IsRestWithout c.args.binary m left next count)) c.in-Some.is c.in_ok-rest.ensures in
    search_needed c.args.binary m (next + count) c.in-Some.rest.rows c.in-Some.rest.columns
    (search_removed c.args.binary m next count left c.in-Some.rest c.lines.invariant.search (omega (arith, is.in_range, c.rows.ensures.rows, c.columns.ensures.columns)) rest)
    (c.in_ok-needs_all_lines-in-Some.ensures c.if-branch-2.true)

pub lines-preserved-in-Some : goal.lines-preserved-in-Some
lines-preserved-in-Some c =
    let m = c.args.matrix.now in
    let left = c.lines.left in
    let next = c.lines.next in
    let count = c.min-count.result in
    let is = count_of c.lines.tried (c.rows.result + c.columns.result) next count c.min-count.ensures c.lines.invariant.some c.lines-test.true in
    let rest : IsRestWithout c.args.binary m left next count c.in-Some.rest =
    subst (λ (found : Option LineSet). MatchOption found (IsSeriesParallel c.args.binary (left_submatrix m left next count)) (IsRestWithout c.args.binary m left next count)) c.in-Some.is c.in_ok-rest.ensures in
    record {
      search = search_removed c.args.binary m next count left c.in-Some.rest c.lines.invariant.search (omega (arith, is.in_range, c.rows.ensures.rows, c.columns.ensures.columns)) rest;
      some = omega (arith, is.some);
      few = omega (arith, is.in_range, c.rows.ensures.rows, c.columns.ensures.columns, c.requires.shape.height_in, c.requires.shape.width_in);
    }

pub lines-preserved : goal.lines-preserved
lines-preserved c =
    let m = c.args.matrix.now in
    let left = c.lines.left in
    let next = c.lines.next in
    let count = c.min-count.result in
    let is = count_of c.lines.tried (c.rows.result + c.columns.result) next count c.min-count.ensures c.lines.invariant.some c.lines-test.true in
    let one : count ≡ 1 = omega (arith, c.if-count-gt1.false, is.some) in
    let has : IsSeriesParallel c.args.binary (left_submatrix m left next count) =
    subst (λ (found : Option LineSet). MatchOption found (IsSeriesParallel c.args.binary (left_submatrix m left next count)) (IsRestWithout c.args.binary m left next count)) c.in-None-2.is c.in_ok-rest.ensures in
    record {
      search = search_kept c.args.binary m next left.rows left.columns c.lines.invariant.search (omega (arith, c.lines-test.true, c.rows.ensures.rows, c.columns.ensures.columns))
          (subst (λ (k : ℕ). IsSeriesParallel c.args.binary (left_submatrix m left next k)) one has);
      some = c.lines.invariant.some;
      few = c.lines.invariant.few;
    }

pub returns : goal.returns
returns c = search_end c.args.binary c.args.matrix.now c.lines.next c.lines.left.rows c.lines.left.columns c.lines.invariant.search (omega (arith, c.lines-test.false, c.rows.ensures.rows, c.columns.ensures.columns))
