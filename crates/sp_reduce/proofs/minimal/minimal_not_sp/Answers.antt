use Rattle.std.proofs.Common.{◌≡◌, ◌∙◌, Option, MatchOption, sym, ap, subst, List, ℕ}
use Rattle.std.specs.List.Sorted.{IsStrictlyIncreasing}
use Rattle.cmr_base.specs.declared.line_set.LineSet.{LineSet}
use Rattle.cmr_base.specs.Matrix.{height, entry}
use Rattle.cmr_base.specs.LineSets.{first_lines, IsRowSet, IsColumnSet}
use Rattle.cmr_base.specs.Reductions.{IsSeriesParallel, IsSeriesParallelOn}
use Rattle.minimal_sets.specs.LeftOut.{left_submatrix}
use Rattle.minimal_sets.proofs.Passes.{all_rows, all_columns}
use Rattle.sp_reduce.specs.GreedyRests.{IsRestWithout}
use Rattle.sp_reduce.proofs.RestSearches.{all_lack, search_first}
use Rattle.sp_reduce.proofs.Submatrices.{greedy_set, lines_from_submatrix}
use Rattle.sp_reduce.proofs.minimal.minimal_not_sp.Goals as goal

pub rest_without-requires-clause-rows : goal.rest_without-requires-clause-rows
rest_without-requires-clause-rows c = subst (λ (xs : List ℕ). IsRowSet c.args.matrix.now xs) (sym (c.in_ok-all.ensures.rows ∙ ap first_lines c.rows.ensures.rows)) (all_rows c.args.matrix.now)

pub rest_without-requires-clause-columns : goal.rest_without-requires-clause-columns
rest_without-requires-clause-columns c =
    subst (λ (xs : List ℕ). IsColumnSet c.args.matrix.now xs) (sym (c.in_ok-all.ensures.columns ∙ ap first_lines c.columns.ensures.columns)) (all_columns c.args.matrix.now)

pub greedy_rest-requires-clause-search : goal.greedy_rest-requires-clause-search
greedy_rest-requires-clause-search c =
    let m = c.args.matrix.now in
    let all = c.in_ok-all.all in
    let rest : IsRestWithout c.args.binary m all 0 0 c.in-Some.rest =
    subst (λ (found : Option LineSet). MatchOption found (IsSeriesParallel c.args.binary (left_submatrix m all 0 0)) (IsRestWithout c.args.binary m all 0 0)) c.in-Some.is c.in_ok-rest.ensures in
    search_first c.args.binary m all c.in-Some.rest (c.in_ok-all.ensures.rows ∙ ap first_lines c.rows.ensures.rows) (c.in_ok-all.ensures.columns ∙ ap first_lines c.columns.ensures.columns) rest

pub returns-in-Some-clause-found : goal.returns-in-Some-clause-found
returns-in-Some-clause-found c =
    let m = c.args.matrix.now in
    let all = c.in_ok-all.all in
    let rest : IsRestWithout c.args.binary m all 0 0 c.in-Some.rest =
    subst (λ (found : Option LineSet). MatchOption found (IsSeriesParallel c.args.binary (left_submatrix m all 0 0)) (IsRestWithout c.args.binary m all 0 0)) c.in-Some.is c.in_ok-rest.ensures in (
      all_lack c.args.binary m all c.in-Some.rest (c.in_ok-all.ensures.rows ∙ ap first_lines c.rows.ensures.rows) (c.in_ok-all.ensures.columns ∙ ap first_lines c.columns.ensures.columns) rest,
      c.in_ok-greedy_rest-in-Some.ensures,
    )

pub returns-in-Some-clause-minimal : goal.returns-in-Some-clause-minimal
returns-in-Some-clause-minimal c =
    let m = c.args.matrix.now in
    let all = c.in_ok-all.all in
    let left = c.in_ok-greedy_rest-in-Some.field-0 in
    let rest : IsRestWithout c.args.binary m all 0 0 c.in-Some.rest =
    subst (λ (found : Option LineSet). MatchOption found (IsSeriesParallel c.args.binary (left_submatrix m all 0 0)) (IsRestWithout c.args.binary m all 0 0)) c.in-Some.is c.in_ok-rest.ensures in
    greedy_set c.args.binary m left.rows left.columns
    (all_lack c.args.binary m all c.in-Some.rest (c.in_ok-all.ensures.rows ∙ ap first_lines c.rows.ensures.rows) (c.in_ok-all.ensures.columns ∙ ap first_lines c.columns.ensures.columns) rest)
    c.in_ok-greedy_rest-in-Some.ensures

pub returns-clause-found : goal.returns-clause-found
returns-clause-found c =
    let m = c.args.matrix.now in
    let all = c.in_ok-all.all in
    let rows : all.rows ≡ first_lines (height m) = c.in_ok-all.ensures.rows ∙ ap first_lines c.rows.ensures.rows in
    let columns : all.columns ≡ first_lines m.width = c.in_ok-all.ensures.columns ∙ ap first_lines c.columns.ensures.columns in
    let r = subst IsStrictlyIncreasing (sym rows) (all_rows m).increasing in
    let s = subst IsStrictlyIncreasing (sym columns) (all_columns m).increasing in
    let sp : IsSeriesParallel c.args.binary (left_submatrix m all 0 0) =
    subst (λ (found : Option LineSet). MatchOption found (IsSeriesParallel c.args.binary (left_submatrix m all 0 0)) (IsRestWithout c.args.binary m all 0 0)) c.in-None.is c.in_ok-rest.ensures in
    subst (λ (xs : List ℕ). IsSeriesParallelOn c.args.binary (entry m) xs (first_lines m.width)) rows
    (subst (λ (xs : List ℕ). IsSeriesParallelOn c.args.binary (entry m) all.rows xs) columns (lines_from_submatrix c.args.binary m all.rows all.columns r s sp))
