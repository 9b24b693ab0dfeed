use Rattle.std.proofs.Common.{◌≡◌, ◌<◌, ◌∙◌, ap, ap₂, sym, subst, List, ℕ, Bool, length, get_or, None}
use Rattle.std.proofs.lemmas.Result.{IfOk-weaker}
use Rattle.cmr_base.specs.Matrix.{height, entry}
use Rattle.cmr_base.specs.LineSets.{AllBelow, IsRowSet, IsColumnSet, submatrix, without}
use Rattle.cmr_base.specs.Reductions.{IsSeriesParallel, first_step, lines_of}
use Rattle.cmr_base.proofs.ListsWithout.{without_increases, within-without}
use Rattle.cmr_base.proofs.RemovedLines.{row_set_from_within}
use Rattle.sp_reduce.specs.declared.kind.LineKind.TheVariants.{Rows, Columns}
use Rattle.sp_reduce.specs.NeededLines.{HaveTwoNonzeros}
use Rattle.sp_reduce.specs.StayingSides.{IsAcross}
use Rattle.sp_reduce.proofs.NeededLines.{needs_all, some_there}
use Rattle.sp_reduce.proofs.Submatrices.{row_set_within}
use Rattle.sp_reduce.proofs.needed.needs_all_lines.Goals as goal

pub have_two_nonzeros-requires-clause-own_in : goal.have_two_nonzeros-requires-clause-own_in
have_two_nonzeros-requires-clause-own_in c = subst (λ (xs : List ℕ). AllBelow (height c.args.matrix.now) xs) (sym c.as_slice-rows.ensures.items) c.requires.rows.in_range

pub have_two_nonzeros-requires-clause-across : goal.have_two_nonzeros-requires-clause-across
have_two_nonzeros-requires-clause-across c =
    subst (λ (xs : List ℕ). IsAcross c.args.matrix.now Rows xs) (sym c.as_slice-columns.ensures.items) (record { increasing = c.requires.columns.increasing; in_range = c.requires.columns.in_range })

pub have_two_nonzeros-requires-else-not-branch-clause-own_in : goal.have_two_nonzeros-requires-else-not-branch-clause-own_in
have_two_nonzeros-requires-else-not-branch-clause-own_in c =
    subst (λ (xs : List ℕ). AllBelow c.args.matrix.now.width xs) (sym c.as_slice-columns.ensures.items) c.requires.columns.in_range

pub have_two_nonzeros-requires-else-not-branch-clause-across : goal.have_two_nonzeros-requires-else-not-branch-clause-across
have_two_nonzeros-requires-else-not-branch-clause-across c =
    subst (λ (xs : List ℕ). IsAcross c.args.matrix.now Columns xs) (sym c.as_slice-rows.ensures.items) (record { increasing = c.requires.rows.increasing; in_range = c.requires.rows.in_range })

pub is_series_parallel-requires-clause-rows : goal.is_series_parallel-requires-clause-rows
is_series_parallel-requires-clause-rows c =
    let m = c.args.matrix.now in
    let R = c.args.lines.now.rows in
    let one = get_or c.as_slice-rows.result.now 0 0 in
    subst (λ (xs : List ℕ). IsRowSet m xs) (sym c.in_ok-fewer.ensures.rows)
    (row_set_from_within m (without R one) (without_increases one R c.requires.rows.increasing) (λ x h. row_set_within m R c.requires.rows x (within-without one R x h)))

pub is_series_parallel-requires-clause-columns : goal.is_series_parallel-requires-clause-columns
is_series_parallel-requires-clause-columns c = subst (λ (xs : List ℕ). IsColumnSet c.args.matrix.now xs) (sym c.in_ok-fewer.ensures.columns) c.requires.columns

pub returns : goal.returns
returns c =
    let binary = c.args.binary in
    let m = c.args.matrix.now in
    let R = c.args.lines.now.rows in
    let C = c.args.lines.now.columns in
    let rows : c.as_slice-rows.result.now ≡ R = c.as_slice-rows.ensures.items in
    let columns : c.as_slice-columns.result.now ≡ C = c.as_slice-columns.ensures.items in
    let some : 0 < length R = subst (λ (xs : List ℕ). 0 < length xs) rows (some_there (length c.as_slice-rows.result.now) c.is_empty.result c.is_empty.ensures c.if-is_empty.false) in
    let row_twos : HaveTwoNonzeros m Rows R C =
    subst (λ (xs : List ℕ). HaveTwoNonzeros m Rows R xs) columns (subst (λ (xs : List ℕ). HaveTwoNonzeros m Rows xs c.as_slice-columns.result.now) rows
    (c.in_ok-have_two_nonzeros.ensures c.if-not-branch.false)) in
    let column_twos : HaveTwoNonzeros m Columns C R =
    subst (λ (xs : List ℕ). HaveTwoNonzeros m Columns C xs) rows (subst (λ (xs : List ℕ). HaveTwoNonzeros m Columns xs c.as_slice-rows.result.now) columns
    (c.in_ok-have_two_nonzeros-2.ensures c.if-not-branch-2.false)) in
    let none : first_step binary (entry m) R C (lines_of R C) ≡ None = c.in_ok-has_reducible.ensures c.if-branch.false some in
    let one : get_or c.as_slice-rows.result.now 0 0 ≡ get_or R 0 0 = ap (λ (xs : List ℕ). get_or xs 0 0) rows in
    let fewer : submatrix m c.in_ok-fewer.fewer.rows c.in_ok-fewer.fewer.columns ≡ submatrix m (without R (get_or R 0 0)) C =
    ap₂ (submatrix m) (c.in_ok-fewer.ensures.rows ∙ ap (λ (n : ℕ). without R n) one) c.in_ok-fewer.ensures.columns in
    IfOk-weaker c.is_series_parallel.result _ _
    (λ (yes : Bool) decides e. needs_all binary m R C c.requires.rows.increasing c.requires.columns.increasing some row_twos column_twos none (subst (IsSeriesParallel binary) fewer (decides.0 e)))
    c.is_series_parallel.ensures
