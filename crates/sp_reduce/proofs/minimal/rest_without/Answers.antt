use Rattle.std.proofs.Common.{◌≡◌, ◌∙◌, ap, ap₂, sym, subst, List, [], ℕ}
use Rattle.std.specs.List.Sorted.{IsStrictlyIncreasing}
use Rattle.cmr_base.specs.Matrix.{height, entry}
use Rattle.cmr_base.specs.LineSets.{AllBelow, submatrix}
use Rattle.cmr_base.specs.Reductions.{IsSeriesParallel, IsSeriesParallelOn}
use Rattle.cmr_base.proofs.ListsWithout.{increasing_distinct}
use Rattle.std.proofs.lemmas.List.{nil_from_length}
use Rattle.minimal_sets.specs.LeftOut.{lines_between, rows_left, columns_left}
use Rattle.minimal_sets.proofs.Passes.{row_set_left, column_set_left}
use Rattle.sp_reduce.proofs.Submatrices.{rest_decides, submatrix_from_lines}
use Rattle.sp_reduce.proofs.Orders.{no_rows}
use Rattle.sp_reduce.proofs.minimal.rest_without.Goals as goal

pub reduce_lines-requires-clause-rows : goal.reduce_lines-requires-clause-rows
reduce_lines-requires-clause-rows c =
    let m = c.args.matrix.now in
    let R = c.args.lines.now.rows in
    let rows = c.in_ok-fewer.ensures.rows ∙ ap (λ (h : ℕ). rows_left R (lines_between h c.args.from c.args.count)) c.rows.ensures.rows in
    subst (λ (xs : List ℕ). AllBelow (height m) xs) (sym rows) (row_set_left m R (lines_between (height m) c.args.from c.args.count) c.requires.rows).in_range

pub reduce_lines-requires-clause-columns : goal.reduce_lines-requires-clause-columns
reduce_lines-requires-clause-columns c =
    let m = c.args.matrix.now in
    let C = c.args.lines.now.columns in
    let columns = c.in_ok-fewer.ensures.columns ∙ ap (λ (h : ℕ). columns_left C (lines_between h c.args.from c.args.count)) c.rows.ensures.rows in
    subst (λ (xs : List ℕ). AllBelow m.width xs) (sym columns) (column_set_left m C (lines_between (height m) c.args.from c.args.count) c.requires.columns).in_range

pub returns-then-has_no_lines : goal.returns-then-has_no_lines
returns-then-has_no_lines c =
    let m = c.args.matrix.now in
    let R = c.args.lines.now.rows in
    let C = c.args.lines.now.columns in
    let omitted = lines_between (height m) c.args.from c.args.count in
    let fewer = c.in_ok-fewer.fewer in
    let rows = c.in_ok-fewer.ensures.rows ∙ ap (λ (h : ℕ). rows_left R (lines_between h c.args.from c.args.count)) c.rows.ensures.rows in
    let columns = c.in_ok-fewer.ensures.columns ∙ ap (λ (h : ℕ). columns_left C (lines_between h c.args.from c.args.count)) c.rows.ensures.rows in
    let r = subst IsStrictlyIncreasing (sym rows) (row_set_left m R omitted c.requires.rows).increasing in
    let s = subst IsStrictlyIncreasing (sym columns) (column_set_left m C omitted c.requires.columns).increasing in
    let none = c.has_no_lines.ensures.0 c.if-has_no_lines.true in
    let rest = c.in_ok-rest.ensures in
    subst (IsSeriesParallel c.args.binary) (ap₂ (submatrix m) rows columns) ((rest_decides c.args.binary m fewer.rows fewer.columns r s).0 (sym rest.rows ∙ none.0, sym rest.columns ∙ none.1))

pub returns-then-len-eq0 : goal.returns-then-len-eq0
returns-then-len-eq0 c =
    let m = c.args.matrix.now in
    let R = c.args.lines.now.rows in
    let C = c.args.lines.now.columns in
    let omitted = lines_between (height m) c.args.from c.args.count in
    let fewer = c.in_ok-fewer.fewer in
    let rows = c.in_ok-fewer.ensures.rows ∙ ap (λ (h : ℕ). rows_left R (lines_between h c.args.from c.args.count)) c.rows.ensures.rows in
    let columns = c.in_ok-fewer.ensures.columns ∙ ap (λ (h : ℕ). columns_left C (lines_between h c.args.from c.args.count)) c.rows.ensures.rows in
    let r = subst IsStrictlyIncreasing (sym rows) (row_set_left m R omitted c.requires.rows).increasing in
    let s = subst IsStrictlyIncreasing (sym columns) (column_set_left m C omitted c.requires.columns).increasing in
    let none : fewer.rows ≡ [] = nil_from_length fewer.rows (sym c.len.ensures.len ∙ c.if-len-eq0.true) in
    subst (IsSeriesParallel c.args.binary) (ap₂ (submatrix m) rows columns)
    (submatrix_from_lines c.args.binary m fewer.rows fewer.columns r s
    (subst (λ (xs : List ℕ). IsSeriesParallelOn c.args.binary (entry m) xs fewer.columns) (sym none) (no_rows c.args.binary (entry m) fewer.columns (increasing_distinct fewer.columns s))))
