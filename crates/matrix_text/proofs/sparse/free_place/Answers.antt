use Rattle.std.proofs.Common.{◌-◌, ◌+◌, ◌*◌, ◌≤◌, length, get_or, false, refl, sym, subst, ◌∙◌}
use Rattle.std.proofs.lemmas.Result.{err_from_is_err_and}
use Rattle.text_fields.specs.Reading.{field, Fails}
use Rattle.text_fields.proofs.Fields.{bind_fails}
use Rattle.matrix_text.specs.declared.error.TextKind.TheVariants.{Short}
use Rattle.matrix_text.specs.Values.{free_column_in}
use Rattle.matrix_text.proofs.Lines.{row_part, row_fits}
use Rattle.matrix_text.proofs.sparse.free_place.Goals as goal

pub returns-clause-read : goal.returns-clause-read
returns-clause-read c =
    let start = (c.in_ok-row.row - 1) * c.args.columns in
    let fits : start + c.args.columns ≤ length c.args.taken.now = rw c.requires.whole (row_fits c.in_ok-row.row c.args.rows c.args.columns c.in_ok-row.ensures.above c.in_ok-row.ensures.within) in
    let column = row_part c.args.columns start c.args.taken.now fits c.line.new.words ∙ c.in_ok-column.ensures.read in
    rw (c.in_ok-row.ensures.read, column) refl

pub returns-in_err-column-clause-read : goal.returns-in_err-column-clause-read
returns-in_err-column-clause-read c =
    let start = (c.in_ok-row.row - 1) * c.args.columns in
    let fits : start + c.args.columns ≤ length c.args.taken.now = rw c.requires.whole (row_fits c.in_ok-row.row c.args.rows c.args.columns c.in_ok-row.ensures.above c.in_ok-row.ensures.within) in
    let p = err_from_is_err_and c.from_residual-in_err-column.result c.from_residual-in_err-column.ensures.1 in
    let failed = subst (Fails c.in_err-column.field-0.0) (sym (row_part c.args.columns start c.args.taken.now fits c.line.new.words)) c.in_err-column.ensures.read in
    rw (p.1, p.2, c.in_ok-row.ensures.read) (bind_fails c.in_err-column.field-0.0 (field Short (free_column_in c.args.columns (λ n. get_or c.args.taken.now (start + (n - 1)) false)) c.line.new.words) _ failed)
