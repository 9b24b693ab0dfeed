use Rattle.std.proofs.Common.{◌∙◌, sym, ap, ap₂, is_some, List, ℕ}
use Rattle.cmr_base.specs.declared.line.Line.{Line}
use Rattle.cmr_base.specs.Matrix.{entry}
use Rattle.cmr_base.specs.Reductions.{line_reason}
use Rattle.sp_reduce.specs.LineKinds.{reason_for}
use Rattle.sp_reduce.specs.declared.kind.LineKind.TheVariants.{Rows, Columns}
use Rattle.sp_reduce.proofs.reducible.is_reducible_line.Goals as goal

pub returns-in-Row : goal.returns-in-Row
returns-in-Row c =
    let M = entry c.args.matrix.now in
    c.is_reducible.ensures
    ∙ ap₂ (λ (rows columns : List ℕ). is_some (reason_for c.args.binary M Rows rows columns c.in-Row.row)) c.as_slice-rows.ensures.items c.as_slice-columns.ensures.items
    ∙ ap (λ (line : Line). is_some (line_reason c.args.binary M c.args.lines.now.rows c.args.lines.now.columns line)) (sym c.in-Row.is)

pub returns-in-Column : goal.returns-in-Column
returns-in-Column c =
    let M = entry c.args.matrix.now in
    c.is_reducible-in-Column.ensures
    ∙ ap₂ (λ (columns rows : List ℕ). is_some (reason_for c.args.binary M Columns columns rows c.in-Column.column)) c.as_slice-columns.ensures.items c.as_slice-rows.ensures.items
    ∙ ap (λ (line : Line). is_some (line_reason c.args.binary M c.args.lines.now.rows c.args.lines.now.columns line)) (sym c.in-Column.is)
