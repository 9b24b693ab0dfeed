use Rattle.std.proofs.Common.{◌∙◌, sym}
use Rattle.sp_reduce.proofs.Submatrices.{rest_decides}
use Rattle.sp_reduce.proofs.minimal.is_series_parallel.Goals as goal

pub returns : goal.returns
returns c =
    let law = rest_decides c.args.binary c.args.matrix.now c.args.lines.now.rows c.args.lines.now.columns c.requires.rows.increasing c.requires.columns.increasing in
    let rest = c.in_ok-reduction.ensures in (
      (λ yes. let none = c.has_no_lines.ensures.0 yes in law.0 (sym rest.rows ∙ none.0, sym rest.columns ∙ none.1)),
      (λ sp. let none = law.1 sp in c.has_no_lines.ensures.1 (rest.rows ∙ none.0, rest.columns ∙ none.1)),
    )
