use Rattle.std.proofs.lemmas.Result.{IfOk-weaker}
use Rattle.sparse_matrix.specs.SparseRows.{matrix_of_runs}
use Rattle.sparse_matrix.proofs.Matrices.{matrix_is_ternary}
use Rattle.cmr_large.proofs.ShownLines.{names_lines}
use Rattle.cmr_large.proofs.tu.outcome_of.Goals as goal

pub report_verdict-requires : goal.report_verdict-requires
report_verdict-requires g c =
    names_lines c.args.options.now.budget c.args.options.now.pivots (matrix_of_runs c.args.matrix.now) c.requires.budget (matrix_is_ternary c.args.matrix.now c.rows-height.ensures.shape)
    c.in_ok-verdict.verdict c.in_ok-verdict.ensures

pub returns : goal.returns
returns g c =
    IfOk-weaker c.report_verdict.result _ _ (λ outcome is. record {
      limit_in = c.requires.budget;
      ternary = matrix_is_ternary c.args.matrix.now c.rows-height.ensures.shape;
      verdict = c.in_ok-verdict.verdict;
      right = c.in_ok-verdict.ensures;
      report_is = is;
    }) c.report_verdict.ensures
