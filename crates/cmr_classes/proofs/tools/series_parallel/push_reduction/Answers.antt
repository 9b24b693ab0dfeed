use Rattle.std.proofs.Common.{sym, subst}
use Rattle.cmr_base.specs.Matrix.{height}
use Rattle.cmr_base.specs.LineSets.{AllBelow}
use Rattle.cmr_classes.proofs.SeriesParallelAnswers.{rest_rows_below, rest_columns_below}
use Rattle.cmr_classes.proofs.tools.series_parallel.push_reduction.Goals as goal

pub push_submatrix-requires-clause-rows : goal.push_submatrix-requires-clause-rows
push_submatrix-requires-clause-rows c =
    subst (AllBelow (height c.args.matrix.now)) (sym c.requires.rows) (rest_rows_below c.args.options.now.binary c.args.matrix.now)

pub push_submatrix-requires-clause-columns : goal.push_submatrix-requires-clause-columns
push_submatrix-requires-clause-columns c =
    subst (AllBelow c.args.matrix.now.width) (sym c.requires.columns) (rest_columns_below c.args.options.now.binary c.args.matrix.now)
