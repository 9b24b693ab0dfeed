use Rattle.std.proofs.Common.{◌∙◌, ap}
use Rattle.cmr_base.specs.Matrix.{Matrix, is_nonzero}
use Rattle.cmr_base.specs.Trees.{support}
use Rattle.cmr_base.proofs.Parts.{entry-transposed}
use Rattle.camion_sign.proofs.Steps.{column_inside}
use Rattle.camion_sign.proofs.line_words.column_words.Goals as goal

pub columns_of-requires : goal.columns_of-requires
columns_of-requires c = column_inside c.args.matrix.now c.by_columns.result.now c.args.column c.by_columns.ensures.matrix c.requires

pub returns-clause-rows : goal.returns-clause-rows
returns-clause-rows c row =
    c.columns_of.ensures.columns row
    ∙ ap (λ (a : Matrix). support a c.args.column row) c.by_columns.ensures.matrix
    ∙ ap is_nonzero (entry-transposed c.args.matrix.now row c.args.column c.by_columns.ensures.shape)
