use Rattle.std.proofs.Common.{subst}
use Rattle.cmr_base.specs.Matrix.{Matrix}
use Rattle.camion_sign.specs.RowSigns.{AgreesBefore}
use Rattle.camion_sign.proofs.near_columns.agrees_if_many.Goals as goal

pub returns : goal.returns
returns c = λ e. subst (λ (a : Matrix). AgreesBefore a c.args.row) c.by_rows.ensures.matrix (c.agrees_with_earlier.ensures e)
