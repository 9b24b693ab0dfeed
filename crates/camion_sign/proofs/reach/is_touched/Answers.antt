use Rattle.std.proofs.Common.{arith}
use Rattle.cmr_base.proofs.Booleans.{at_least_of}
use Rattle.camion_sign.proofs.Steps.{column_inside, untouched}
use Rattle.camion_sign.proofs.reach.is_touched.Goals as goal

pub next_nonzero-requires-clause-row : goal.next_nonzero-requires-clause-row
next_nonzero-requires-clause-row c = column_inside c.args.matrix.now c.by_columns.result.now c.args.column c.by_columns.ensures.matrix c.requires

pub returns-in-Some : goal.returns-in-Some
returns-in-Some c = λ e. untouched c.args.matrix.now c.by_columns.result.now c.args.row c.args.column c.by_columns.ensures.shape c.by_columns.ensures.matrix
    (λ r early. c.in-Some.ensures.first.3 r (omega arith) (omega (arith, early, at_least_of c.in-Some.first c.args.row e)))

pub returns-in-None : goal.returns-in-None
returns-in-None c = λ e. untouched c.args.matrix.now c.by_columns.result.now c.args.row c.args.column c.by_columns.ensures.shape c.by_columns.ensures.matrix
    (λ r early. c.in-None.ensures.first r (omega arith))
