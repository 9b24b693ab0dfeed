use Rattle.std.proofs.Common.{ap}
use Rattle.cmr_base.specs.LineSets.{set_numbered}
use Rattle.leaf_enumerate.proofs.RowSets.{row_set_of}
use Rattle.leaf_enumerate.proofs.row_sets.row_set.Goals as goal

pub returns-clause-row_set : goal.returns-clause-row_set
returns-clause-row_set c =
    row_set_of c.args.matrix.now c.args.number (set_numbered c.rows.result 0 c.args.number) c.numbered.result (ap (λ n. set_numbered n 0 c.args.number) c.rows.ensures.rows) c.numbered.ensures
