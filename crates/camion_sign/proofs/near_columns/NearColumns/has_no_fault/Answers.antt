use Rattle.cmr_base.specs.ColumnSets.{has_column}
use Rattle.camion_sign.proofs.NearFaults.{none_near, waits_after}
use Rattle.camion_sign.proofs.near_columns.NearColumns.has_no_fault.Goals as goal

pub returns-then-self-clause-none : goal.returns-then-self-clause-none
returns-then-self-clause-none c = λ e.
    let m = c.args.matrix.now in
    let t = c.args.start.row in
    let column = c.args.start.column in
    let waits = waits_after m t column c.args.self.now.waiting.words c.remove.new.self.words c.requires.knows.waits c.remove.ensures.only in
    none_near m t column c.requires.knows.room.matrix (has_column c.remove.new.self.words) (c.requires.knows.agrees c.if-self.true) waits (c.are_near.ensures.near e)
