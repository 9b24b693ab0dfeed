use Rattle.std.proofs.Common.{ap}
use Rattle.cmr_base.specs.BitSets.{Bits}
use Rattle.cuts.proofs.ForcedLemmas.{side_forced}
use Rattle.cuts.proofs.sides.Side.forced.Goals as goal

pub returns : goal.returns
returns c =
    let size = λ (set : Bits). set.size in
    let rows = c.rows.result in
    let columns = c.columns.result in
    side_forced c.args.matrix.now c.args.self.now c.in_ok-grown.field-0 (record { rows = c.in_ok-unlike.field-0; columns = c.in_ok-unlike-2.field-0 }) c.args.far.now rows.own.now.size columns.own.now.size rows.numbers.now columns.numbers.now
    c.rows-shape.ensures.shape c.requires.numbers c.in_ok-grown.ensures.numbers c.in_ok-grown.ensures.lines (ap size c.rows.ensures.own) (ap size c.columns.ensures.own) c.rows.ensures.numbers c.columns.ensures.numbers c.in_ok-unlike.ensures.unlike c.in_ok-unlike-2.ensures.unlike
