use Rattle.core_parts.proofs.PartMatrices.{copy_free}
use Rattle.core_parts.proofs.part_matrices.copy_run.Goals as goal

pub push-requires-clause-free : goal.push-requires-clause-free
push-requires-clause-free c = copy_free c.args.part.now c.loop-nonzero.part c.args.row c.loop-nonzero.nonzero-index c.args.run.now c.args._columns.now c.args.marks.now c.args.places.now
    c.loop-nonzero-test.true c.loop-nonzero.invariant c.requires.increasing c.requires.placed c.requires.distinct c.if-marks-nonzero.true
