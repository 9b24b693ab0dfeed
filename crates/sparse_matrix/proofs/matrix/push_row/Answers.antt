use Rattle.std.proofs.Common.{◌∙◌}
use Rattle.sparse_matrix.proofs.Runs.{free_line, written_more}
use Rattle.sparse_matrix.proofs.matrix.push_row.Goals as goal

pub push-requires-clause-free : goal.push-requires-clause-free
push-requires-clause-free c = c.loop-nonzero.invariant.3 _ ∙ free_line c.args.run.now c.loop-nonzero.nonzero-index _ c.loop-nonzero-test.true c.requires.distinct

pub loop-nonzero-preserved : goal.loop-nonzero-preserved
loop-nonzero-preserved c = written_more _ _ _ _ _ _ c.loop-nonzero-test.true c.requires.run c.rows-rows.ensures.shape c.loop-nonzero.invariant c.in_ok-push.ensures
