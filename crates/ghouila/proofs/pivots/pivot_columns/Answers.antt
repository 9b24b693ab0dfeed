use Rattle.std.proofs.Common.{arith}
use Rattle.ghouila.proofs.PivotColumns.{none_scanned, more_scanned, pivot_columns_are}
use Rattle.ghouila.proofs.pivots.pivot_columns.Goals as goal

pub loop-row-init : goal.loop-row-init
loop-row-init c = none_scanned c.args.work.now c.args.left.now c.args.chunk

pub loop-row-preserved : goal.loop-row-preserved
loop-row-preserved c = more_scanned c.args.work.now c.args.left.now c.args.chunk c.loop-row.row-index c.support_word-word.result c.requires.shape c.loop-row-test.true c.support_word-word.ensures c.loop-row.some c.loop-row.odd c.loop-row.invariant

pub returns : goal.returns
returns c = pivot_columns_are c.args.work.now c.args.left.now c.args.chunk c.loop-row.row-index c.loop-row.some c.loop-row.odd c.requires.shape c.loop-row-test.false (let fits = c.loop-row.auto.odd-fits in omega (arith, fits)) c.loop-row.invariant
