use Rattle.std.proofs.Common.{get_or, sym, arith}
use Rattle.cmr_base.specs.ColumnSets.{has_column}
use Rattle.cmr_base.proofs.ColumnWords.{added_word, added_all, column_at, none_past}
use Rattle.cmr_base.proofs.columns.add_set.Goals as goal

pub loop-chunk-preserved : goal.loop-chunk-preserved
loop-chunk-preserved c =
    let other = c.args.other.now in
    let chunk = c.loop-chunk.chunk in
    added_word (λ column. has_column other column) c.args.set.now.items c.loop-chunk.set.items chunk c.index_mut.result.now (get_or other chunk 0) c.loop-chunk.invariant (let l = c.loop-chunk-test.true in omega arith) c.index_mut.ensures.value
    (λ k s. sym (column_at other chunk k s))

pub returns-clause-columns : goal.returns-clause-columns
returns-clause-columns c =
    let other = c.args.other.now in
    let e = c.requires in
    let s = c.loop-chunk.invariant.size in
    let l = c.loop-chunk-test.false in
    added_all (λ column. has_column other column) c.args.set.now.items c.loop-chunk.set.items c.loop-chunk.chunk c.loop-chunk.invariant (omega arith)
    (λ column k. none_past other column (omega arith))
