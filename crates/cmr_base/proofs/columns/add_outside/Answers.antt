use Rattle.std.proofs.Common.{◌&&◌, ◌∙◌, ℕ, Bool, not, ap, ap₂, sym, arith}
use Rattle.cmr_base.specs.ColumnSets.{has_column}
use Rattle.cmr_base.proofs.ColumnWords.{added_word, added_all, column_at, none_past}
use Rattle.cmr_base.proofs.columns.add_outside.Goals as goal

pub loop-chunk-preserved : goal.loop-chunk-preserved
loop-chunk-preserved c =
    let one = c.args.one.now in
    let other = c.args.other.now in
    let chunk = c.loop-chunk.chunk in
    let test : ℕ → Bool = λ column. has_column one column && not (has_column other column) in
    added_word test c.args.set.now.items c.loop-chunk.set.items chunk c.index_mut.result.now c.outside.result c.loop-chunk.invariant (let l = c.loop-chunk-test.true in omega arith) c.index_mut.ensures.value
    (λ k s. c.outside.ensures k s ∙ ap₂ (λ a b. a && not b) (sym (column_at one chunk k s)) (sym (column_at other chunk k s)))

pub returns-clause-columns : goal.returns-clause-columns
returns-clause-columns c =
    let one = c.args.one.now in
    let other = c.args.other.now in
    let e = c.requires.one in
    let s = c.loop-chunk.invariant.size in
    let l = c.loop-chunk-test.false in
    added_all (λ column. has_column one column && not (has_column other column)) c.args.set.now.items c.loop-chunk.set.items c.loop-chunk.chunk c.loop-chunk.invariant (omega arith)
    (λ column k. ap (λ t. t && not (has_column other column)) (none_past one column (omega arith)))
