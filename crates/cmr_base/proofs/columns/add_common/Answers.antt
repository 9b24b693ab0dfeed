use Rattle.std.proofs.Common.{◌&&◌, ◌∙◌, ℕ, Bool, get_or, ap, ap₂, sym, arith}
use Rattle.std.specs.Int.Bits.{bit_and}
use Rattle.cmr_base.specs.ColumnSets.{has_column}
use Rattle.cmr_base.proofs.ColumnWords.{added_word, added_all, column_at, none_past}
use Rattle.cmr_base.proofs.WordBits.{has_bit-and}
use Rattle.cmr_base.proofs.columns.add_common.Goals as goal

pub loop-chunk-preserved : goal.loop-chunk-preserved
loop-chunk-preserved c =
    let one = c.args.one.now in
    let two = c.args.two.now in
    let chunk = c.loop-chunk.chunk in
    let test : ℕ → Bool = λ column. has_column one column && has_column two column in
    added_word test c.args.set.now.items c.loop-chunk.set.items chunk c.index_mut.result.now (bit_and (get_or one chunk 0) (get_or two chunk 0)) c.loop-chunk.invariant (let l = c.loop-chunk-test.true in omega arith) c.index_mut.ensures.value
    (λ k s. has_bit-and (get_or one chunk 0) (get_or two chunk 0) k ∙ ap₂ (λ a b. a && b) (sym (column_at one chunk k s)) (sym (column_at two chunk k s)))

pub returns-clause-columns : goal.returns-clause-columns
returns-clause-columns c =
    let one = c.args.one.now in
    let two = c.args.two.now in
    let e = c.requires.one in
    let s = c.loop-chunk.invariant.size in
    let l = c.loop-chunk-test.false in
    added_all (λ column. has_column one column && has_column two column) c.args.set.now.items c.loop-chunk.set.items c.loop-chunk.chunk c.loop-chunk.invariant (omega arith)
    (λ column k. ap (λ t. t && has_column two column) (none_past one column (omega arith)))
