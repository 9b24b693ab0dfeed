use Rattle.std.proofs.Common.{◌&&◌, ◌∙◌, ℕ, Bool, List, get_or, subst, sym, ap₂, arith}
use Rattle.std.specs.Int.Bits.{bit_and}
use Rattle.cmr_base.specs.ColumnSets.{has_column}
use Rattle.cmr_base.proofs.ColumnWords.{column_at}
use Rattle.cmr_base.proofs.WordBits.{has_bit-and}
use Rattle.graph_realise.specs.BitTables.{IsRowFilled}
use Rattle.graph_realise.proofs.TableLemmas.{filled_word, filled_row}
use Rattle.graph_realise.proofs.table.Table.fill_common.Goals as goal

pub loop-chunk-preserved : goal.loop-chunk-preserved
loop-chunk-preserved c =
    let chunk = c.loop-chunk.chunk in
    let one = c.args.one.now in
    let two = c.words-two.result.now in
    let values : ℕ → Bool = λ column. has_column one column && has_column two column in
    filled_word values c.args.self.now c.loop-chunk.self c.set_word.new.self c.args.row chunk (bit_and (get_or one chunk 0) (get_or two chunk 0)) c.loop-chunk.invariant c.set_word.ensures
    (λ k small inside. has_bit-and (get_or one chunk 0) (get_or two chunk 0) k ∙ ap₂ (λ a b. a && b) (sym (column_at one chunk k small)) (sym (column_at two chunk k small)))

pub returns : goal.returns
returns c =
    let end = c.loop-chunk-test.false in
    let old = c.args.self.now in
    subst (λ (words : List ℕ). IsRowFilled (λ column. has_column c.args.one.now column && has_column words column) old c.loop-chunk.self c.args.row old.width) c.words-two.ensures.words
    (filled_row (λ column. has_column c.args.one.now column && has_column c.words-two.result.now column) old c.loop-chunk.self c.args.row c.loop-chunk.chunk (omega (arith, end, c.chunks-chunk-end.ensures)) c.loop-chunk.invariant)
