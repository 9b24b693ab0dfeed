use Rattle.std.proofs.Common.{◌+◌, ◌*◌, ◌||◌, ◌∙◌, ℕ, Bool, ap₂, arith}
use Rattle.std.specs.Int.Bits.{bit_or}
use Rattle.graph_realise.specs.BitTables.{cell}
use Rattle.graph_realise.proofs.TableLemmas.{filled_word, filled_row}
use Rattle.cmr_base.proofs.WordBits.{has_bit-or}
use Rattle.graph_realise.proofs.table.Table.add.Goals as goal

pub loop-chunk-preserved : goal.loop-chunk-preserved
loop-chunk-preserved c =
    let chunk = c.loop-chunk.chunk in
    let so = c.loop-chunk.invariant in
    let values : ℕ → Bool = λ column. cell c.args.self.now c.args.row column || cell c.args.marks.now c.args.line column in
    filled_word values c.args.self.now c.loop-chunk.self c.set_word.new.self c.args.row chunk (bit_or c.word.result c.word-in-loop-chunk.result) so c.set_word.ensures
    (λ k small inside.
    has_bit-or c.word.result c.word-in-loop-chunk.result k
    ∙ ap₂ (λ a b. a || b) (c.word.ensures k small (omega (arith, inside, so.rows.width)) ∙ so.left (64 * chunk + k) (omega arith))
    (c.word-in-loop-chunk.ensures k small (omega (arith, inside, c.requires.width))))

pub returns : goal.returns
returns c =
    let end = c.loop-chunk-test.false in
    filled_row (λ column. cell c.args.self.now c.args.row column || cell c.args.marks.now c.args.line column) c.args.self.now c.loop-chunk.self c.args.row c.loop-chunk.chunk (omega (arith, end, c.chunks-chunk-end.ensures)) c.loop-chunk.invariant
