use Rattle.std.proofs.Common.{◌+◌, ◌*◌, ◌&&◌, ◌∙◌, not, ℕ, Bool, ap₂, arith}
use Rattle.graph_realise.specs.BitTables.{Grid, cell}
use Rattle.graph_realise.proofs.TableLemmas.{filled_word, filled_row}
use Rattle.graph_realise.proofs.table.Table.reverse.Goals as goal

pub loop-chunk-preserved : goal.loop-chunk-preserved
loop-chunk-preserved c =
    let old : Grid = c.args.self.now in
    let now : Grid = c.loop-chunk.self in
    let row = c.args.row in
    let chunk = c.loop-chunk.chunk in
    let so = c.loop-chunk.invariant in
    let values : ℕ → Bool = λ column. cell c.args.marks.now c.args.line column && not (cell c.args.self.now c.args.row column) in
    filled_word values old now c.set_word.new.self row chunk c.outside-word.result so c.set_word.ensures
    (λ k small inside.
    c.outside-word.ensures k small
    ∙ ap₂ (λ a b. a && not b) (c.word.ensures k small (omega (arith, inside, c.requires.width)))
    (c.word-in-loop-chunk.ensures k small (omega (arith, inside, so.rows.width)) ∙ so.left (64 * chunk + k) (omega arith)))

pub returns : goal.returns
returns c =
    let end = c.loop-chunk-test.false in
    filled_row (λ column. cell c.args.marks.now c.args.line column && not (cell c.args.self.now c.args.row column)) c.args.self.now c.loop-chunk.self c.args.row c.loop-chunk.chunk (omega (arith, end, c.chunks-chunk-end.ensures)) c.loop-chunk.invariant
