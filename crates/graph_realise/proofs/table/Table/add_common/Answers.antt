use Rattle.std.proofs.Common.{◌≡◌, ◌<◌, ◌+◌, ◌*◌, ◌&&◌, ◌||◌, ◌∙◌, eqb, ℕ, Bool, get_or, sym, subst, ap, ap₂, arith}
use Rattle.std.proofs.lemmas.Nat.Bits.{bit_at-zero}
use Rattle.std.specs.Int.Bits.{bit_and, bit_or}
use Rattle.cmr_base.specs.Planes.{has_bit}
use Rattle.cmr_base.specs.Trees.{support}
use Rattle.cmr_base.proofs.Booleans.{and_false, or_false}
use Rattle.cmr_base.proofs.WordBits.{bit_at_chunk, has_bit-and, has_bit-or}
use Rattle.graph_realise.specs.BitTables.{Grid, cell, AreChunksFilled}
use Rattle.graph_realise.proofs.ChunkLemmas.{chunks_none, chunks_more, chunks_row, chunks_same, not_filled, off_chunks}
use Rattle.graph_realise.proofs.table.Table.add_common.Goals.{then-common-ne0, else-common-ne0}
use Rattle.graph_realise.proofs.table.Table.add_common.Goals as goal

pub loop-chunk-init : goal.loop-chunk-init
loop-chunk-init c = chunks_none (λ column. cell c.args.self.now c.args.row column || support c.args.matrix.now c.args.one column && support c.args.matrix.now c.args.other column) c.args.self.now c.args.row c.args.chunks.now

pub loop-chunk-preserved : goal.loop-chunk-preserved
loop-chunk-preserved c =
    let m = c.args.matrix.now in
    let old : Grid = c.args.self.now in
    let now : Grid = c.loop-chunk.self in
    let row = c.args.row in
    let chunks = c.args.chunks.now in
    let index = c.loop-chunk.chunk-index in
    let chunk = get_or chunks index 0 in
    let so = c.loop-chunk.invariant in
    let one = c.support_word.result in
    let other = c.support_word-in-loop-chunk.result in
    let values : ℕ → Bool = λ column. cell c.args.self.now c.args.row column || support c.args.matrix.now c.args.one column && support c.args.matrix.now c.args.other column in
    let both : (k : ℕ) → k < 64 → has_bit (bit_and one other) k ≡ (support m c.args.one (64 * chunk + k) && support m c.args.other (64 * chunk + k)) = λ k small.
    has_bit-and one other k
    ∙ ap₂ (λ a b. a && b)
    (ap (λ (n : ℕ). has_bit n k) c.support_word.ensures ∙ bit_at_chunk m c.args.one chunk k small)
    (ap (λ (n : ℕ). has_bit n k) c.support_word-in-loop-chunk.ensures ∙ bit_at_chunk m c.args.other chunk k small) in
    let kept : (k : ℕ) → k < 64 → cell now row (64 * chunk + k) ≡ cell old row (64 * chunk + k) = λ k small. not_filled values old now row chunks index k c.requires.chunks.increasing c.loop-chunk-test.true so small in
    elim c.if-common-ne0.branch [
      | then-common-ne0 w ↦
          subst (λ (t : Grid). AreChunksFilled values old t row chunks (index + 1)) (sym w.self-is)
          (chunks_more values old now w.set_word.new.self row chunks index (bit_or w.word.result (bit_and one other)) c.requires.chunks.increasing c.loop-chunk-test.true so w.set_word.ensures
          (λ k small inside.
          has_bit-or w.word.result (bit_and one other) k ∙ ap₂ (λ a b. a || b) (w.word.ensures k small (omega (arith, inside, so.rows.width)) ∙ kept k small) (both k small)))
      | else-common-ne0 w ↦
          subst (λ (t : Grid). AreChunksFilled values old t row chunks (index + 1)) (sym w.self-is)
          (chunks_same values old now row chunks index so
          (λ k small inside.
          kept k small ∙ sym (ap (λ t. cell old row (64 * chunk + k) || t) (sym (both k small) ∙ ap (λ (n : ℕ). has_bit n k) w.if-common-ne0.false ∙ ap (λ bit. eqb bit 1) (bit_at-zero k)) ∙ or_false (cell old row (64 * chunk + k)))))
    ]

pub returns : goal.returns
returns c =
    let values : ℕ → Bool = λ column. cell c.args.self.now c.args.row column || support c.args.matrix.now c.args.one column && support c.args.matrix.now c.args.other column in
    let l = c.loop-chunk-test.false in
    let b = c.loop-chunk.auto.chunk-index-end in
    chunks_row values c.args.self.now c.loop-chunk.self c.args.row c.args.chunks.now c.loop-chunk.chunk-index (omega arith) c.loop-chunk.invariant
    (λ column n.
    ap (λ t. cell c.args.self.now c.args.row column || t)
    (ap (λ t. support c.args.matrix.now c.args.one column && t) (off_chunks (support c.args.matrix.now c.args.other) c.args.matrix.now.width c.args.chunks.now column c.requires.chunks n)
    ∙ and_false (support c.args.matrix.now c.args.one column))
    ∙ or_false (cell c.args.self.now c.args.row column))
