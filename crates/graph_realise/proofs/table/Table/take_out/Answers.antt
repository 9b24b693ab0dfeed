use Rattle.std.proofs.Common.{◌≡◌, ◌<◌, ◌+◌, ◌*◌, ◌&&◌, ◌∙◌, not, eqb, ℕ, Bool, true, false, get_or, refl, sym, subst, ap, ap₂, arith}
use Rattle.std.proofs.lemmas.Nat.Bits.{bit_at-zero}
use Rattle.cmr_base.specs.Planes.{has_bit}
use Rattle.cmr_base.specs.Trees.{support}
use Rattle.cmr_base.proofs.Booleans.{and_true}
use Rattle.cmr_base.proofs.WordBits.{bit_at_chunk, has_bit-and}
use Rattle.graph_realise.specs.BitTables.{Grid, cell, AreChunksFilled}
use Rattle.graph_realise.proofs.ChunkLemmas.{chunks_none, chunks_more, chunks_row, chunks_same, not_filled, off_chunks}
use Rattle.graph_realise.proofs.table.Table.take_out.Goals.{then-word-gone-ne0, else-word-gone-ne0}
use Rattle.graph_realise.proofs.table.Table.take_out.Goals as goal

pub loop-chunk-init : goal.loop-chunk-init
loop-chunk-init c = chunks_none (λ column. cell c.args.self.now c.args.row column && not (support c.args.matrix.now c.args.other column)) c.args.self.now c.args.row c.args.chunks.now

none_kept : (x y : Bool) → (x && y) ≡ false → x ≡ (x && not y)
none_kept true true e = e
none_kept true false e = refl
none_kept false y e = refl

pub loop-chunk-preserved : goal.loop-chunk-preserved
loop-chunk-preserved c =
    let m = c.args.matrix.now in
    let old : Grid = c.args.self.now in
    let now : Grid = c.loop-chunk.self in
    let row = c.args.row in
    let chunks = c.args.chunks.now in
    let index = c.loop-chunk.chunk-index in
    let chunk = get_or chunks index 0 in
    let so = c.loop-chunk.invariant in
    let values : ℕ → Bool = λ column. cell c.args.self.now c.args.row column && not (support c.args.matrix.now c.args.other column) in
    let kept : (k : ℕ) → k < 64 → cell now row (64 * chunk + k) ≡ cell old row (64 * chunk + k) = λ k small. not_filled values old now row chunks index k c.requires.chunks.increasing c.loop-chunk-test.true so small in
    let word : (k : ℕ) → k < 64 → 64 * chunk + k < old.width → has_bit c.word-word.result k ≡ cell old row (64 * chunk + k) = λ k small inside.
    c.word-word.ensures k small (omega (arith, inside, so.rows.width)) ∙ kept k small in
    let gone : (k : ℕ) → k < 64 → has_bit c.support_word-gone.result k ≡ support m c.args.other (64 * chunk + k) = λ k small.
    ap (λ (n : ℕ). has_bit n k) c.support_word-gone.ensures ∙ bit_at_chunk m c.args.other chunk k small in
    elim c.if-word-gone-ne0.branch [
      | then-word-gone-ne0 w ↦
          subst (λ (t : Grid). AreChunksFilled values old t row chunks (index + 1)) (sym w.self-is)
          (chunks_more values old now w.set_word.new.self row chunks index w.outside.result c.requires.chunks.increasing c.loop-chunk-test.true so w.set_word.ensures
          (λ k small inside. w.outside.ensures k small ∙ ap₂ (λ a b. a && not b) (word k small inside) (gone k small)))
      | else-word-gone-ne0 w ↦
          subst (λ (t : Grid). AreChunksFilled values old t row chunks (index + 1)) (sym w.self-is)
          (chunks_same values old now row chunks index so
          (λ k small inside.
          kept k small
          ∙ none_kept (cell old row (64 * chunk + k)) (support m c.args.other (64 * chunk + k))
          (sym (ap₂ (λ a b. a && b) (word k small inside) (gone k small)) ∙ sym (has_bit-and c.word-word.result c.support_word-gone.result k) ∙ ap (λ (n : ℕ). has_bit n k) w.if-word-gone-ne0.false ∙ ap (λ bit. eqb bit 1) (bit_at-zero k))))
    ]

pub returns : goal.returns
returns c =
    let values : ℕ → Bool = λ column. cell c.args.self.now c.args.row column && not (support c.args.matrix.now c.args.other column) in
    let l = c.loop-chunk-test.false in
    let b = c.loop-chunk.auto.chunk-index-end in
    chunks_row values c.args.self.now c.loop-chunk.self c.args.row c.args.chunks.now c.loop-chunk.chunk-index (omega arith) c.loop-chunk.invariant
    (λ column n. ap (λ t. cell c.args.self.now c.args.row column && not t) (off_chunks (support c.args.matrix.now c.args.other) c.args.matrix.now.width c.args.chunks.now column c.requires.chunks n) ∙ and_true (cell c.args.self.now c.args.row column))
