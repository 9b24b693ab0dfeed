use Rattle.std.proofs.Common.{◌∙◌, eqb, ℕ, get_or, sym, ap, arith}
use Rattle.std.proofs.lemmas.Nat.Bits.{bit_at-zero}
use Rattle.cmr_base.specs.Planes.{has_bit}
use Rattle.cmr_base.specs.Trees.{support}
use Rattle.cmr_base.proofs.GraphicMatrices.{nonzero_in_range}
use Rattle.cmr_base.proofs.Members.{in_at}
use Rattle.cmr_base.proofs.WordBits.{bit_at_chunk}
use Rattle.graph_realise.proofs.ChunkLemmas.{all_chunks, chunk_empty, chunk_more, no_chunks}
use Rattle.graph_realise.proofs.joint.chunks_of_row.Goals.{then-support_word-ne0+in_ok-push, else-support_word-ne0}
use Rattle.graph_realise.proofs.joint.chunks_of_row.Goals as goal

pub loop-chunk-init : goal.loop-chunk-init
loop-chunk-init c = rw c.new-chunks.ensures (no_chunks (support c.args.matrix.now c.args.row) c.args.matrix.now.width)

pub push-requires : goal.push-requires
push-requires c = λ k l. (c.loop-chunk.invariant.below (get_or c.loop-chunk.chunks k 0) (in_at c.loop-chunk.chunks k l)).0

pub loop-chunk-preserved : goal.loop-chunk-preserved
loop-chunk-preserved c =
    let m = c.args.matrix.now in
    let chunk = c.loop-chunk.chunk in
    let so = c.loop-chunk.invariant in
    elim c.if-support_word-ne0.branch [
      | then-support_word-ne0+in_ok-push w ↦
          rw (w.chunks-is, w.in_ok-push.ensures.ok) (chunk_more (support m c.args.row) m.width c.loop-chunk.chunks chunk so (let e = c.words_for-chunk-end.ensures in let l = c.loop-chunk-test.true in omega arith))
      | else-support_word-ne0 w ↦
          rw w.chunks-is (chunk_empty (support m c.args.row) m.width c.loop-chunk.chunks chunk so
          (λ k small. sym (bit_at_chunk m c.args.row chunk k small) ∙ ap (λ (n : ℕ). has_bit n k) (sym c.support_word.ensures ∙ w.if-support_word-ne0.false) ∙ ap (λ bit. eqb bit 1) (bit_at-zero k)))
    ]

pub returns : goal.returns
returns c =
    let m = c.args.matrix.now in
    all_chunks (support m c.args.row) m.width c.loop-chunk.chunks c.loop-chunk.chunk c.loop-chunk.invariant (let e = c.words_for-chunk-end.ensures in let l = c.loop-chunk-test.false in omega arith)
    (λ column e. nonzero_in_range m c.columns.ensures.shape.rectangular c.args.row column e)
