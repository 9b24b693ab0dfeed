use Rattle.std.proofs.Common.{false, eqb, ap, arith}
use Rattle.std.proofs.lemmas.Nat.Bits.{bit_at-zero}
use Rattle.graph_realise.proofs.TableLemmas.{filled_word, filled_row}
use Rattle.graph_realise.proofs.table.Table.clear.Goals as goal

pub loop-chunk-preserved : goal.loop-chunk-preserved
loop-chunk-preserved c =
    filled_word (λ column. false) c.args.self.now c.loop-chunk.self c.set_word.new.self c.args.row c.loop-chunk.chunk 0 c.loop-chunk.invariant c.set_word.ensures (λ k small inside. ap (λ bit. eqb bit 1) (bit_at-zero k))

pub returns : goal.returns
returns c =
    let end = c.loop-chunk-test.false in
    filled_row (λ column. false) c.args.self.now c.loop-chunk.self c.args.row c.loop-chunk.chunk (omega (arith, end, c.chunks-chunk-end.ensures)) c.loop-chunk.invariant
