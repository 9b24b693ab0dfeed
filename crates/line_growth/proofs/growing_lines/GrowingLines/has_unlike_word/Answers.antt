use Rattle.std.proofs.Common.{◌∙◌, ap, sym, arith}
use Rattle.std.proofs.lemmas.Bool.{true≢false}
use Rattle.line_growth.specs.GrowingLines.{Growth, is_inside}
use Rattle.line_growth.proofs.LineSteps.{chunk_alike, chunk_unlike}
use Rattle.line_growth.proofs.growing_lines.GrowingLines.has_unlike_word.Goals as goal

pub loop-chunk-preserved : goal.loop-chunk-preserved
loop-chunk-preserved c =
    chunk_alike c.args.matrix.now c.args.row c.args.multiple.factor c.args.multiple.model c.loop-chunk.chunk c.args.self.now c.loop-chunk.invariant
    (λ h. true≢false (sym (c.has_unlike_bit.ensures.1 h) ∙ c.if-has_unlike_bit.false))

pub returns-then-has_unlike_bit : goal.returns-then-has_unlike_bit
returns-then-has_unlike_bit c =
    chunk_unlike c.args.matrix.now c.args.row c.args.multiple.factor c.args.multiple.model c.columns.ensures.shape c.requires.row c.requires.model c.loop-chunk.chunk c.args.self.now c.requires.width (c.has_unlike_bit.ensures.0 c.if-has_unlike_bit.true)

pub returns : goal.returns
returns c = λ x e.
    let low = c.size-size.ensures.whole.words.inside x (ap (λ (lines : Growth). is_inside lines x) c.self.view_is ∙ e) in
    c.loop-chunk.invariant x (let t = c.loop-chunk-test.false in let s = ap (λ (lines : Growth). lines.inside.size) c.self.view_is in omega (arith, c.requires.width)) e
