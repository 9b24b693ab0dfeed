use Rattle.std.proofs.Common.{◌∙◌, ◌+◌, ◌*◌, refl, sym, arith, inl, inr}
use Rattle.std.proofs.lemmas.Bool.{cases_lt, true≢false}
use Rattle.cmr_base.proofs.ColumnWords.{column_at, none_past, unshared}
use Rattle.cmr_base.proofs.columns.meets.Goals as goal

pub returns-then-share_bit : goal.returns-then-share_bit
returns-then-share_bit c =
    let one = c.args.one.now in
    let two = c.args.two.now in
    let chunk = c.loop-chunk.chunk in
    let s = c.if-share_bit.ensures.0 refl in (
      (λ e. (64 * chunk + s.0, column_at one chunk s.0 s.1 ∙ s.2, column_at two chunk s.0 s.1 ∙ s.3)),
      (λ h. refl),
    )

pub loop-chunk-preserved : goal.loop-chunk-preserved
loop-chunk-preserved c = unshared c.args.one.now c.args.two.now c.loop-chunk.chunk c.loop-chunk.invariant (λ k s a b. true≢false (sym (c.if-share_bit.ensures.1 (k, s, a, b))))

pub returns : goal.returns
returns c =
    let l = c.loop-chunk-test.false in (
      (λ e. cc),
      (λ (column, a, b). elim (cases_lt column (64 * c.loop-chunk.chunk)) [
        | inl h ↦ absurd (true≢false (sym b ∙ c.loop-chunk.invariant column h a))
        | inr h ↦ absurd (true≢false (sym a ∙ none_past c.args.one.now column (omega arith)))
      ]),
    )
