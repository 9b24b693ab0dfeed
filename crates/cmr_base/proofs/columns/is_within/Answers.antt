use Rattle.std.proofs.Common.{◌∙◌, ◌+◌, ◌*◌, refl, sym, arith, inl, inr}
use Rattle.std.proofs.lemmas.Bool.{cases_lt, true≢false}
use Rattle.cmr_base.proofs.ColumnWords.{column_at, none_past, within_more}
use Rattle.cmr_base.proofs.columns.is_within.Goals as goal

pub returns-then-not-is_part : goal.returns-then-not-is_part
returns-then-not-is_part c =
    let one = c.args.one.now in
    let two = c.args.two.now in
    let chunk = c.loop-chunk.chunk in (
      (λ e. cc),
      (λ all. absurd (true≢false (sym (c.if-not-is_part.ensures.1 (λ k s h. sym (column_at two chunk k s) ∙ all (64 * chunk + k) (column_at one chunk k s ∙ h)))))),
    )

pub loop-chunk-preserved : goal.loop-chunk-preserved
loop-chunk-preserved c = within_more c.args.one.now c.args.two.now c.loop-chunk.chunk c.loop-chunk.invariant (c.if-not-is_part.ensures.0 refl)

pub returns : goal.returns
returns c =
    let l = c.loop-chunk-test.false in (
      (λ e column a. elim (cases_lt column (64 * c.loop-chunk.chunk)) [
        | inl h ↦ c.loop-chunk.invariant column h a
        | inr h ↦ absurd (true≢false (sym a ∙ none_past c.args.one.now column (omega arith)))
      ]),
      (λ h. refl),
    )
