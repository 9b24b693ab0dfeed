use Rattle.std.proofs.Common.{◌∙◌, ◌+◌, ◌*◌, get_or, refl, sym, arith, inl, inr}
use Rattle.std.proofs.lemmas.Bool.{cases_lt, true≢false}
use Rattle.cmr_base.proofs.ColumnWords.{column_at, empty_more, none_past, some_bit}
use Rattle.cmr_base.proofs.columns.is_empty.Goals as goal

pub returns-then-set-chunk-ne0 : goal.returns-then-set-chunk-ne0
returns-then-set-chunk-ne0 c =
    let set = c.args.set.now in
    let chunk = c.loop-chunk.chunk in
    let s = some_bit (get_or set chunk 0) (c.type_inv.set chunk).fits (omega arith) in (
      (λ e. cc),
      (λ none. absurd (true≢false (sym (column_at set chunk s.0 s.1 ∙ s.2) ∙ none (64 * chunk + s.0)))),
    )

pub loop-chunk-preserved : goal.loop-chunk-preserved
loop-chunk-preserved c = empty_more c.args.set.now c.loop-chunk.chunk c.loop-chunk.invariant (omega arith)

pub returns : goal.returns
returns c =
    let l = c.loop-chunk-test.false in (
      (λ e column. elim (cases_lt column (64 * c.loop-chunk.chunk)) [
        | inl h ↦ c.loop-chunk.invariant column h
        | inr h ↦ none_past c.args.set.now column (omega arith)
      ]),
      (λ h. refl),
    )
