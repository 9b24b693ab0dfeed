use Rattle.std.proofs.Common.{◌+◌, ◌*◌, inl, inr, arith, w64}
use Rattle.std.specs.Int.{trailing_zeros}
use Rattle.std.proofs.lemmas.Bool.{cases_lt}
use Rattle.ghouila.proofs.PivotColumns.{pivot_in_column, none_before, none_in_chunk}
use Rattle.ghouila.proofs.PivotSearch.{pivot_there}
use Rattle.ghouila.proofs.pivots.first_pivot.Goals as goal

pub pivot_in-requires-clause-column : goal.pivot_in-requires-clause-column
pivot_in-requires-clause-column c =
    (pivot_in_column c.args.work.now c.args.left.now c.loop-chunk.chunk c.pivot_columns-columns.result (let some = c.if-columns-ne0.true in omega (arith, some)) c.pivot_columns-columns.type_inv c.pivot_columns-columns.ensures).1.column_in

pub returns-in_err-place-clause-none : goal.returns-in_err-place-clause-none
returns-in_err-place-clause-none c =
    let there = pivot_in_column c.args.work.now c.args.left.now c.loop-chunk.chunk c.pivot_columns-columns.result (let some = c.if-columns-ne0.true in omega (arith, some)) c.pivot_columns-columns.type_inv c.pivot_columns-columns.ensures in
    absurd (pivot_there c.args.work.now c.args.left.now there.0 (64 * c.loop-chunk.chunk + trailing_zeros w64 c.pivot_columns-columns.result) there.1 c.in_err-place.ensures.none)

pub returns-then-columns-ne0-clause-some : goal.returns-then-columns-ne0-clause-some
returns-then-columns-ne0-clause-some c = record {
  pivot = c.in_ok-place.ensures.some;
  first_column = λ j h. elim (cases_lt j (64 * c.loop-chunk.chunk)) [
    | inl before ↦ c.loop-chunk.invariant j before
    | inr within ↦ none_before c.args.work.now c.args.left.now c.loop-chunk.chunk c.pivot_columns-columns.result (let some = c.if-columns-ne0.true in omega (arith, some)) c.pivot_columns-columns.type_inv c.pivot_columns-columns.ensures j within h
  ];
  first_row = c.in_ok-place.ensures.first;
}

pub loop-chunk-preserved : goal.loop-chunk-preserved
loop-chunk-preserved c = λ j h. elim (cases_lt j (64 * c.loop-chunk.chunk)) [
  | inl before ↦ c.loop-chunk.invariant j before
  | inr within ↦ none_in_chunk c.args.work.now c.args.left.now c.loop-chunk.chunk c.pivot_columns-columns.result (let none = c.if-columns-ne0.false in omega (arith, none)) c.pivot_columns-columns.ensures j within h
]

pub returns-clause-none : goal.returns-clause-none
returns-clause-none c = λ j inside. c.loop-chunk.invariant j (let past = c.loop-chunk-test.false in let wide = c.columns.ensures.columns in omega (arith, past, wide, inside))
