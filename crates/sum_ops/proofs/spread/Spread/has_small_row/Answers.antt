use Rattle.std.proofs.Common.{◌≡◌, ◌∙◌, ℕ, inl, inr, subst, sym, refl, arith}
use Rattle.std.proofs.lemmas.Bool.{cases_lt, false≢true}
use Rattle.cmr_base.specs.Matrix.{IsEntry}
use Rattle.sum_ops.specs.Spreads.{spread_entry}
use Rattle.cmr_base.proofs.SmallNumbers.{small_as_byte}
use Rattle.sum_ops.proofs.CoreSums.{byte}
use Rattle.sum_ops.proofs.spread.Spread.has_small_row.Goals as goal

pub returns-then-not-is_entry : goal.returns-then-not-is_entry
returns-then-not-is_entry c =
    let same : byte c.entry.result ≡ spread_entry c.args.self c.args.first.now c.args.second.now c.args.row c.loop-column.column = small_as_byte 8 c.entry.result (omega arith) c.entry.ensures.small ∙ c.entry.ensures.value in
    (λ e. absurd (false≢true e), λ all. c.if-not-is_entry.ensures.1 (subst IsEntry (sym same) (all c.loop-column.column c.loop-column-test.true)))

pub loop-column-preserved : goal.loop-column-preserved
loop-column-preserved c = λ column l.
    let same : byte c.entry.result ≡ spread_entry c.args.self c.args.first.now c.args.second.now c.args.row c.loop-column.column = small_as_byte 8 c.entry.result (omega arith) c.entry.ensures.small ∙ c.entry.ensures.value in
    elim (cases_lt column c.loop-column.column) [
      | inl lt ↦ c.loop-column.invariant column lt
      | inr ge ↦ subst (λ (k : ℕ). IsEntry (spread_entry c.args.self c.args.first.now c.args.second.now c.args.row k)) (omega arith) (subst IsEntry same (c.if-not-is_entry.ensures.0 refl))
    ]
