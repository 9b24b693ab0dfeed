use Rattle.std.proofs.Common.{◌≡◌, ◌<◌, ◌≤◌, ◌+◌, ◌-◌, ℕ, true, [], ◌∷◌}
use Rattle.cmr_base.specs.ColumnSets.{has_column}
use Rattle.line_growth.specs.GrowingLines.{HasGrown, IsBitOf, is_inside}
use Rattle.line_growth.proofs.growing_lines.GrowingLines.add_word.Given as goal

abbrev pub invariant-loop-bit : goal.invariant-loop-bit
invariant-loop-bit l = record {
  from_in : l.from ≤ 64;
  found : (k : ℕ) → k < l.from → has_column (l.word ∷ []) k ≡ true → is_inside l.self (l.first + k) ≡ true;
  grown : HasGrown (IsBitOf l.first l.word) l.initial.self l.self;
}

abbrev pub decreases-loop-bit : goal.decreases-loop-bit
decreases-loop-bit l = 64 - l.from
