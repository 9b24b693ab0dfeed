use Rattle.std.proofs.Common.{ℕ, ◌<◌, ◌≡◌, true, false}
use Rattle.cmr_base.specs.ColumnSets.{has_column}
use Rattle.cmr_base.proofs.bit_set.BitSet.others.Given as goal

abbrev pub invariant-loop-x : goal.invariant-loop-x
invariant-loop-x l = (l.rest.size ≡ l.size)
    × ((x : ℕ) → has_column l.rest.words x ≡ true → (x < l.size) × (has_column l.self.words x ≡ false))
    × ((x : ℕ) → x < l.x → has_column l.self.words x ≡ false → has_column l.rest.words x ≡ true)
