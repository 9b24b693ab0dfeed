use Rattle.std.proofs.Common.{◌≡◌, ◌≢◌, ◌<◌, ◌*◌, ℕ, true}
use Rattle.cmr_base.specs.ColumnSets.{has_column}
use Rattle.camion_sign.proofs.row_signs.signs_agree.Given as goal

abbrev pub invariant-loop-chunk : goal.invariant-loop-chunk
invariant-loop-chunk l = record {
  equal : l.opposite ≡ 0 → (x : ℕ) → x < 64 * l.chunk → has_column l.support x ≡ true → has_column l.other x ≡ true → has_column l.minus x ≡ has_column l.other_minus x;
  opposite : l.equal ≡ 0 → (x : ℕ) → x < 64 * l.chunk → has_column l.support x ≡ true → has_column l.other x ≡ true → has_column l.minus x ≢ has_column l.other_minus x;
}
