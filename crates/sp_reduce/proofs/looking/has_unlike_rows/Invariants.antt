use Rattle.std.proofs.Common.{◌≡◌, ◌<◌, ℕ, length, get_or}
use Rattle.cmr_base.specs.Matrix.{entry}
use Rattle.cmr_base.specs.LineSets.{first_lines}
use Rattle.cmr_base.specs.Reductions.{nonzeros_at}
use Rattle.sp_reduce.specs.RowDigests.{digest_at}
use Rattle.sp_reduce.proofs.looking.has_unlike_rows.Given as goal

-- the rows so far have two nonzeros or more, and these are their digests
abbrev pub invariant-rows : goal.invariant-rows
invariant-rows l = record {
  long : length l.digests.items ≡ l.row;
  digests : (k : ℕ) → k < l.row → get_or l.digests.items k 0 ≡ digest_at l.matrix k;
  many : (k : ℕ) → k < l.row → 1 < nonzeros_at (first_lines l.matrix.width) (entry l.matrix k);
}
