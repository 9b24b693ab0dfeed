use Rattle.std.proofs.Common.{◌≡◌, ◌<◌, ◌++◌, ◌-◌, ◌/◌, ◌^◌, ℕ, length, get_or}
use Rattle.cmr_base.specs.LineSets.{set_numbered}
use Rattle.parity.specs.Equations.{number_of}
use Rattle.parity.proofs.wide.columns_in.Given as goal

-- the columns so far and the remaining columns are all columns, and the columns so far are below the next one
abbrev pub invariant-loop-column : goal.invariant-loop-column
invariant-loop-column l = record {
  all : l.columns ++ set_numbered (l.count - l.column) l.column (number_of l.words / 2 ^ l.column) ≡ set_numbered l.count 0 (number_of l.words);
  below : (k : ℕ) → k < length l.columns → get_or l.columns k 0 < l.column;
}
