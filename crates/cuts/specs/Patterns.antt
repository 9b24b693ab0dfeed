-- Patterns of the lines outside a set, and bounds on the number of these lines in class 0 and one other class.
use Rattle.std.specs.Prelude.{◌≡◌, ◌≢◌, ◌<◌, ◌≤◌, ℕ, Bool, not, nat_eq, ◌||◌, ◌&&◌, List, length, slice_index_or, count_by, take}
use Rattle.cmr_base.specs.BitSets.{Bits}
use Rattle.cmr_base.specs.ColumnSets.{has_column}
use Rattle.cmr_base.specs.Seeds.{count}
use Rattle.cuts.specs.declared.patterns.Runs.{Runs}

-- at most `most` lines are outside the set and have class 0 or any one other class
abbrev pub AreAtMostBeside : (own : Bits) → (classes : List ℕ) → (most : ℕ) → Type 0
AreAtMostBeside own classes most = (given : ℕ) → count (λ a. not (has_column own.words a) && (nat_eq (slice_index_or classes a 0) 0 || nat_eq (slice_index_or classes a 0) given)) own.size ≤ most

-- the list has the classes of these lines, in some order
abbrev pub AreOpen : List ℕ → List ℕ → ℕ → List ℕ → Type 0
AreOpen own classes size listed = (test : ℕ → Bool) → count_by test listed ≡ count (λ a. not (has_column own a) && test (slice_index_or classes a 0)) size

-- at most `most` numbers are 0 or equal to any one number
abbrev pub AreAtMostListed : List ℕ → ℕ → Type 0
AreAtMostListed numbers most = (given : ℕ) → count_by (λ class. nat_eq class 0 || nat_eq class given) numbers ≤ most

pub record AreShort (runs : Runs) (most : ℕ) : Type 0 where
  pub zeros : runs.zeros ≤ most
  pub longest : runs.longest ≤ most
  pub run : runs.run ≤ most

-- bounds for the first `place` numbers of an increasing list
pub record AreRunsCounted (sorted : List ℕ) (place : ℕ) (runs : Runs) : Type 0 where
  pub zeros : count_by (λ class. nat_eq class 0) (take place sorted) ≤ runs.zeros
  pub longest : (given : ℕ) → given ≢ 0 → count_by (λ class. nat_eq class given) (take place sorted) ≤ runs.longest
  pub run : runs.last ≢ 0 → count_by (λ class. nat_eq class runs.last) (take place sorted) ≤ runs.run
  pub above : (k : ℕ) → place ≤ k → k < length sorted → runs.last ≤ slice_index_or sorted k 0
  pub below : (k : ℕ) → k < place → slice_index_or sorted k 0 ≤ runs.last
  pub short : AreShort runs place
