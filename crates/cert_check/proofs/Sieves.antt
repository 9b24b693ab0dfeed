-- Lines that pass a test, and lines in a set.
use Rattle.std.proofs.Common.{◌≡◌, ℕ, Bool, true, List, filter, Contains}
use Rattle.cmr_base.proofs.RowLists.{in_filter}
use Rattle.cmr_base.proofs.ListsWithout.{in_from_contains, contains_from_in}

pub passed : (test : ℕ → Bool) (xs : List ℕ) (x : ℕ) → Contains (filter test xs) x → Contains xs x × (test x ≡ true)
passed test xs x h = let w = in_filter test x xs (in_from_contains (filter test xs) x h) in (contains_from_in xs x w.0, w.1)
