-- Lists of rows without common rows.
use Rattle.std.specs.Prelude.{◌≡◌, ◌<◌, ℕ, List, [], length, slice_index_or}
use Rattle.cmr_base.specs.Members.{IsIn}

-- no row is in two of the lists
abbrev pub AreDisjoint : List (List ℕ) → Type 0
AreDisjoint parts = (a b row : ℕ) → a < length parts → b < length parts → IsIn row (slice_index_or parts a []) → IsIn row (slice_index_or parts b []) → a ≡ b
