-- Rows whose signs agree in the columns in which both are not 0, up to the sign of one of the rows.
use Rattle.std.specs.Prelude.{◌≡◌, ◌≢◌, ◌<◌, ◌⊎◌, ℕ, true, List, pos}
use Rattle.cmr_base.specs.Matrix.{Matrix, entry}
use Rattle.cmr_base.specs.ColumnSets.{has_column}

-- the rows have the same entry in each column in which both are not 0, or in none of these columns
abbrev pub AgreeInSigns : Matrix → ℕ → ℕ → Type 0
AgreeInSigns m r t = ((x : ℕ) → entry m r x ≢ pos 0 → entry m t x ≢ pos 0 → entry m r x ≡ entry m t x) ⊎ ((x : ℕ) → entry m r x ≢ pos 0 → entry m t x ≢ pos 0 → entry m r x ≢ entry m t x)

abbrev pub AgreesBefore : Matrix → ℕ → Type 0
AgreesBefore m t = (r : ℕ) → r < t → AgreeInSigns m r t

-- the same for two rows given by their nonzeros and their entries -1, with equal entries
abbrev pub HaveEqualSigns : (support minus other other_minus : List ℕ) → Type 0
HaveEqualSigns support minus other other_minus = (x : ℕ) → has_column support x ≡ true → has_column other x ≡ true → has_column minus x ≡ has_column other_minus x

-- and with opposite entries
abbrev pub HaveOppositeSigns : (support minus other other_minus : List ℕ) → Type 0
HaveOppositeSigns support minus other other_minus = (x : ℕ) → has_column support x ≡ true → has_column other x ≡ true → has_column minus x ≢ has_column other_minus x
