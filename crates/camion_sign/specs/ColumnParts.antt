-- Labels of columns that earlier rows connect.
use Rattle.std.specs.Prelude.{◌≡◌, ◌≢◌, ◌<◌, ℕ, pos, List, length, slice_index}
use Rattle.cmr_base.specs.Matrix.{Matrix, entry, IsMatrix}
use Rattle.camion_sign.specs.declared.column_parts.ColumnParts.{ColumnParts}

-- the columns that a row before t meets have one label
abbrev pub AreJoinedBefore : Matrix → ℕ → List ℕ → Type 0
AreJoinedBefore m t labels = (r x y : ℕ) → r < t → entry m r x ≢ pos 0 → entry m r y ≢ pos 0 → slice_index labels x ≡ slice_index labels y

pub record HasPartsBefore (m : Matrix) (t : ℕ) (parts : ColumnParts) : Type 0 where
  pub matrix : IsMatrix m
  pub one_each : length parts.labels.items ≡ m.width
  pub joined : AreJoinedBefore m t parts.labels.items
