-- The columns in which a row of a matrix differs from a multiple of another row.
use Rattle.std.specs.Prelude.{◌*ℤ◌, not, ℕ, ℤ, Bool}
use Rattle.std.specs.Ordering.{int_eq}
use Rattle.cmr_base.specs.Matrix.{Matrix, entry}

abbrev pub differ : ℤ → ℤ → Bool
differ a b = not (int_eq a b)

abbrev pub differs_at : Matrix → (row : ℕ) → (factor : ℤ) → (model : ℕ) → ℕ → Bool
differs_at m row factor model column = differ (entry m row column) (factor *ℤ entry m model column)
