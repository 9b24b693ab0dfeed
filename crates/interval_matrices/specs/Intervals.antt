-- Matrices whose columns, or rows, have consecutive nonzeros of one sign.
use Rattle.std.specs.Prelude.{◌≡◌, ◌≢◌, ◌<◌, ◌⊎◌, ℕ, ℤ, pos}
use Rattle.cmr_base.specs.Matrix.{Matrix, entry}

-- the nonzeros are consecutive, and equal
pub record IsInterval (f : ℕ → ℤ) : Type 0 where
  pub consecutive : (first middle last : ℕ) → first < middle → middle < last → f first ≢ pos 0 → f last ≢ pos 0 → f middle ≢ pos 0
  pub equal : (one other : ℕ) → f one ≢ pos 0 → f other ≢ pos 0 → f one ≡ f other

abbrev pub HasIntervalColumns : Matrix → Type 0
HasIntervalColumns m = (column : ℕ) → IsInterval (λ row. entry m row column)

abbrev pub HasIntervalRows : Matrix → Type 0
HasIntervalRows m = (row : ℕ) → IsInterval (entry m row)

abbrev pub IsIntervalMatrix : Matrix → Type 0
IsIntervalMatrix m = HasIntervalColumns m ⊎ HasIntervalRows m
