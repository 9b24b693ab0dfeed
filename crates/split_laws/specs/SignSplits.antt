-- Signs of the rows by which the nonzeros of each column cancel.
use Rattle.std.specs.Prelude.{◌≡◌, ◌≢◌, ◌<◌, ℕ, ℤ, pos, ◌+ℤ◌, ◌*ℤ◌, List}
use Rattle.std.specs.List.{AllByRecursion}
use Rattle.cmr_base.specs.Signing.{IsSign}
use Rattle.cmr_base.specs.Sums.{sum_over, IsEven, IsTwoModFour}

-- Any two nonzeros of a column cancel, each times the sign of its row. So no column has more than two nonzeros.
pub record CancelsColumns (M : ℕ → ℕ → ℤ) (sign : ℕ → ℤ) : Type 0 where
  pub signs : (row : ℕ) → IsSign (sign row)
  pub cancel : (row other column : ℕ) → row < other → M row column ≢ pos 0 → M other column ≢ pos 0
      → (sign row *ℤ M row column) +ℤ (sign other *ℤ M other column) ≡ pos 0

-- the sum of a column over the rows, each row times its sign
abbrev pub signed_column : (ℕ → ℕ → ℤ) → (ℕ → ℤ) → List ℕ → ℕ → ℤ
signed_column M sign rows column = sum_over rows (λ row. sign row *ℤ M row column)

-- The rows have even sums over the columns. Times the signs of the rows the columns have even sums, and these have the sum 2 modulo 4.
pub record IsUncancelledCycle (M : ℕ → ℕ → ℤ) (sign : ℕ → ℤ) (rows columns : List ℕ) : Type 0 where
  pub signs : (row : ℕ) → IsSign (sign row)
  pub even_rows : AllByRecursion (λ row. IsEven (sum_over columns (λ column. M row column))) rows
  pub even_columns : AllByRecursion (λ column. IsEven (signed_column M sign rows column)) columns
  pub two_mod_four : IsTwoModFour (sum_over columns (λ column. signed_column M sign rows column))
