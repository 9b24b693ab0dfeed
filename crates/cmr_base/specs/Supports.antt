-- The positions of the nonzeros, and lines multiplied by -1.
use Rattle.std.specs.Prelude.{◌≡◌, ◌↔◌, ◌*ℤ◌, ℕ, ℤ, pos}
use Rattle.cmr_base.specs.Matrix.{Matrix, height, entry}
use Rattle.cmr_base.specs.Signing.{IsSign}

-- the same size, and zeros at the same positions
pub record HaveOneSupport (m n : Matrix) : Type 0 where
  pub height_same : height m ≡ height n
  pub width_same : m.width ≡ n.width
  pub zeros_same : (row column : ℕ) → (entry m row column ≡ pos 0) ↔ (entry n row column ≡ pos 0)

-- the second matrix is the first with rows and columns multiplied by signs
pub record AgreeUpToSigns (M N : ℕ → ℕ → ℤ) : Type 0 where
  pub row_sign : ℕ → ℤ
  pub column_sign : ℕ → ℤ
  pub row_signs : (row : ℕ) → IsSign (row_sign row)
  pub column_signs : (column : ℕ) → IsSign (column_sign column)
  pub entries : (row column : ℕ) → N row column ≡ row_sign row *ℤ (column_sign column *ℤ M row column)
