-- Columns that are read as the rows of the transposed matrix.
use Rattle.std.proofs.Common.{◌≡◌, ◌<◌, ◌∙◌, ℕ, ap, subst, sym, arith}
use Rattle.cmr_base.specs.Matrix.{Matrix, IsMatrix, entry, height, is_nonzero, transposed}
use Rattle.cmr_base.specs.Trees.{support}
use Rattle.cmr_base.proofs.Parts.{entry-transposed, height-transposed}

pub support-transposed : (m : Matrix) → IsMatrix m → (row column : ℕ) → support (transposed m) column row ≡ support m row column
support-transposed m is row column = ap is_nonzero (entry-transposed m row column is)

module _ (m n : Matrix) (e : n ≡ transposed m) where
  pub transposed_inside : (column : ℕ) → column < m.width → column < height n
  transposed_inside column l = subst (λ (k : Matrix). column < height k) (sym e) (let h = height-transposed m in omega arith)

  pub transposed_entry : (row column : ℕ) → IsMatrix m → entry n column row ≡ entry m row column
  transposed_entry row column is = ap (λ (k : Matrix). entry k column row) e ∙ entry-transposed m row column is

  pub transposed_support : (row column : ℕ) → IsMatrix m → support n column row ≡ support m row column
  transposed_support row column is = ap is_nonzero (transposed_entry row column is)

  pub transposed_row : (row : ℕ) → row < n.width → row < height m
  transposed_row row l = subst (λ (k : Matrix). row < k.width) e l
