-- Runs of nonzeros in consecutive lines.
use Rattle.std.specs.Prelude.{◌≡◌, ◌<◌, ◌≤◌, ◌+◌, ℕ, ℤ, pos, List, length, slice_index_or}
use Rattle.sparse_matrix.specs.declared.nonzero.Nonzero.{Nonzero}

abbrev pub nonzero_at : List Nonzero → ℕ → Nonzero
nonzero_at run k = slice_index_or run k (record { line = 0; value = pos 0 })

-- the least line of the nonzeros
pub record IsFirstLine (run : List Nonzero) (first : ℕ) : Type 0 where
  pub place : ℕ
  pub inside : place < length run
  pub there : (nonzero_at run place).line ≡ first
  pub least : (k : ℕ) → k < length run → first ≤ (nonzero_at run k).line

-- in lines from the first on of which there are as many as nonzeros
abbrev pub IsCountedFrom : ℕ → ℤ → List Nonzero → ℕ → Type 0
IsCountedFrom first value run k = ((nonzero_at run k).value ≡ value) × ((nonzero_at run k).line < first + length run)

abbrev pub AreCountedFrom : ℕ → ℤ → List Nonzero → Type 0
AreCountedFrom first value run = (k : ℕ) → k < length run → IsCountedFrom first value run k
