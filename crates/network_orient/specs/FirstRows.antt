-- The first rows of a matrix.
use Rattle.std.specs.Prelude.{◌<◌, ◌+◌, ℕ, List}
use Rattle.cmr_base.specs.CyclePlaces.{IsFaultAt}
use Rattle.cmr_base.specs.Matrix.{Matrix, entry}

-- no cycle place of a row before `row` has a cycle with the sum 2 modulo 4
abbrev pub HasNoFaultBefore : Matrix → ℕ → Type 0
HasNoFaultBefore m row = (t c d : ℕ) (path : List ℕ) → t < row → ¬ (IsFaultAt (entry m) t c d path)

-- the first row with a cycle whose sum is 2 modulo 4
pub record IsFirstFaultyRow (m : Matrix) (row : ℕ) : Type 0 where
  pub before : HasNoFaultBefore m row
  pub here : ¬ (HasNoFaultBefore m (row + 1))
