-- Matrices that signs split, and cycles that do not cancel.
use Rattle.std.specs.Prelude.{ℕ, ℤ, List}
use Rattle.cmr_base.specs.Matrix.{Matrix, entry, IsTernary}
use Rattle.cmr_base.specs.Signing.{IsTotallyUnimodular}
use Rattle.cmr_base.specs.Violator.{IsViolator, HasNoViolator}
use Rattle.split_laws.specs.SignSplits.{CancelsColumns, IsUncancelledCycle}

-- a matrix that signs of its rows split is totally unimodular
abbrev pub SplitsAreUnimodular : Type 0
SplitsAreUnimodular = (m : Matrix) (sign : ℕ → ℤ) → IsTernary m → CancelsColumns (entry m) sign → IsTotallyUnimodular m × HasNoViolator m

-- a matrix that signs of its columns split is totally unimodular
abbrev pub ColumnSplitsAreUnimodular : Type 0
ColumnSplitsAreUnimodular = (m : Matrix) (sign : ℕ → ℤ) → IsTernary m → CancelsColumns (λ column row. entry m row column) sign → IsTotallyUnimodular m × HasNoViolator m

abbrev pub UncancelledCyclesAreViolators : Type 0
UncancelledCyclesAreViolators = (M : ℕ → ℕ → ℤ) (sign : ℕ → ℤ) (rows columns : List ℕ) → IsUncancelledCycle M sign rows columns → IsViolator M rows columns
