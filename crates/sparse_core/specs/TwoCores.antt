-- Zero and unit lines are removed, one after another, until each remaining line has two nonzeros at remaining lines.
use Rattle.std.specs.Prelude.{◌≡◌, ◌<◌, ◌≤◌, ◌+◌, ℕ, ℤ, Bool, true, false, List, [], ◌∷◌, length, Contains, Some}
use Rattle.std.specs.List.{AllByRecursion}
use Rattle.cmr_base.specs.declared.line.Line.{Line}
use Rattle.cmr_base.specs.declared.line.Line.TheVariants.{Row, Column}
use Rattle.cmr_base.specs.declared.line.Reason.{Reason}
use Rattle.cmr_base.specs.declared.line.Reason.TheVariants.{Zero, Unit as One, Copy, Negative}
use Rattle.cmr_base.specs.declared.line.Step.{Step}
use Rattle.cmr_base.specs.Matrix.{entry}
use Rattle.cmr_base.specs.LineSets.{first_lines}
use Rattle.cmr_base.specs.Reductions.{line_reason, HasLine, rows_without, columns_without}
use Rattle.ghouila.specs.Found.{marked}
use Rattle.sparse_matrix.specs.SparseRows.{SparseRows, matrix_of_runs}
use Rattle.sparse_core.specs.declared.removal.TwoCore.{TwoCore}
use Rattle.sparse_core.specs.Nonzeros.{HasTwo}

-- each of these rows has two nonzeros in these columns, and each of the columns in the rows
pub record HaveTwo (M : ℕ → ℕ → ℤ) (rows columns : List ℕ) : Type 0 where
  pub rows_have : (row : ℕ) → Contains rows row → HasTwo (M row) columns
  pub columns_have : (column : ℕ) → Contains columns column → HasTwo (λ row. M row column) rows

-- the greatest set of lines in which each line has two nonzeros
pub record IsTwoCore (M : ℕ → ℕ → ℤ) (rows columns : List ℕ) : Type 0 where
  pub two : HaveTwo M rows columns
  pub greatest_rows : (R C : List ℕ) → HaveTwo M R C → (row : ℕ) → Contains R row → Contains rows row
  pub greatest_columns : (R C : List ℕ) → HaveTwo M R C → (column : ℕ) → Contains C column → Contains columns column

-- a zero line or a unit line
abbrev pub IsThinReason : Reason → Type 0
IsThinReason Zero = Unit {0}
IsThinReason (One line) = Unit {0}
IsThinReason (Copy line) = ⊥
IsThinReason (Negative line) = ⊥

-- the line remains, and is removed as a zero line or as a unit line
pub record IsThinStep (M : ℕ → ℕ → ℤ) (rows columns : List ℕ) (step : Step) : Type 0 where
  pub remains : HasLine rows columns step.line
  pub reason : (binary : Bool) → line_reason binary M rows columns step.line ≡ Some step.reason
  pub thin : IsThinReason step.reason

-- each step in turn is such a removal, and these rows and columns remain at the end
abbrev pub IsThinRemoval : (ℕ → ℕ → ℤ) → List ℕ → List ℕ → List Step → List ℕ → List ℕ → Type 0
IsThinRemoval M rows columns [] R C = (R ≡ rows) × (C ≡ columns)
IsThinRemoval M rows columns (step ∷ steps) R C =
    IsThinStep M rows columns step × IsThinRemoval M (rows_without rows step.line) (columns_without columns step.line) steps R C

-- a line of the matrix
abbrev pub IsSparseLine : SparseRows → Line → Type 0
IsSparseLine m (Row row) = row < length m.runs
IsSparseLine m (Column column) = column < m.width

-- the number of lines that remain
abbrev pub remaining : TwoCore → ℕ
remaining core = length (marked core.rows.items) + length (marked core.columns.items)

-- the marked lines are those that the steps leave of all lines
pub record HasRemoved (m : SparseRows) (core : TwoCore) : Type 0 where
  pub rows : length core.rows.items ≡ length m.runs
  pub columns : length core.columns.items ≡ m.width
  pub inside : AllByRecursion (λ step. IsSparseLine m step.line) core.steps.items
  pub removal : IsThinRemoval (entry (matrix_of_runs m)) (first_lines (length m.runs)) (first_lines m.width) core.steps.items (marked core.rows.items) (marked core.columns.items)

-- a row, or a column, has two nonzeros if it remains
abbrev pub RowHasTwo : SparseRows → TwoCore → ℕ → Type 0
RowHasTwo m core row = Contains (marked core.rows.items) row → HasTwo (entry (matrix_of_runs m) row) (marked core.columns.items)

abbrev pub ColumnHasTwo : SparseRows → TwoCore → ℕ → Type 0
ColumnHasTwo m core column = Contains (marked core.columns.items) column → HasTwo (λ row. entry (matrix_of_runs m) row column) (marked core.rows.items)

pub record LinesHaveTwo (m : SparseRows) (core : TwoCore) : Type 0 where
  pub rows_have : (row : ℕ) → row < length m.runs → RowHasTwo m core row
  pub columns_have : (column : ℕ) → column < m.width → ColumnHasTwo m core column

-- a line was removed, or nothing changed and `facts` hold
pub record IsTested (m : SparseRows) (before after : TwoCore) (removed : Bool) (facts : Type 0) : Type 0 where
  pub stands : HasRemoved m after
  pub fewer : removed ≡ true → remaining after < remaining before
  pub steps : removed ≡ true → length after.steps.items ≡ length before.steps.items + 1
  pub same : removed ≡ false → after ≡ before
  pub hold : removed ≡ false → facts

-- each further step has removed a line
pub record IsLater (m : SparseRows) (before after : TwoCore) : Type 0 where
  pub stands : HasRemoved m after
  pub at_most : remaining after ≤ remaining before
  pub steps : remaining after + length after.steps.items ≤ remaining before + length before.steps.items

-- each line was tested once: `more` says whether a line was removed, and if not, `facts` hold
pub record IsScanned (m : SparseRows) (before after : TwoCore) (more : Bool) (facts : Type 0) : Type 0 where
  pub stands : HasRemoved m after
  pub at_most : remaining after ≤ remaining before
  pub fewer : more ≡ true → remaining after < remaining before
  pub same : more ≡ false → after ≡ before
  pub hold : more ≡ false → facts
