use Rattle.std.specs.Prelude.{◌≡◌, ◌++◌, ℕ, pos, List, length, map, slice_index_or}
use Rattle.cmr_base.specs.Matrix.{Matrix, height}
use Rattle.ghouila.specs.declared.by_pivots.MarkedSigning.{MarkedSigning}
use Rattle.ghouila.specs.declared.by_pivots.MarkedSigning.TheVariants.{Signed, Violated}
use Rattle.ghouila.specs.declared.by_pivots.Pivot.{Pivot}
use Rattle.ghouila.specs.declared.by_pivots.SigningOrViolator.{SigningOrViolator}
use Rattle.ghouila.specs.declared.by_pivots.SigningOrViolator.TheVariants as signings
use Rattle.ghouila.specs.Found.{SignsRows, MarksViolator, marked}
use Rattle.ghouila.specs.SignRuns.{SignsBySteps, ViolatesBySteps}

-- the outcome for these rows is right
abbrev pub IsOutcome : Matrix → List ℕ → MarkedSigning → Type 0
IsOutcome m rows (Signed s) = SignsRows m rows s.signs.items s.sums.items
IsOutcome m rows (Violated v) = MarksViolator m rows v.rows.items v.columns.items v.odd.items

-- the run on these rows makes these steps and ends with this outcome
abbrev pub EndsRun : Matrix → List ℕ → List Pivot → MarkedSigning → Type 0
EndsRun m rows steps (Signed s) = SignsBySteps m rows steps (λ row. slice_index_or s.signs.items row (pos 0))
EndsRun m rows steps (Violated v) = ViolatesBySteps m rows steps (marked v.rows.items) (marked v.columns.items)

-- the run appends its steps to a list
abbrev pub AddsRun : Matrix → List ℕ → List Pivot → List Pivot → MarkedSigning → Type 0
AddsRun m rows before after outcome = (steps : List Pivot) × (after ≡ before ++ steps) × EndsRun m rows steps outcome

-- the signs of these rows, or the marked lines
abbrev pub NamesLines : List ℕ → MarkedSigning → SigningOrViolator → Type 0
NamesLines rows (Signed s) (signings.Signed signs) = signs ≡ map (λ row. slice_index_or s.signs.items row (pos 0)) rows
NamesLines rows (Signed s) (signings.Violated lines) = ⊥
NamesLines rows (Violated v) (signings.Signed signs) = ⊥
NamesLines rows (Violated v) (signings.Violated lines) = (lines.rows ≡ marked v.rows.items) × (lines.columns ≡ marked v.columns.items)

-- a sign, or a mark, for each line of the matrix
abbrev pub HasMarkForEachLine : Matrix → MarkedSigning → Type 0
HasMarkForEachLine m (Signed s) = length s.signs.items ≡ height m
HasMarkForEachLine m (Violated v) = (length v.rows.items ≡ height m) × (length v.columns.items ≡ m.width)
