-- Series-parallel reductions: reducible lines are removed, one after another.
use Rattle.std.specs.Prelude.{◌≡◌, ◌+◌, ◌==◌, ◌&&◌, not, if◌then◌else◌, Bool, ℕ, zero, suc, ℤ, neg_ℤ, List, [], ◌∷◌, ◌++◌, map, find, count_by, Contains, Option, Some, None, IsSome, option_map}
use Rattle.std.specs.List.{list_all}
use Rattle.std.specs.Option.{option_or}
use Rattle.std.specs.Ordering.{int_eq}
use Rattle.cmr_base.specs.declared.line.Line.{Line}
use Rattle.cmr_base.specs.declared.line.Line.TheVariants.{Row, Column}
use Rattle.cmr_base.specs.declared.line.Reason.{Reason}
use Rattle.cmr_base.specs.declared.line.Reason.TheVariants.{Zero, Unit as One, Copy, Negative}
use Rattle.cmr_base.specs.declared.line.Step.{Step}
use Rattle.cmr_base.specs.Matrix.{Matrix, height, entry, is_nonzero}
use Rattle.cmr_base.specs.LineSets.{first_lines, without}

-- the number of nonzeros at these places
abbrev pub nonzeros_at : List ℕ → (ℕ → ℤ) → ℕ
nonzeros_at places f = count_by (λ k. is_nonzero (f k)) places

-- equal at each of these places
abbrev pub equal_at : List ℕ → (ℕ → ℤ) → (ℕ → ℤ) → Bool
equal_at places f g = list_all (λ k. int_eq (f k) (g k)) places

-- the first line other than `line` that equals f on the crossing lines
abbrev pub first_equal : (ℕ → ℕ → ℤ) → List ℕ → List ℕ → ℕ → (ℕ → ℤ) → Option ℕ
first_equal M lines crossing line f = find (λ other. not (other == line) && equal_at crossing (M other) f) lines

-- The first reason for which a line is reducible among the remaining lines of its kind and the lines that cross them, or `None`.
-- `M` returns the entry of a line of its kind and a crossing line; `kind` and `cross` name these lines.
abbrev pub first_reason : Bool → (ℕ → ℕ → ℤ) → (ℕ → Line) → (ℕ → Line) → List ℕ → List ℕ → ℕ → Option Reason
first_reason binary M kind cross lines crossing line =
    if nonzeros_at crossing (M line) == 0 then Some Zero
    else (if nonzeros_at crossing (M line) == 1 then option_map (λ other. One (cross other)) (find (λ other. is_nonzero (M line other)) crossing)
    else option_or (option_map (λ other. Copy (kind other)) (first_equal M lines crossing line (M line)))
    (if binary then None else option_map (λ other. Negative (kind other)) (first_equal M lines crossing line (λ k. neg_ℤ (M line k)))))

-- why a row or a column is reducible among the remaining rows and columns
abbrev pub line_reason : Bool → (ℕ → ℕ → ℤ) → List ℕ → List ℕ → Line → Option Reason
line_reason binary M rows columns (Row row) = first_reason binary M Row Column rows columns row
line_reason binary M rows columns (Column column) = first_reason binary (λ j i. M i j) Column Row columns rows column

-- the rows or the columns contain the line
abbrev pub HasLine : List ℕ → List ℕ → Line → Type 0
HasLine rows columns (Row row) = Contains rows row
HasLine rows columns (Column column) = Contains columns column

abbrev pub rows_without : List ℕ → Line → List ℕ
rows_without rows (Row row) = without rows row
rows_without rows (Column column) = rows

abbrev pub columns_without : List ℕ → Line → List ℕ
columns_without columns (Row row) = columns
columns_without columns (Column column) = without columns column

-- in this order each line is reducible when it is removed, and no line remains
abbrev pub IsFullRemoval : Bool → (ℕ → ℕ → ℤ) → List ℕ → List ℕ → List Line → Type 0
IsFullRemoval binary M rows columns [] = (rows ≡ []) × (columns ≡ [])
IsFullRemoval binary M rows columns (line ∷ lines) =
    HasLine rows columns line × IsSome (line_reason binary M rows columns line)
    × IsFullRemoval binary M (rows_without rows line) (columns_without columns line) lines

-- all these lines can be removed, in some order
abbrev pub IsSeriesParallelOn : Bool → (ℕ → ℕ → ℤ) → List ℕ → List ℕ → Type 0
IsSeriesParallelOn binary M rows columns = (lines : List Line) × IsFullRemoval binary M rows columns lines

-- all lines of the matrix can be removed, in some order
abbrev pub IsSeriesParallel : Bool → Matrix → Type 0
IsSeriesParallel binary m = IsSeriesParallelOn binary (entry m) (first_lines (height m)) (first_lines m.width)

-- the rows, and then the columns
abbrev pub lines_of : List ℕ → List ℕ → List Line
lines_of rows columns = map Row rows ++ map Column columns

-- the first reducible line of a list, with its reason
abbrev pub first_step : Bool → (ℕ → ℕ → ℤ) → List ℕ → List ℕ → List Line → Option Step
first_step binary M rows columns [] = None
first_step binary M rows columns (line ∷ lines) =
    option_or (option_map (λ reason. record { line = line; reason = reason }) (line_reason binary M rows columns line)) (first_step binary M rows columns lines)

-- steps, and the lines that remain after them
pub record Removal : Type 0 where
  pub steps : List Step
  pub rows : List ℕ
  pub columns : List ℕ

-- The given number of steps at most, in the stated order: the first reducible row is removed, or the first reducible column if no
-- row is reducible.
abbrev pub removal_on : Bool → (ℕ → ℕ → ℤ) → ℕ → List ℕ → List ℕ → Removal
removal_on binary M zero rows columns = record { steps = []; rows = rows; columns = columns }
removal_on binary M (suc n) rows columns = elim (first_step binary M rows columns (lines_of rows columns)) as (λ _. Removal) [
  | None ↦ record { steps = []; rows = rows; columns = columns }
  | Some step ↦
      let rest = removal_on binary M n (rows_without rows step.line) (columns_without columns step.line) in
      record { steps = step ∷ rest.steps; rows = rest.rows; columns = rest.columns }
]

-- the stated order from all lines of the matrix to its end; there are no more steps than lines
abbrev pub removal : Bool → Matrix → Removal
removal binary m = removal_on binary (entry m) (height m + m.width) (first_lines (height m)) (first_lines m.width)
