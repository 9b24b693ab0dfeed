-- Sets of rows and columns, from their rows and their columns.
use Rattle.std.proofs.Common.{◌≡◌, ◌<◌, ◌↔◌, ℕ, Bool, true, false, not, IsTrue, refl}
use Rattle.std.proofs.lemmas.Bool.{true≢false}
use Rattle.cmr_base.specs.declared.line.Line.{Line}
use Rattle.cmr_base.specs.declared.line.Line.TheVariants.{Row, Column}
use Rattle.cmr_base.specs.declared.line_mask.LineMask.{LineMask}
use Rattle.cmr_base.specs.BitSets.{Bits}
use Rattle.cmr_base.specs.ColumnSets.{has_column, HasCommon}
use Rattle.cmr_base.specs.LineMasks.{as_set}
use Rattle.cmr_base.specs.Seeds.{IsLine}

-- a fact of each row and of each column is a fact of each line
pub each_line : (P : Line → Type 0) → ((row : ℕ) → P (Row row)) → ((column : ℕ) → P (Column column)) → (x : Line) → P x
each_line P rows columns (Row row) = rows row
each_line P rows columns (Column column) = columns column

other_side : (s t : Bool) → (t ≡ true → s ≡ false) → (s ≡ false → t ≡ true) → t ≡ not s
other_side true true only all = absurd (true≢false (only refl))
other_side true false only all = refl
other_side false true only all = refl
other_side false false only all = all refl

-- the other numbers below the size
abbrev pub AreOthers : Bits → Bits → Type 0
AreOthers set rest = ((x : ℕ) → has_column rest.words x ≡ true → (x < set.size) × (has_column set.words x ≡ false)) × ((x : ℕ) → x < set.size → has_column set.words x ≡ false → has_column rest.words x ≡ true)

pub other_lines : (mask rest : LineMask) → AreOthers mask.rows rest.rows → AreOthers mask.columns rest.columns → (x : Line)
    → IsLine mask.rows.size mask.columns.size x → as_set rest x ≡ not (as_set mask x)
other_lines mask rest rows columns = each_line (λ x. IsLine mask.rows.size mask.columns.size x → as_set rest x ≡ not (as_set mask x))
    (λ r l. other_side (has_column mask.rows.words r) (has_column rest.rows.words r) (λ e. (rows.0 r e).1) (rows.1 r l))
    (λ c l. other_side (has_column mask.columns.words c) (has_column rest.columns.words c) (λ e. (columns.0 c e).1) (columns.1 c l))

pub empty_by_columns : (mask : LineMask) (t : Bool) → ((row : ℕ) → has_column mask.rows.words row ≡ false) → IsTrue t ↔ ((column : ℕ) → has_column mask.columns.words column ≡ false)
    → IsTrue t ↔ ((x : Line) → as_set mask x ≡ false)
empty_by_columns mask t rows columns = (
  (λ e. each_line (λ x. as_set mask x ≡ false) rows (columns.0 e)),
  (λ none. columns.1 (λ column. none (Column column))),
)

pub meets_by_columns : (one two : LineMask) (t : Bool) → ¬ (HasCommon one.rows.words two.rows.words) → IsTrue t ↔ HasCommon one.columns.words two.columns.words
    → IsTrue t ↔ ((x : Line) × (as_set one x ≡ true) × (as_set two x ≡ true))
meets_by_columns one two t apart columns = (
  (λ e. let common = columns.0 e in (Column common.0, common.1, common.2)),
  (λ (x, a, b). each_line (λ x. as_set one x ≡ true → as_set two x ≡ true → IsTrue t) (λ row a b. absurd (apart (row, a, b))) (λ column a b. columns.1 (column, a, b)) x a b),
)
