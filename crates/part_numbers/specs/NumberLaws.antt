-- Lines of equal numbers, and connected parts.
use Rattle.std.specs.Prelude.{◌≡◌, ◌<◌, ◌↔◌, ℕ, ℤ, Bool, List, Contains}
use Rattle.cmr_base.specs.Matrix.{Matrix, entry, height}
use Rattle.cmr_base.specs.LineSets.{first_lines, submatrix}
use Rattle.cmr_base.specs.Separations.{listed}
use Rattle.cmr_base.specs.Violator.{HasNoViolator}
use Rattle.cmr_base.specs.Components.{ArePartsOf, IsComponent}
use Rattle.ghouila.specs.Found.{marked}
use Rattle.part_numbers.specs.ConnectedParts.{IsConnectedPart}
use Rattle.part_numbers.specs.PartNumbering.{ArePartsBy, lines_of_part, parts_of}

abbrev pub NumberedLinesAreParts : Type 0
NumberedLinesAreParts = (M : ℕ → ℕ → ℤ) (row_marks column_marks : List Bool) (of_rows of_columns : List ℕ) (count : ℕ) → ArePartsBy M row_marks column_marks of_rows of_columns count
    → ArePartsOf M (marked row_marks) (marked column_marks) (parts_of row_marks column_marks of_rows of_columns count)

-- the marked lines have no violator if and only if no part has one
abbrev pub NumberedPartsDecide : Type 0
NumberedPartsDecide = (m : Matrix) (row_marks column_marks : List Bool) (of_rows of_columns : List ℕ) (count : ℕ) → ArePartsBy (entry m) row_marks column_marks of_rows of_columns count
    → HasNoViolator (submatrix m (marked row_marks) (marked column_marks))
    ↔ ((part : ℕ) → part < count → HasNoViolator (submatrix m (lines_of_part row_marks of_rows part) (lines_of_part column_marks of_columns part)))

-- two connected parts of one core with a common row are equal
abbrev pub ConnectedPartsAreOne : Type 0
ConnectedPartsAreOne = (M : ℕ → ℕ → ℤ) (core_rows core_columns rows columns R C : List ℕ) (row : ℕ) → IsConnectedPart M core_rows core_columns rows columns
    → IsConnectedPart M core_rows core_columns R C → Contains rows row → Contains R row → (rows ≡ R) × (columns ≡ C)

-- if all lines of a matrix are in the core, a connected part is a component
abbrev pub ConnectedPartsAreComponents : Type 0
ConnectedPartsAreComponents = (m : Matrix) (rows columns : List ℕ) → IsConnectedPart (entry m) (first_lines (height m)) (first_lines m.width) rows columns
    → IsComponent (height m) m.width (entry m) (listed rows columns)
