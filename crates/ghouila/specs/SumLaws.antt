-- Lines that may be removed, separations and sums: conditions for a matrix without violators.
use Rattle.std.specs.Prelude.{◌≡◌, ◌≢◌, ◌<◌, ◌↔◌, ◌⊎◌, ℕ, pos, negsuc, Bool, List, [], ◌∷◌, length, IsSome}
use Rattle.cmr_base.specs.declared.line.Line.{Line}
use Rattle.cmr_base.specs.declared.line.Line.TheVariants.{Row, Column}
use Rattle.cmr_base.specs.declared.line_set.LineSet.{LineSet}
use Rattle.cmr_base.specs.declared.separation.Connector.{Connector}
use Rattle.cmr_base.specs.declared.separation.Form.{Form}
use Rattle.cmr_base.specs.Matrix.{Matrix, entry, IsTernary}
use Rattle.cmr_base.specs.LineSets.{submatrix}
use Rattle.cmr_base.specs.Violator.{IsViolator, HasNoViolator}
use Rattle.cmr_base.specs.Reductions.{line_reason, rows_without, columns_without}
use Rattle.cmr_base.specs.Separations.{Lines, rows_in, columns_in, child_one, child_two, IsTwoSeparation, IsThreeSeparation, first_is_flat, second_is_flat, connector_lines, corner_product, HaveCornerSign}
use Rattle.cmr_base.specs.Components.{AreComponents, ArePartsOf, part_at}
use Rattle.cmr_base.specs.MatrixSums.{one_sum, HaveTwoSum, two_sum, HaveThreeSum, three_sum}

-- a submatrix has no violator if and only if it has none after a reducible line is removed
abbrev pub ReductionsKeepViolators : Type 0
ReductionsKeepViolators = (m : Matrix) (rows columns : List ℕ) (line : Line) (binary : Bool) → IsTernary m → IsSome (line_reason binary (entry m) rows columns line)
    → HasNoViolator (submatrix m rows columns) ↔ HasNoViolator (submatrix m (rows_without rows line) (columns_without columns line))

-- a matrix has no violator if and only if none of its connected parts has one
abbrev pub ComponentsDecide : Type 0
ComponentsDecide = (m : Matrix) (parts : List LineSet) → AreComponents m parts
    → HasNoViolator m ↔ ((a : ℕ) → a < length parts → HasNoViolator (submatrix m (part_at parts a).rows (part_at parts a).columns))

-- the same law for any sets of lines, if no nonzero is in lines of two of them
abbrev pub PartsDecide : Type 0
PartsDecide = (m : Matrix) (rows columns : List ℕ) (parts : List LineSet) → ArePartsOf (entry m) rows columns parts
    → HasNoViolator (submatrix m rows columns) ↔ ((a : ℕ) → a < length parts → HasNoViolator (submatrix m (part_at parts a).rows (part_at parts a).columns))

-- the submatrix on the lines of a set
abbrev pub on_lines : Matrix → List ℕ → List ℕ → Lines → Matrix
on_lines m rows columns lines = submatrix m (rows_in lines rows) (columns_in lines columns)

-- the submatrix has no violator if and only if neither child has one
abbrev pub ChildrenDecide : Matrix → List ℕ → List ℕ → Lines → (first second : List Line) → Type 0
ChildrenDecide m rows columns side first second =
    HasNoViolator (submatrix m rows columns) ↔ (HasNoViolator (on_lines m rows columns (child_one side second)) × HasNoViolator (on_lines m rows columns (child_two side first)))

-- a two-separation: the children are side one with row i, and side two with column j
abbrev pub TwoSeparationsDecide : Type 0
TwoSeparationsDecide = (m : Matrix) (rows columns : List ℕ) (side : Lines) (i j : ℕ) → IsTernary m → IsTwoSeparation (entry m) rows columns side i j
    → ChildrenDecide m rows columns side (Column j ∷ []) (Row i ∷ [])

-- a three-separation, with the corner product 1 if its form has one: each child is a side with the other side's connector
abbrev pub ThreeSeparationsDecide : Type 0
ThreeSeparationsDecide = (m : Matrix) (rows columns : List ℕ) (side : Lines) (form : Form) (first second : Connector) → IsTernary m → IsThreeSeparation (entry m) rows columns side form first second
    → HaveCornerSign (entry m) form first second
    → ChildrenDecide m rows columns side (connector_lines (first_is_flat form) first) (connector_lines (second_is_flat form) second)

-- the four corners have the product 1, or they are a violator and have the product -1
abbrev pub CornersDecide : Type 0
CornersDecide = (m : Matrix) (first second : Connector) → IsTernary m → entry m first.row first.column ≢ pos 0 → entry m first.row second.column ≢ pos 0 → entry m second.row first.column ≢ pos 0 → entry m second.row second.column ≢ pos 0
    → (corner_product (entry m) first second ≡ pos 1)
    ⊎ ((corner_product (entry m) first second ≡ negsuc 0) × IsViolator (entry m) (first.row ∷ second.row ∷ []) (first.column ∷ second.column ∷ []))

-- the sums of two matrices without violators have none
abbrev pub OneSumsHaveNone : Type 0
OneSumsHaveNone = (first second : Matrix) → HasNoViolator first → HasNoViolator second → HasNoViolator (one_sum first second)

abbrev pub TwoSumsHaveNone : Type 0
TwoSumsHaveNone = (first second : Matrix) → HaveTwoSum first second → HasNoViolator first → HasNoViolator second → HasNoViolator (two_sum first second)

abbrev pub ThreeSumsHaveNone : Type 0
ThreeSumsHaveNone = (form : Form) (first second : Matrix) → HaveThreeSum form first second → HasNoViolator first → HasNoViolator second → HasNoViolator (three_sum form first second)
