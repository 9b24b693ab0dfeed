-- First cuts: a cut is a three-separation of the binary matroid of the matrix, both of whose blocks have rank one. Its connectors need not be
-- lines of the matrix.
use Rattle.std.specs.Prelude.{◌≡◌, ◌≢◌, ℕ, pos, List, [], ◌∷◌}
use Rattle.std.specs.List.{AllByRecursion}
use Rattle.cmr_base.specs.declared.line.Line.{Line}
use Rattle.cmr_base.specs.declared.line.Line.TheVariants.{Row, Column}
use Rattle.cmr_base.specs.LineSets.{IsColumnSet, IsRowSet}
use Rattle.cmr_base.specs.Matrix.{Matrix, height, entry}
use Rattle.cmr_base.specs.Separations.{Lines, listed, product_at}
use Rattle.cmr_base.specs.Seeds.{IsBefore, IsGood, IsLine, line_number}
use Rattle.cuts.specs.declared.corners.Corners.{Corners}
use Rattle.cuts.specs.LineCuts.{AreInside, IsCut}

abbrev pub HasCut : Matrix → Type 0
HasCut m = (T : Lines) × IsCut m T

abbrev pub HasNoCut : Matrix → Type 0
HasNoCut m = (T : Lines) → ¬ (IsCut m T)

-- the corners of a cut, and two more lines of side one
pub record CutSeed : Type 0 where
  pub corners : Corners
  pub third : Line
  pub fourth : Line

-- the lines of the corners in side one, and those in side two
abbrev pub first_corner : Corners → List Line
first_corner c = Row c.one.row ∷ Column c.one.column ∷ []

abbrev pub second_corner : Corners → List Line
second_corner c = Row c.two.row ∷ Column c.two.column ∷ []

-- The four lines of side one are different. The side is the least set with these lines that is closed under the products at (i, j) and
-- (k, p). It has no line of the second corner, and leaves four lines.
pub record IsGoodCut (m : Matrix) (s : CutSeed) (side : Lines) : Type 0 where
  pub inside : AreInside m s.corners
  pub upper : entry m s.corners.one.row s.corners.two.column ≢ pos 0
  pub lower : entry m s.corners.two.row s.corners.one.column ≢ pos 0
  pub third : IsLine (height m) m.width s.third
  pub not_first : AllByRecursion (λ line. s.third ≢ line) (first_corner s.corners)
  pub good : IsGood (height m) m.width 4 (entry m) (product_at (entry m) s.corners.one.row s.corners.two.column) (product_at (entry m) s.corners.two.row s.corners.one.column)
      (s.third ∷ first_corner s.corners) (second_corner s.corners) s.fourth side

-- by the corners, then by the two lines
abbrev pub cut_key : Matrix → CutSeed → List ℕ
cut_key m s = s.corners.one.row ∷ s.corners.one.column ∷ s.corners.two.row ∷ s.corners.two.column ∷ line_number (height m) s.third ∷ line_number (height m) s.fourth ∷ []

-- the side of the first good seed
pub record IsFirstCut (m : Matrix) (side : Lines) : Type 0 where
  pub seed : CutSeed
  pub good : IsGoodCut m seed side
  pub earliest : (other : CutSeed) (side' : Lines) → IsGoodCut m other side' → ¬ (IsBefore (cut_key m other) (cut_key m seed))

-- the lines of side one of the first cut
pub record IsFirstCutOn (m : Matrix) (rows columns : List ℕ) : Type 0 where
  pub row_set : IsRowSet m rows
  pub column_set : IsColumnSet m columns
  pub first : IsFirstCut m (listed rows columns)
  pub cut : IsCut m (listed rows columns)

-- all first cuts of a matrix have the same lines of the matrix as side one
abbrev pub FirstCutsAgree : Type 0
FirstCutsAgree = (m : Matrix) (S T : Lines) → IsFirstCut m S → IsFirstCut m T → (x : Line) → IsLine (height m) m.width x → S x ≡ T x
