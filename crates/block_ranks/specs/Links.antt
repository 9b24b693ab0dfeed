-- Lines that are linked by nonzeros that are not before a cut. A pivot at a nonzero whose row and column are linked has no cut.
use Rattle.std.specs.Prelude.{◌≡◌, ◌≢◌, ◌<◌, ◌+◌, ℕ, pos, List, length, slice_index_or}
use Rattle.cmr_base.specs.declared.line.Line.{Line}
use Rattle.cmr_base.specs.declared.line.Line.TheVariants.{Row, Column}
use Rattle.cmr_base.specs.declared.position.Position.{Position}
use Rattle.cmr_base.specs.Matrix.{Matrix, height, entry, IsMatrix}
use Rattle.cmr_base.specs.Seeds.{IsLine, line_number}
use Rattle.cmr_base.specs.Separations.{Lines}
use Rattle.block_ranks.specs.PlacesBeforeCuts.{HasNoneUpTo, IsPlaceBeforeCut}

-- a nonzero that is not before a cut links its row and its column
pub record IsLink (m : Matrix) (place : Position) : Type 0 where
  pub row : place.row < height m
  pub column : place.column < m.width
  pub nonzero : entry m place.row place.column ≢ pos 0
  pub not_before : ¬ (IsPlaceBeforeCut m place)

-- each link has both of its lines in the set or none
abbrev pub HasNoLinkOut : Matrix → Lines → Type 0
HasNoLinkOut m S = (place : Position) → IsLink m place → S (Row place.row) ≡ S (Column place.column)

-- Each set that no link leaves has both lines or none. So a path of links leads from one line to the other.
abbrev pub AreLinkedLines : Matrix → Line → Line → Type 0
AreLinkedLines m x y = (S : Lines) → HasNoLinkOut m S → S x ≡ S y

-- the label of a line, in a list with the labels of the rows and then of the columns
abbrev pub label_of : Matrix → List ℕ → Line → ℕ
label_of m labels line = slice_index_or labels (line_number (height m) line) 0

-- no nonzero before this position is before a cut, and lines with the same label are linked
pub record HaveLabelsUpTo (m : Matrix) (row column : ℕ) (labels : List ℕ) : Type 0 where
  pub matrix : IsMatrix m
  pub count : length labels ≡ height m + m.width
  pub labelled : (x y : Line) → IsLine (height m) m.width x → IsLine (height m) m.width y → label_of m labels x ≡ label_of m labels y → AreLinkedLines m x y
  pub none : HasNoneUpTo m row column
