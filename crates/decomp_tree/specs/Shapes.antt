-- The shape of a decomposition: at each node the first case that applies.
use Rattle.std.specs.Prelude.{◌≡◌, ◌≤◌, ◌<◌, Bool, false, cond, ℕ, List, [], length, map, min, slice_index_or, IsSome}
use Rattle.std.specs.List.{AllByRecursion}
use Rattle.cmr_base.specs.declared.line.Line.{Line}
use Rattle.cmr_base.specs.declared.line.Line.TheVariants.{Row, Column}
use Rattle.cmr_base.specs.declared.line_set.LineSet.{LineSet}
use Rattle.cmr_base.specs.declared.separation.Connector.{Connector}
use Rattle.cmr_base.specs.declared.separation.Form.{Form}
use Rattle.cmr_base.specs.declared.separation.Two.{Two}
use Rattle.cmr_base.specs.declared.separation.Three.{Three}
use Rattle.cmr_base.specs.Matrix.{Matrix, height, entry, transposed}
use Rattle.cmr_base.specs.LineSets.{first_lines}
use Rattle.cmr_base.specs.Reductions.{HasLine, line_reason, removal}
use Rattle.cmr_base.specs.CyclePlaces.{IsFaultAt, IsCycleFault}
use Rattle.cmr_base.specs.Trees.{Reproduces, IsNetworkMatrix, IsConetworkMatrix}
use Rattle.cmr_base.specs.R10.{IsR10}
use Rattle.cmr_base.specs.Violator.{HasNoViolator, IsLeastViolator}
use Rattle.cmr_base.specs.Separations.{Lines, first_is_flat, second_is_flat, IsTwoSeparation, IsThreeSeparation}
use Rattle.cmr_base.specs.Components.{AreComponents}
use Rattle.two_sep.specs.FirstSeeds.{IsFirstTwoSeparation}
use Rattle.three_sep.specs.ThreeSeparations.{IsFirstThreeSeparation}
use Rattle.tree_type.specs.DecompositionTrees.{Finding, Empty, Cycle, Reduced, OneSum, Network, Conetwork, R10, TwoSum, ThreeSum, Enumerated, Violator, Undecided, Tree}
use Rattle.tree_type.specs.Invariant.{HasChildren}
use Rattle.tree_type.specs.Places.{These, Place, places_from, places}
use Rattle.tree_type.specs.Soundness.{part, HasItsLines}

-- the cases, in their order
pub data Case : Type 0 where
  HasNoLines : Case
  HasFault : Case
  IsReducible : Case
  IsApart : Case
  IsNetwork : Case
  IsConetwork : Case
  IsR10Matrix : Case
  IsTwoSum : Case
  IsThreeSum : Case
  IsShort : Case
  IsLeft : Case

abbrev pub case_number : Case → ℕ
case_number HasNoLines = 1
case_number HasFault = 2
case_number IsReducible = 3
case_number IsApart = 4
case_number IsNetwork = 5
case_number IsConetwork = 6
case_number IsR10Matrix = 7
case_number IsTwoSum = 8
case_number IsThreeSum = 9
case_number IsShort = 10
case_number IsLeft = 11

-- a case applies to a matrix, with a budget of lines for its shorter side
abbrev pub Applies : ℕ → Matrix → Case → Type 0
Applies limit m HasNoLines = (height m ≡ 0) × (m.width ≡ 0)
Applies limit m HasFault = (row : ℕ) × (first : ℕ) × (last : ℕ) × (path : List ℕ) × IsFaultAt (entry m) row first last path
Applies limit m IsReducible = (line : Line) × HasLine (first_lines (height m)) (first_lines m.width) line
    × IsSome (line_reason false (entry m) (first_lines (height m)) (first_lines m.width) line)
Applies limit m IsApart = (parts : List LineSet) × AreComponents m parts × (2 ≤ length parts)
Applies limit m IsNetwork = IsNetworkMatrix m
Applies limit m IsConetwork = IsConetworkMatrix m
Applies limit m IsR10Matrix = IsR10 m
Applies limit m IsTwoSum = (i : ℕ) × (j : ℕ) × (side : Lines) × IsTwoSeparation (entry m) (first_lines (height m)) (first_lines m.width) side i j
Applies limit m IsThreeSum = (form : Form) × (first : Connector) × (second : Connector) × (side : Lines)
    × IsThreeSeparation (entry m) (first_lines (height m)) (first_lines m.width) side form first second
Applies limit m IsShort = min (height m) m.width ≤ limit
Applies limit m IsLeft = Unit {0}

-- the first case that applies
pub record IsFirstCase (limit : ℕ) (m : Matrix) (case : Case) : Type 0 where
  pub applies : Applies limit m case
  pub first : (earlier : Case) → case_number earlier < case_number case → ¬ (Applies limit m earlier)

-- The finding of a node in a case. The parts are the parts of a one-sum.
abbrev pub NodeSays : Case → Matrix → Finding → List LineSet → Type 0
NodeSays HasNoLines m Empty parts = Unit {0}
NodeSays HasFault m (Cycle fault) parts = IsCycleFault m fault.rows fault.columns
NodeSays IsReducible m (Reduced steps) parts = steps ≡ map (λ step. step.line) (removal false m).steps
NodeSays IsApart m OneSum parts = AreComponents m parts × (2 ≤ length parts)
NodeSays IsNetwork m (Network net) parts = Reproduces net m
NodeSays IsConetwork m (Conetwork net) parts = Reproduces net (transposed m)
NodeSays IsR10Matrix m R10 parts = Unit {0}
NodeSays IsTwoSum m (TwoSum two) parts = IsFirstTwoSeparation m two
NodeSays IsThreeSum m (ThreeSum three) parts = IsFirstThreeSeparation m three
NodeSays IsShort m (Violator fault) parts = IsLeastViolator m fault.rows fault.columns
NodeSays IsShort m Enumerated parts = HasNoViolator m
NodeSays IsLeft m Undecided parts = Unit {0}
NodeSays case m finding parts = ⊥

-- Lines of a submatrix by their numbers in the whole matrix.

abbrev pub numbered : List ℕ → ℕ → ℕ
numbered lines k = slice_index_or lines k 0

abbrev pub numbered_line : LineSet → Line → Line
numbered_line lines (Row k) = Row (numbered lines.rows k)
numbered_line lines (Column k) = Column (numbered lines.columns k)

abbrev pub set_in : LineSet → LineSet → LineSet
set_in lines part = record { rows = map (numbered lines.rows) part.rows; columns = map (numbered lines.columns) part.columns }

abbrev pub connector_in : Bool → LineSet → Connector → Connector
connector_in flat lines c = record { row = numbered lines.rows c.row; column = numbered lines.columns c.column; other = cond flat (numbered lines.columns c.other) (numbered lines.rows c.other) }

abbrev pub two_in : LineSet → Two → Two
two_in lines two = record { side = set_in lines two.side; row = numbered lines.rows two.row; column = numbered lines.columns two.column }

abbrev pub three_in : LineSet → Three → Three
three_in lines t = record {
  form = t.form;
  side = set_in lines t.side;
  first = connector_in (first_is_flat t.form) lines t.first;
  second = connector_in (second_is_flat t.form) lines t.second;
}

-- the finding on the submatrix, by the numbers in the whole matrix
abbrev pub finding_in : LineSet → Finding → Finding
finding_in lines (Cycle fault) = Cycle (set_in lines fault)
finding_in lines (Reduced steps) = Reduced (map (numbered_line lines) steps)
finding_in lines (TwoSum two) = TwoSum (two_in lines two)
finding_in lines (ThreeSum three) = ThreeSum (three_in lines three)
finding_in lines (Violator fault) = Violator (set_in lines fault)
finding_in lines finding = finding

-- the children of a one-sum have the lines of the parts
abbrev pub HasParts : Finding → List LineSet → List LineSet → Type 0
HasParts OneSum children parts = children ≡ parts
HasParts finding children parts = Unit {0}

-- A node has the lines that its parent gives it, is below no pivot, has the finding of the first case that applies to its submatrix, and
-- has as many children as the finding needs.
pub record IsShapedAt (limit : ℕ) (m : Matrix) (place : Place) : Type 0 where
  pub lines : HasItsLines place.due place.lines
  pub unpivoted : place.pivots ≡ []
  pub case : Case
  pub first : IsFirstCase limit (part m place.lines) case
  pub found : Finding
  pub parts : List LineSet
  pub says : NodeSays case (part m place.lines) found parts
  pub finding : place.finding ≡ finding_in place.lines found
  pub children : HasParts place.finding place.children (map (set_in place.lines) parts)
  pub count : HasChildren place.finding (length place.children)

-- the tree is a decomposition of the matrix, with this budget
abbrev pub IsShape : ℕ → Matrix → Tree → Type 0
IsShape limit m tree = AllByRecursion (IsShapedAt limit m) (places (height m) m.width tree)

-- the tree is a decomposition of the submatrix on these lines, with the line numbers of the whole matrix
abbrev pub IsShapeOn : ℕ → Matrix → LineSet → Tree → Type 0
IsShapeOn limit m lines tree = AllByRecursion (IsShapedAt limit m) (places_from [] [] (These lines) tree)
