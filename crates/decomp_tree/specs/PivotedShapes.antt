-- The shape of a decomposition that makes pivots if nothing else decides.
use Rattle.std.specs.Prelude.{◌≡◌, ◌<◌, ◌≤◌, ◌+◌, ◌++◌, ◌⊎◌, ℕ, zero, suc, Bool, true, false, List, [], ◌∷◌, Option, Some, None}
use Rattle.cmr_base.specs.declared.limits.TheConstants.{MAX_DEPTH}
use Rattle.cmr_base.specs.declared.line_set.LineSet.{LineSet}
use Rattle.cmr_base.specs.Matrix.{Matrix, height}
use Rattle.cmr_base.specs.LineSets.{IsRowSet, IsColumnSet, first_lines}
use Rattle.ghouila.specs.PivotLaws.{AreLinesBefore}
use Rattle.pivots.specs.declared.drawn.DrawnPlace.{DrawnPlace}
use Rattle.cmr_base.specs.declared.position.Position.{Position}
use Rattle.cmr_base.specs.PlacedPivots.{pivoted_part, IsTernaryPivot}
use Rattle.pivots.specs.PivotedParts.{AreAmong, ShowsFirstTwoIn}
use Rattle.tree_type.specs.declared.finding.Finding.{Finding as Held}
use Rattle.tree_type.specs.declared.finding.Finding.TheVariants as held
use Rattle.tree_type.specs.DecompositionTrees.{Tree, Branch, NoTrees, Undecided, Violator, Pivoted, one_tree}
use Rattle.tree_type.specs.Verdicts.{Verdict, Yes, No, Open, verdict_of}
use Rattle.decomp_tree.specs.Levels.{is_on_levels}
use Rattle.decomp_tree.specs.Refined.{Refines}
use Rattle.separating_places.specs.SeparatingPlaces.{IsNextPlace}
use Rattle.decomp_tree.specs.Shapes.{IsShapeOn}

abbrev pub undecided : LineSet → Tree
undecided lines = Branch lines Undecided NoTrees

-- The pivot of the submatrix has a 2 or a -2: the node names the two rows and the two columns that show it.
abbrev pub ShowsTwoAfterPivot : Matrix → LineSet → Position → Tree → Type 0
ShowsTwoAfterPivot m lines place tree =
    (fault : LineSet) × ShowsFirstTwoIn m lines place fault.rows fault.columns × (tree ≡ Branch lines (Violator fault) NoTrees)

-- lines of the matrix that are those of a fault before the pivot
pub record AreBefore (m : Matrix) (place : Position) (fault before : LineSet) : Type 0 where
  pub row_set : IsRowSet m before.rows
  pub column_set : IsColumnSet m before.columns
  pub lines : AreLinesBefore m place.row place.column fault.rows fault.columns before.rows before.columns

-- What the tree of the submatrix after a pivot says of the submatrix: for a yes a pivoted node above that tree, for a no its fault mapped
-- back to the lines before the pivot, and otherwise an undecided node.
abbrev pub IsMappedBack : Matrix → LineSet → Position → Tree → Verdict → Tree → Type 0
IsMappedBack m lines place after Yes tree = tree ≡ Branch lines (Pivoted place) (one_tree after)
IsMappedBack m lines place after (No fault) tree =
    (before : LineSet) × AreBefore m place fault before × (tree ≡ Branch lines (Violator before) NoTrees)
IsMappedBack m lines place after (Open left) tree = tree ≡ undecided lines

-- What is said of the lines before a pivot if the tree after it has this verdict: nothing if the verdict is a yes.
abbrev pub SaysBeforePivot : Matrix → Position → Verdict → Option Held → Type 0
SaysBeforePivot m place Yes said = said ≡ None
SaysBeforePivot m place (No fault) said = (before : LineSet) × AreBefore m place fault before × (said ≡ Some (held.Violator before))
SaysBeforePivot m place (Open left) said = said ≡ Some held.Undecided

-- A pivot at a position, and then the tree of the submatrix after it, whose pivots go on from the next state. Without a position the node
-- stays undecided.
abbrev pub IsFoundAt : (ℕ → Matrix → Tree → Type 0) → Matrix → LineSet → Option DrawnPlace → Tree → Type 0
IsFoundAt IsTree m lines None tree = tree ≡ undecided lines
IsFoundAt IsTree m lines (Some chosen) tree =
    ShowsTwoAfterPivot m lines chosen.place tree
    ⊎ (IsTernaryPivot m lines chosen.place
    × (after : Tree) × IsTree chosen.state (pivoted_part m lines chosen.place) after
    × IsMappedBack m lines chosen.place after (verdict_of after) tree)

-- What replaces an undecided node on these lines if at most this number of pivots may still be made. The first pivot is made at the
-- position that the submatrix and this state have. The submatrix after it has a decomposition of its own, in which one pivot fewer may be
-- made.
abbrev pub IsFound : ℕ → ℕ → ℕ → Matrix → LineSet → Tree → Type 0
IsFound limit zero state m lines tree = tree ≡ undecided lines
IsFound limit (suc pivots) state m lines tree =
    (chosen : Option DrawnPlace) × IsNextPlace m lines state chosen
    × IsFoundAt
    (λ next after found. (shape : Tree) × IsShapeOn limit after lines shape
    × Refines (IsFound limit pivots next after) shape found)
    m lines chosen tree

-- the decomposition of the submatrix on some lines, with what replaces its undecided nodes
pub record IsDrawnWith (limit pivots state : ℕ) (m : Matrix) (lines : LineSet) (tree : Tree) : Type 0 where
  pub shape : Tree
  pub drawn : IsShapeOn limit m lines shape
  pub refines : Refines (IsFound limit pivots state m) shape tree

abbrev pub all_lines : Matrix → LineSet
all_lines m = record { rows = first_lines (height m); columns = first_lines m.width }

-- no node is deeper than 2,000
abbrev pub is_shallow : Tree → Bool
is_shallow = is_on_levels (MAX_DEPTH + 1)

-- with more pivots than are made, at most this number, some node is deeper than 2,000
abbrev pub AreTooDeep : (limit made pivots : ℕ) → Matrix → Type 0
AreTooDeep limit made pivots m = (more : ℕ) (other : Tree) → made < more → more ≤ pivots → IsDrawnWith limit more 1 m (all_lines m) other → is_shallow other ≡ false

-- The tree is a decomposition of the matrix with this budget of lines. Of the numbers of pivots on the path to a node up to this one, it is
-- made with the greatest with which no node is deeper than 2,000, and with 0 if there is none.
pub record IsShapeWith (limit pivots : ℕ) (m : Matrix) (tree : Tree) : Type 0 where
  pub made : ℕ
  pub few : made ≤ pivots
  pub drawn : IsDrawnWith limit made 1 m (all_lines m) tree
  pub shallow : (made ≡ 0) ⊎ (is_shallow tree ≡ true)
  pub most : AreTooDeep limit made pivots m

-- one more tree, after some others
pub record HasOneMoreTree (IsTree : Tree → Type 0) (before after : List Tree) : Type 0 where
  pub tree : Tree
  pub order : after ≡ before ++ tree ∷ []
  pub is_tree : IsTree tree

-- a fault that a verdict names has lines among these
abbrev pub HasFaultAmong : LineSet → Verdict → Type 0
HasFaultAmong lines Yes = Unit {0}
HasFaultAmong lines (No fault) = AreAmong lines fault.rows fault.columns
HasFaultAmong lines (Open left) = Unit {0}
