-- What a search finds at a node.
use Rattle.std.specs.Prelude.{◌≡◌, ◌<◌, Bool, true, false, ℕ, suc, List, [], ◌∷◌, length, map, Contains}
use Rattle.std.specs.List.{AllByRecursion}
use Rattle.cmr_base.specs.declared.line.Line.{Line}
use Rattle.cmr_base.specs.declared.line.Line.TheVariants.{Row, Column}
use Rattle.cmr_base.specs.declared.line_set.LineSet.{LineSet}
use Rattle.cmr_base.specs.declared.separation.Connector.{Connector}
use Rattle.cmr_base.specs.Matrix.{Matrix, entry}
use Rattle.cmr_base.specs.LineSets.{AllBelow}
use Rattle.cmr_base.specs.CyclePlaces.{HasNoCycleFault, IsCycleFault}
use Rattle.cmr_base.specs.Violator.{IsViolator}
use Rattle.tree_type.specs.Findings.{finding_shown}
use Rattle.tree_type.specs.DecompositionTrees.{Finding, Cycle, Reduced, OneSum, Network, Conetwork, TwoSum, Violator, Undecided, Trees, count_trees}
use Rattle.tree_type.specs.Invariant.{AreLinesOf, size_of, FitsLines, HasChildren}
use Rattle.tree_type.specs.Places.{due_child}
use Rattle.tree_type.specs.Soundness.{part, HasItsLines}
use Rattle.decomp_tree.specs.declared.seen.Seen.{Seen}
use Rattle.decomp_tree.specs.Shapes.{Case, HasFault, case_number, Applies, NodeSays, finding_in, set_in, HasParts}

-- Positions in some lines: the lines of the submatrix on them.

abbrev pub IsPlace : LineSet → Line → Type 0
IsPlace lines (Row k) = k < length lines.rows
IsPlace lines (Column k) = k < length lines.columns

pub record IsPlacedSet (lines set : LineSet) : Type 0 where
  pub rows : AllBelow (length lines.rows) set.rows
  pub columns : AllBelow (length lines.columns) set.columns

abbrev pub IsPlacedConnector : Bool → LineSet → Connector → Type 0
IsPlacedConnector true lines c = (c.row < length lines.rows) × (c.column < length lines.columns) × (c.other < length lines.columns)
IsPlacedConnector false lines c = (c.row < length lines.rows) × (c.column < length lines.columns) × (c.other < length lines.rows)

-- no violator has only lines among these
abbrev pub HasNoneAmong : Matrix → LineSet → Type 0
HasNoneAmong m lines = (R C : List ℕ) → AllByRecursion (Contains lines.rows) R → AllByRecursion (Contains lines.columns) C → ¬ (IsViolator (entry m) R C)

-- the cases except the case of a cycle fault
abbrev pub IsOther : Case → Type 0
IsOther HasFault = ⊥
IsOther case = Unit {0}

-- no case before this number applies, except perhaps the case of a cycle fault
abbrev pub HasNoneBefore : ℕ → Matrix → ℕ → Type 0
HasNoneBefore limit m number = (earlier : Case) → case_number earlier < number → IsOther earlier → ¬ (Applies limit m earlier)

-- whether a node with this finding is drafted without a search for a cycle fault
abbrev pub is_unsearched : Finding → Bool
is_unsearched (Reduced steps) = true
is_unsearched OneSum = true
is_unsearched (Network net) = true
is_unsearched (Conetwork net) = true
is_unsearched (TwoSum two) = true
is_unsearched finding = false

-- whether a node with this finding has no violator among its lines if none of its children has one
abbrev pub keeps_free : Finding → Bool
keeps_free (Cycle fault) = false
keeps_free (Violator fault) = false
keeps_free Undecided = false
keeps_free finding = true

-- the cycle fault of a submatrix, by its numbers in the whole matrix
abbrev pub IsNamedFault : Matrix → LineSet → LineSet → Type 0
IsNamedFault m lines fault = (found : LineSet) × IsCycleFault (part m lines) found.rows found.columns × (fault ≡ set_in lines found)

-- the children have the lines that the finding says
abbrev pub AreDue : LineSet → Finding → ℕ → List LineSet → Type 0
AreDue lines finding k [] = Unit {0}
AreDue lines finding k (child ∷ children) = HasItsLines (due_child lines finding k) child × AreDue lines finding (suc k) children

-- some lines of a node, but not all
pub record AreFewer (lines child : LineSet) : Type 0 where
  pub among : AreLinesOf child lines
  pub fewer : size_of child < size_of lines

-- The finding of a node on these lines and the lines of its children, by the first case that applies except the case of a cycle fault. If
-- a cycle fault was searched for, there is none, or the finding names it.
pub record IsSaid (limit : ℕ) (m : Matrix) (lines : LineSet) (finding : Finding) (children : List LineSet) : Type 0 where
  pub case : Case
  pub applies : Applies limit (part m lines) case
  pub others : HasNoneBefore limit (part m lines) (case_number case)
  pub searched : is_unsearched finding ≡ false → case_number HasFault < case_number case → HasNoCycleFault (entry (part m lines))
  pub found : Finding
  pub parts : List LineSet
  pub says : NodeSays case (part m lines) found parts
  pub finding_is : finding ≡ finding_in lines found
  pub parts_are : HasParts finding children (map (set_in lines) parts)
  pub due : AreDue lines finding 0 children
  pub count : HasChildren finding (length children)
  pub fewer : AllByRecursion (AreFewer lines) children
  pub fits : (trees : Trees) → count_trees trees ≡ length children → FitsLines lines finding trees

-- what a search finds on these lines
abbrev pub IsSeen : ℕ → Matrix → LineSet → Seen → Type 0
IsSeen limit m lines seen = IsSaid limit m lines (finding_shown seen.finding) seen.children
