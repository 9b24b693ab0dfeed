-- The shape of a decomposition with pivots whose open parts are tried once more.
use Rattle.std.specs.Prelude.{◌≡◌, ℕ, zero, suc, Bool, true, false, Option, Some, None}
use Rattle.cmr_base.specs.declared.line_set.LineSet.{LineSet}
use Rattle.cmr_base.specs.Matrix.{Matrix}
use Rattle.tree_type.specs.DecompositionTrees.{Tree, Branch, NoTrees, Violator}
use Rattle.tree_type.specs.Verdicts.{Verdict, Yes, No, Open, verdict_of}
use Rattle.decomp_tree.specs.Refined.{Refines}
use Rattle.decomp_tree.specs.PivotedShapes.{IsShapeWith, undecided}
use Rattle.open_parts.specs.Rests.{IsFoundInRests}

-- the leaf of some lines with a fault, or the undecided leaf if none is found
abbrev pub leaf_with : LineSet → Option LineSet → Tree
leaf_with lines None = undecided lines
leaf_with lines (Some fault) = Branch lines (Violator fault) NoTrees

-- what replaces an undecided node on these lines
abbrev pub IsTriedLeaf : (limit : ℕ) → Matrix → LineSet → Tree → Type 0
IsTriedLeaf limit m lines tree = (found : Option LineSet) × IsFoundInRests limit m lines found × (tree ≡ leaf_with lines found)

abbrev pub is_open : Verdict → Bool
is_open Yes = false
is_open (No fault) = false
is_open (Open left) = true

-- In an open tree each undecided node is tried. A tree with another verdict stays.
abbrev pub IsTriedIfOpen : (limit : ℕ) → Matrix → Tree → Verdict → Tree → Type 0
IsTriedIfOpen limit m drawn Yes tree = tree ≡ drawn
IsTriedIfOpen limit m drawn (No fault) tree = tree ≡ drawn
IsTriedIfOpen limit m drawn (Open left) tree = Refines (IsTriedLeaf limit m) drawn tree

-- if no pivots are allowed, every tree stays
abbrev pub IsTriedIf : (pivots limit : ℕ) → Matrix → Tree → Tree → Type 0
IsTriedIf zero limit m drawn tree = tree ≡ drawn
IsTriedIf (suc more) limit m drawn tree = IsTriedIfOpen limit m drawn (verdict_of drawn) tree

-- A decomposition with at most this number of pivots on the path to a node, and then with its undecided nodes tried if it is open and
-- pivots are allowed.
pub record IsTriedWith (limit pivots : ℕ) (m : Matrix) (tree : Tree) : Type 0 where
  pub drawn : Tree
  pub shape : IsShapeWith limit pivots m drawn
  pub tried : IsTriedIf pivots limit m drawn tree
