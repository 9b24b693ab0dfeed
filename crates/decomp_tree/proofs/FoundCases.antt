-- What pivots find, by cases: no position, a 2, and the tree of the submatrix after the pivot.
use Rattle.std.proofs.Common.{◌≡◌, ◌≢◌, ◌+◌, ◌-◌, inl, inr, ℕ, suc, Option, Some, None, sym, subst, arith}
use Rattle.cmr_base.specs.declared.line_set.LineSet.{LineSet}
use Rattle.cmr_base.specs.Matrix.{Matrix, IsMatrix}
use Rattle.cmr_base.specs.declared.position.Position.{Position}
use Rattle.pivots.specs.declared.drawn.DrawnPlace.{DrawnPlace}
use Rattle.pivots.specs.PivotedParts.{IsMadePart, ShowsFirstTwoIn}
use Rattle.tree_type.specs.DecompositionTrees.{Tree, Branch, NoTrees, Violator}
use Rattle.tree_type.specs.Invariant.{AreLines, size_of}
use Rattle.tree_type.specs.Verdicts.{verdict_of}
use Rattle.tree_laws.proofs.PivotedMatrices.{lines_pivoted}
use Rattle.decomp_tree.specs.Refined.{Refines}
use Rattle.decomp_tree.specs.Shapes.{IsShapeOn}
use Rattle.separating_places.specs.SeparatingPlaces.{HasNoChosenPlace, IsNextPlace, IsChosenPlace}
use Rattle.decomp_tree.specs.PivotedShapes.{HasFaultAmong, IsDrawnWith, IsFound, IsFoundAt, IsMappedBack, undecided}
use Rattle.decomp_tree.proofs.FaultLines.{fault_among, lines_themselves}
use Rattle.decomp_tree.proofs.FoundTrees.{drawn_with_lines, drawn_with_within}

module _ (limit pivots state : ℕ) (m : Matrix) (lines : LineSet) where
  -- some pivot may be made
  found_at : (some : pivots ≢ 0) (tree : Tree) (chosen : Option DrawnPlace) → IsNextPlace m lines state chosen
      → IsFoundAt (λ next after found. (shape : Tree) × IsShapeOn limit after lines shape × Refines (IsFound limit (pivots - 1) next after) shape found) m lines chosen tree
      → IsFound limit pivots state m lines tree
  found_at some tree chosen choice found = subst (λ k. IsFound limit k state m lines tree) (let more : suc (pivots - 1) ≡ pivots = omega (arith, some) in more) (chosen, choice, found)

  pub found_none : (tree : Tree) → pivots ≡ 0 → tree ≡ undecided lines → IsFound limit pivots state m lines tree
  found_none tree none e = subst (λ k. IsFound limit k state m lines tree) (sym none) e

  pub found_no_place : (tree : Tree) → pivots ≢ 0 → HasNoChosenPlace m lines state → tree ≡ undecided lines → IsFound limit pivots state m lines tree
  found_no_place tree some none e = found_at some tree None none e

  module _ (chosen : DrawnPlace) (at : IsChosenPlace m lines state chosen) where
    found_there : (tree : Tree) → pivots ≢ 0
        → IsFoundAt (λ next after found. (shape : Tree) × IsShapeOn limit after lines shape × Refines (IsFound limit (pivots - 1) next after) shape found) m lines (Some chosen) tree
        → IsFound limit pivots state m lines tree
    found_there tree some found = found_at some tree (Some chosen) at found

    pub found_two : (tree : Tree) (fault : LineSet) → pivots ≢ 0 → ShowsFirstTwoIn m lines chosen.place fault.rows fault.columns
        → tree ≡ Branch lines (Violator fault) NoTrees → IsFound limit pivots state m lines tree
    found_two tree fault some shows e = found_there tree some (inl (fault, shows, e))

    pub found_after : (tree found : Tree) (after : Matrix) → pivots ≢ 0 → IsMadePart m lines chosen.place after
        → IsDrawnWith limit (pivots - 1) chosen.state after lines found → IsMappedBack m lines chosen.place found (verdict_of found) tree
        → IsFound limit pivots state m lines tree
    found_after tree found after some made d mapped =
        let there = subst (λ n. IsDrawnWith limit (pivots - 1) chosen.state n lines found) made.is d in
        found_there tree some (inr (made.ternary, found, (there.shape, there.drawn, there.refines), mapped))

-- the lines are lines of the matrix after the pivot
pub lines_made : (m : Matrix) (lines : LineSet) (place : Position) (after : Matrix) → IsMadePart m lines place after → AreLines m lines → AreLines after lines
lines_made m lines place after made are = subst (λ n. AreLines n lines) (sym made.is) (lines_pivoted m lines place lines are)

-- a fault of a decomposition has lines of its root
pub fault_drawn : (limit pivots state : ℕ) (m : Matrix) (lines : LineSet) (tree : Tree) → IsMatrix m → AreLines m lines
    → IsDrawnWith limit pivots state m lines tree → HasFaultAmong lines (verdict_of tree)
fault_drawn limit pivots state m lines tree is are d =
    subst (λ (some : LineSet). HasFaultAmong some (verdict_of tree)) (drawn_with_lines limit pivots state m lines tree d)
    (fault_among lines (suc (size_of lines + pivots)) tree (drawn_with_within limit pivots state m lines tree lines (suc (size_of lines + pivots)) is d are (lines_themselves m lines are) (omega arith)))
