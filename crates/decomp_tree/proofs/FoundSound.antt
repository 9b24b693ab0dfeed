-- A decomposition with what pivots find keeps all rules.
use Rattle.std.proofs.Common.{◌≡◌, ◌≤◌, ◌+◌, inl, inr, ℕ, zero, suc, List, [], ◌∷◌, Option, Some, None, refl, ap, sym, subst, arith}
use Rattle.cmr_base.specs.declared.line_set.LineSet.{LineSet}
use Rattle.cmr_base.specs.Matrix.{Matrix, entry, IsMatrix}
use Rattle.cmr_base.specs.Violator.{IsViolator}
use Rattle.pivots.specs.declared.drawn.DrawnPlace.{DrawnPlace}
use Rattle.cmr_base.specs.declared.position.Position.{Position}
use Rattle.cmr_base.specs.PlacedPivots.{IsPlaceIn, IsTernaryPivot, pivoted_part}
use Rattle.pivots.proofs.PartLaws.{part_pivots_take_violators_back}
use Rattle.tree_type.specs.DecompositionTrees.{Tree, lines_at_root}
use Rattle.tree_type.specs.Invariant.{AreLines, AreLinesOf, size_of}
use Rattle.tree_type.specs.Places.{These, MadePivot, matrix_after}
use Rattle.tree_type.specs.Soundness.{HasItsLines}
use Rattle.tree_type.specs.Verdicts.{Verdict, Yes, No, Open, verdict_of}
use Rattle.tree_type.proofs.PlacedLines.{lines_within}
use Rattle.tree_laws.proofs.PivotedMatrices.{lines_pivoted, pivoted_is_matrix}
use Rattle.tree_laws.proofs.SoundTrees.{fault_tree}
use Rattle.decomp_tree.specs.Shapes.{IsShapeOn}
use Rattle.decomp_tree.specs.Refined.{Refines}
use Rattle.decomp_tree.specs.PivotedShapes.{AreBefore, IsMappedBack, IsFoundAt, IsFound, IsDrawnWith}
use Rattle.decomp_tree.proofs.FaultLines.{among_lines, fault_in, fault_of_verdict, lines_themselves}
use Rattle.decomp_tree.proofs.FoundTrees.{found_lines, drawn_with_lines, drawn_with_within, choice_in}
use Rattle.decomp_tree.proofs.YesTrees.{MayBelow, says_yes}
use Rattle.decomp_tree.proofs.PivotNodes.{IsSoundBelow, undecided_sound, violator_sound, pivot_sound}
use Rattle.decomp_tree.proofs.RefinedSound.{refined_sound}
use Rattle.decomp_tree.proofs.ShapeTrees.{shape_lines, shape_moved}
use Rattle.decomp_tree.proofs.ShapedNodes.{shape_within}

module _ (limit : ℕ) (few : limit ≤ 24) where
  abbrev FoundIsSound : ℕ → Type 0
  FoundIsSound pivots = (m : Matrix) (made : List MadePivot) (state : ℕ) (lines : LineSet) (tree : Tree) → IsMatrix (matrix_after m made) → IsFound limit pivots state (matrix_after m made) lines tree → AreLines (matrix_after m made) lines
      → MayBelow made tree → IsSoundBelow m made tree

  -- a decomposition with what is found
  drawn_sound : (pivots : ℕ) → FoundIsSound pivots → (m : Matrix) (made : List MadePivot) (state : ℕ) (lines : LineSet) (tree : Tree)
      → IsMatrix (matrix_after m made) → IsDrawnWith limit pivots state (matrix_after m made) lines tree
      → AreLines (matrix_after m made) lines → MayBelow made tree → IsSoundBelow m made tree
  drawn_sound pivots found m made state lines tree is d are may path due sizes has =
      refined_sound limit few m made is (IsFound limit pivots state (matrix_after m made)) (found_lines limit pivots state (matrix_after m made))
      (λ some one replaces some_are one_may. found m made state some one is replaces some_are one_may)
      path due lines (suc (size_of (lines_at_root d.shape))) d.shape tree d.refines are (shape_within limit (matrix_after m made) is [] (These lines) lines (suc (size_of (lines_at_root d.shape))) d.shape d.drawn are among (omega arith)) sizes
      (shape_moved limit (matrix_after m made) path due lines d.shape (subst (HasItsLines due) (drawn_with_lines limit pivots state (matrix_after m made) lines tree d) has) d.drawn) may
    where
      among : AreLinesOf (lines_at_root d.shape) lines
      among = subst (λ some. AreLinesOf some lines) (sym (shape_lines limit (matrix_after m made) lines d.shape d.drawn)) (lines_themselves (matrix_after m made) lines are)

  module _ (pivots : ℕ) (below : FoundIsSound pivots) (m : Matrix) (made : List MadePivot) (lines : LineSet) (is : IsMatrix (matrix_after m made)) (are : AreLines (matrix_after m made) lines) where
    abbrev n : Matrix
    n = matrix_after m made

    module _ (place : Position) (at : IsPlaceIn n lines place) (ternary : IsTernaryPivot n lines place) (next : ℕ) (after : Tree) (d : IsDrawnWith limit pivots next (pivoted_part n lines place) lines after) where
      is_after : IsMatrix (pivoted_part n lines place)
      is_after = pivoted_is_matrix n lines place is ternary

      are_after : AreLines (pivoted_part n lines place) lines
      are_after = lines_pivoted n lines place lines are

      -- a fault of the tree is a violator of the matrix before the pivot on the lines before it
      fault_before : (fault before : LineSet) → verdict_of after ≡ No fault → AreBefore n place fault before → IsViolator (entry n) before.rows before.columns
      fault_before fault before e b =
          let same = drawn_with_lines limit pivots next (pivoted_part n lines place) lines after d in
          let within = drawn_with_within limit pivots next (pivoted_part n lines place) lines after lines (suc (size_of lines + pivots)) is_after d are_after (lines_themselves n lines are) (omega arith) in
          let first = fault_of_verdict after fault e in
          let in_lines = subst (AreLinesOf fault) same (fault_in lines (suc (size_of lines + pivots)) after fault within first) in
          let fault_are = lines_within n fault lines in_lines are in
          let keeps = drawn_sound pivots below (pivoted_part n lines place) [] next lines after is_after d are_after (inl refl) [] (These lines) tt
          (ap (λ (some : LineSet). some.rows) same, ap (λ (some : LineSet). some.columns) same) in
          let v = fault_tree (pivoted_part n lines place) [] [] (These lines) lines (suc (size_of lines + pivots)) after fault are_after within keeps first in
          (part_pivots_take_violators_back n lines place fault.rows fault.columns before.rows before.columns is.small are.rows are.columns at fault_are.rows fault_are.columns (among_lines fault lines in_lines) b.row_set b.column_set b.lines).1 v.1

      mapped_sound : (v : Verdict) → verdict_of after ≡ v → (tree : Tree) → IsMappedBack n lines place after v tree → MayBelow made tree → IsSoundBelow m made tree
      mapped_sound Yes e tree mapped may =
          let same = drawn_with_lines limit pivots next (pivoted_part n lines place) lines after d in
          subst (IsSoundBelow m made) (sym mapped)
          (pivot_sound m made lines place after at.nonzero ternary same (drawn_sound pivots below m (record { lines = lines; place = place } ∷ made) next lines after is_after d are_after (inr (says_yes after e))) (subst (MayBelow made) mapped may))
      mapped_sound (No fault) e tree (before, b, mapped) may = subst (IsSoundBelow m made) (sym mapped) (violator_sound m made lines before (fault_before fault before e b) (subst (MayBelow made) mapped may))
      mapped_sound (Open left) e tree mapped may = subst (IsSoundBelow m made) (sym mapped) (undecided_sound m made lines (subst (MayBelow made) mapped may))

    found_at_sound : (chosen : Option DrawnPlace) → ((some : DrawnPlace) → chosen ≡ Some some → IsPlaceIn n lines some.place) → (tree : Tree)
        → IsFoundAt (λ next after found. (shape : Tree) × IsShapeOn limit after lines shape × Refines (IsFound limit pivots next after) shape found) n lines chosen tree
        → MayBelow made tree → IsSoundBelow m made tree
    found_at_sound None at tree e may = subst (IsSoundBelow m made) (sym e) (undecided_sound m made lines (subst (MayBelow made) e may))
    found_at_sound (Some chosen) at tree (inl (fault, shows, e)) may = subst (IsSoundBelow m made) (sym e) (violator_sound m made lines fault shows.violator (subst (MayBelow made) e may))
    found_at_sound (Some chosen) at tree (inr (ternary, after, (shape, is_drawn, refines), mapped)) may =
        mapped_sound chosen.place (at chosen refl) ternary chosen.state after (record { shape = shape; drawn = is_drawn; refines = refines }) (verdict_of after) refl tree mapped may

  found_sound : (pivots : ℕ) → FoundIsSound pivots
  found_sound zero m made state lines tree is e are may = subst (IsSoundBelow m made) (sym e) (undecided_sound m made lines (subst (MayBelow made) e may))
  found_sound (suc pivots) m made state lines tree is (chosen, choice, found) are may =
      found_at_sound pivots (found_sound pivots) m made lines is are chosen (choice_in (matrix_after m made) lines state chosen choice) tree found may

  -- a decomposition with what replaces its undecided nodes keeps all rules
  pub drawn_with_sound : (pivots state : ℕ) (m : Matrix) (lines : LineSet) (tree : Tree) → IsMatrix m → IsDrawnWith limit pivots state m lines tree → AreLines m lines → IsSoundBelow m [] tree
  drawn_with_sound pivots state m lines tree is d are = drawn_sound pivots (found_sound pivots) m [] state lines tree is d are (inl refl)
