-- What replaces undecided nodes: its lines and its levels.
use Rattle.std.proofs.Common.{◌≡◌, ◌<◌, ◌≤◌, ◌+◌, ◌-◌, ◌∙◌, inl, inr, ℕ, zero, suc, [], Contains, Option, Some, None, refl, ap, sym, subst, arith}
use Rattle.cmr_base.specs.declared.line_set.LineSet.{LineSet}
use Rattle.cmr_base.specs.Matrix.{Matrix, IsMatrix}
use Rattle.cmr_base.specs.LineSets.{IsRowSet, IsColumnSet}
use Rattle.cmr_base.proofs.Lists.{all_contained}
use Rattle.pivots.specs.declared.drawn.DrawnPlace.{DrawnPlace}
use Rattle.cmr_base.specs.declared.position.Position.{Position}
use Rattle.cmr_base.specs.PlacedPivots.{IsPlaceIn, IsTernaryPivot, pivoted_part}
use Rattle.pivots.specs.PivotedParts.{AreAmong}
use Rattle.pivots.proofs.PartLaws.{lines_before_among}
use Rattle.tree_type.specs.DecompositionTrees.{Finding, Empty, Cycle, Reduced, OneSum, Network, Conetwork, R10, TwoSum, ThreeSum, Enumerated, Violator, Undecided, Pivoted, Tree, Trees, Branch, NoTrees, MoreTrees, count_trees, lines_at_root}
use Rattle.tree_type.specs.Invariant.{AreLines, AreLinesOf, size_of, FitsLines, HasChildren, IsTreeWithin, AreTreesWithin}
use Rattle.tree_type.specs.Places.{These}
use Rattle.tree_type.specs.Verdicts.{Verdict, Yes, No, Open, verdict_of}
use Rattle.tree_type.proofs.PlacedLines.{lines_within}
use Rattle.tree_laws.proofs.PivotedMatrices.{lines_pivoted, pivoted_is_matrix}
use Rattle.decomp_tree.specs.Shapes.{IsShapeOn}
use Rattle.separating_places.specs.SeparatingPlaces.{IsNextPlace}
use Rattle.separating_places.proofs.ChosenPlaces.{chosen_place_in}
use Rattle.decomp_tree.specs.Refined.{Refines, AllRefine}
use Rattle.decomp_tree.specs.PivotedShapes.{IsMappedBack, IsFoundAt, IsFound, IsDrawnWith, HasFaultAmong, undecided}
use Rattle.decomp_tree.proofs.FaultLines.{fault_among, lines_of_lines_of}
use Rattle.decomp_tree.proofs.RefinedTrees.{RefinedNode, replaced, kept, refined_node, count_refined, refined_lines}
use Rattle.decomp_tree.proofs.ShapeTrees.{shape_lines}
use Rattle.decomp_tree.proofs.ShapedNodes.{IsFalling, AreFalling, shape_falls, shape_within}

-- ---- lines

mapped_lines : (m : Matrix) (lines : LineSet) (place : Position) (after : Tree) (v : Verdict) (tree : Tree) → IsMappedBack m lines place after v tree → lines_at_root tree ≡ lines
mapped_lines m lines place after Yes tree e = ap lines_at_root e
mapped_lines m lines place after (No fault) tree mapped = ap lines_at_root mapped.2
mapped_lines m lines place after (Open left) tree e = ap lines_at_root e

found_at_lines : (IsTree : ℕ → Matrix → Tree → Type 0) (m : Matrix) (lines : LineSet) (chosen : Option DrawnPlace) (tree : Tree) → IsFoundAt IsTree m lines chosen tree → lines_at_root tree ≡ lines
found_at_lines IsTree m lines None tree e = ap lines_at_root e
found_at_lines IsTree m lines (Some chosen) tree (inl shown) = ap lines_at_root shown.2
found_at_lines IsTree m lines (Some chosen) tree (inr made) = mapped_lines m lines chosen.place made.1 (verdict_of made.1) tree made.3

-- what replaces a node is on the lines of the node
pub found_lines : (limit pivots state : ℕ) (m : Matrix) (lines : LineSet) (tree : Tree) → IsFound limit pivots state m lines tree → lines_at_root tree ≡ lines
found_lines limit zero state m lines tree e = ap lines_at_root e
found_lines limit (suc pivots) state m lines tree (chosen, choice, found) = found_at_lines (λ next after found. (shape : Tree) × IsShapeOn limit after lines shape × Refines (IsFound limit pivots next after) shape found) m lines chosen tree found

-- and so is the decomposition with what replaces its nodes
pub drawn_with_lines : (limit pivots state : ℕ) (m : Matrix) (lines : LineSet) (tree : Tree) → IsDrawnWith limit pivots state m lines tree → lines_at_root tree ≡ lines
drawn_with_lines limit pivots state m lines tree d = refined_lines (IsFound limit pivots state m) (found_lines limit pivots state m) d.shape tree d.refines ∙ shape_lines limit m lines d.shape d.drawn

-- the position is a nonzero of the submatrix
pub choice_in : (m : Matrix) (lines : LineSet) (state : ℕ) (chosen : Option DrawnPlace) → IsNextPlace m lines state chosen → (some : DrawnPlace) → chosen ≡ Some some → IsPlaceIn m lines some.place
choice_in m lines state chosen choice some e = chosen_place_in m lines state some (subst (IsNextPlace m lines state) e choice)

-- ---- levels

-- as many children fit
pub fits_as_many : (lines : LineSet) (finding : Finding) (trees others : Trees) → count_trees others ≡ count_trees trees → FitsLines lines finding trees → FitsLines lines finding others
fits_as_many lines OneSum trees others e fits = subst (λ n. n ≤ size_of lines) (sym e) fits
fits_as_many lines Empty trees others e fits = fits
fits_as_many lines (Cycle fault) trees others e fits = fits
fits_as_many lines (Reduced steps) trees others e fits = fits
fits_as_many lines (Network net) trees others e fits = fits
fits_as_many lines (Conetwork net) trees others e fits = fits
fits_as_many lines R10 trees others e fits = fits
fits_as_many lines (TwoSum two) trees others e fits = fits
fits_as_many lines (ThreeSum three) trees others e fits = fits
fits_as_many lines Enumerated trees others e fits = fits
fits_as_many lines (Violator fault) trees others e fits = fits
fits_as_many lines Undecided trees others e fits = fits
fits_as_many lines (Pivoted place) trees others e fits = fits

module _ (m : Matrix) (Replaces : LineSet → Tree → Type 0) (more : ℕ)
    (within_replaced : (lines : LineSet) (tree : Tree) (parent : LineSet) (levels : ℕ) → Replaces lines tree → AreLines m parent → AreLinesOf lines parent → size_of lines + more < levels → IsTreeWithin parent levels tree) where
  mutual
    within_refined : (shape tree : Tree) (parent : LineSet) (some levels : ℕ) → Refines Replaces shape tree → IsFalling shape → AreLines m parent
        → IsTreeWithin parent some shape → size_of (lines_at_root shape) + more < levels → IsTreeWithin parent levels tree
    within_refined (Branch lines finding trees) tree parent some levels r falls are within l =
        go (refined_node Replaces lines finding trees tree r) (λ below all few. within_each lines trees below (some - 1) (levels - 1) all falls (lines_within m lines parent within.1 are) within.4 few)
      where
        go : RefinedNode Replaces lines finding trees tree
            → ((below : Trees) → AllRefine Replaces trees below → size_of lines + more ≤ levels - 1 → AreTreesWithin lines (levels - 1) below)
            → IsTreeWithin parent levels tree
        go (replaced e replaces) each = within_replaced lines tree parent levels replaces are within.1 l
        go (kept e below is all) each = subst (IsTreeWithin parent levels) (sym is) (
          omega (arith, l),
          within.1,
          fits_as_many lines finding trees below (count_refined Replaces trees below all) within.2,
          subst (HasChildren finding) (sym (count_refined Replaces trees below all)) within.3,
          each below all (omega (arith, l)),
        )

    within_each : (lines : LineSet) (trees below : Trees) (some levels : ℕ) → AllRefine Replaces trees below → AreFalling lines trees → AreLines m lines
        → AreTreesWithin lines some trees → size_of lines + more ≤ levels → AreTreesWithin lines levels below
    within_each lines NoTrees below some levels e falls are within l = subst (AreTreesWithin lines levels) (sym e) tt
    within_each lines (MoreTrees tree trees) below some levels (first, rest, e, r, all) falls are within l =
        subst (AreTreesWithin lines levels) (sym e) (
          within_refined tree first lines some levels r falls.1 are within.0 (let fewer = falls.0.fewer in omega (arith, l, fewer)),
          within_each lines trees rest some levels all falls.2 are within.1 l,
        )

undecided_within : (lines parent : LineSet) (levels : ℕ) → AreLinesOf lines parent → 0 < levels → IsTreeWithin parent levels (undecided lines)
undecided_within lines parent levels are l = (l, are, tt, refl, tt)

violator_within : (lines fault parent : LineSet) (levels : ℕ) → AreLinesOf lines parent → AreLinesOf fault lines → 0 < levels → IsTreeWithin parent levels (Branch lines (Violator fault) NoTrees)
violator_within lines fault parent levels are fits l = (l, are, fits, refl, tt)

-- increasing lines among others are lines of them
lines_among : (m : Matrix) (lines fault : LineSet) (rows_increase : IsRowSet m fault.rows) (columns_increase : IsColumnSet m fault.columns)
    → AreAmong lines fault.rows fault.columns → AreLinesOf fault lines
lines_among m lines fault rows columns among = record {
  rows_increase = rows.increasing;
  columns_increase = columns.increasing;
  rows = λ row h. all_contained (Contains lines.rows) fault.rows row among.rows h;
  columns = λ column h. all_contained (Contains lines.columns) fault.columns column among.columns h;
}

module _ (limit : ℕ) where
  abbrev IsWithin : ℕ → Type 0
  IsWithin pivots = (state : ℕ) (m : Matrix) (lines : LineSet) (tree : Tree) (parent : LineSet) (levels : ℕ) → IsMatrix m → IsFound limit pivots state m lines tree → AreLines m parent → AreLinesOf lines parent → size_of lines + pivots < levels → IsTreeWithin parent levels tree

  -- a decomposition with what replaces its undecided nodes
  drawn_within : (pivots : ℕ) → IsWithin pivots → (state : ℕ) (m : Matrix) (lines : LineSet) (tree : Tree) (parent : LineSet) (levels : ℕ) → IsMatrix m
      → IsDrawnWith limit pivots state m lines tree → AreLines m parent → AreLinesOf lines parent → size_of lines + pivots < levels
      → IsTreeWithin parent levels tree
  drawn_within pivots found state m lines tree parent levels is d parent_are are l =
      let root = shape_lines limit m lines d.shape d.drawn in
      let among = subst (λ some. AreLinesOf some parent) (sym root) are in
      within_refined m (IsFound limit pivots state m) pivots (λ some one over n. found state m some one over n is) d.shape tree parent (suc (size_of (lines_at_root d.shape))) levels d.refines
      (shape_falls limit m is [] (These lines) parent d.shape d.drawn parent_are among) parent_are
      (shape_within limit m is [] (These lines) parent (suc (size_of (lines_at_root d.shape))) d.shape d.drawn parent_are among (omega arith))
      (subst (λ some. size_of some + pivots < levels) (sym root) l)

  module _ (pivots : ℕ) (below : IsWithin pivots) (m : Matrix) (lines parent : LineSet) (levels : ℕ) (is : IsMatrix m) (parent_are : AreLines m parent) (are : AreLinesOf lines parent) (l : size_of lines + suc pivots < levels) where
    mapped_within : (next : ℕ) (place : Position) (at : IsPlaceIn m lines place) (ternary : IsTernaryPivot m lines place) (after : Tree)
        → IsDrawnWith limit pivots next (pivoted_part m lines place) lines after → (tree : Tree) → IsMappedBack m lines place after (verdict_of after) tree
        → IsTreeWithin parent levels tree
    mapped_within next place at ternary after d tree mapped = go (verdict_of after) among mapped
      where
        after_within : IsTreeWithin lines (levels - 1) after
        after_within = drawn_within pivots below next (pivoted_part m lines place) lines after lines (levels - 1) (pivoted_is_matrix m lines place is ternary) d
            (lines_pivoted m lines place lines (lines_within m lines parent are parent_are)) (lines_of_lines_of lines parent are) (omega (arith, l))

        among : HasFaultAmong lines (verdict_of after)
        among = subst (λ some. HasFaultAmong some (verdict_of after)) (drawn_with_lines limit pivots next (pivoted_part m lines place) lines after d) (fault_among lines (levels - 1) after after_within)

        go : (v : Verdict) → HasFaultAmong lines v → IsMappedBack m lines place after v tree → IsTreeWithin parent levels tree
        go Yes h e = subst (IsTreeWithin parent levels) (sym e) (omega (arith, l), are, (at.row, at.column), refl, (after_within, tt))
        go (No fault) h (before, is, e) = subst (IsTreeWithin parent levels) (sym e)
            (violator_within lines before parent levels are (lines_among m lines before is.row_set is.column_set (lines_before_among m lines place fault.rows fault.columns before.rows before.columns at h is.lines)) (omega (arith, l)))
        go (Open left) h e = subst (IsTreeWithin parent levels) (sym e) (undecided_within lines parent levels are (omega (arith, l)))

    found_at_within : (chosen : Option DrawnPlace) → ((some : DrawnPlace) → chosen ≡ Some some → IsPlaceIn m lines some.place) → (tree : Tree)
        → IsFoundAt (λ next after found. (shape : Tree) × IsShapeOn limit after lines shape × Refines (IsFound limit pivots next after) shape found) m lines chosen tree
        → IsTreeWithin parent levels tree
    found_at_within None at tree e = subst (IsTreeWithin parent levels) (sym e) (undecided_within lines parent levels are (omega (arith, l)))
    found_at_within (Some chosen) at tree (inl (fault, shows, e)) = subst (IsTreeWithin parent levels) (sym e)
        (violator_within lines fault parent levels are (lines_among m lines fault shows.row_set shows.column_set shows.among) (omega (arith, l)))
    found_at_within (Some chosen) at tree (inr (ternary, after, (shape, is, refines), mapped)) =
        mapped_within chosen.state chosen.place (at chosen refl) ternary after (record { shape = shape; drawn = is; refines = refines }) tree mapped

  pub found_within : (pivots : ℕ) → IsWithin pivots
  found_within zero state m lines tree parent levels is e parent_are are l = subst (IsTreeWithin parent levels) (sym e) (undecided_within lines parent levels are (omega (arith, l)))
  found_within (suc pivots) state m lines tree parent levels is (chosen, choice, found) parent_are are l =
      found_at_within pivots (found_within pivots) m lines parent levels is parent_are are l chosen (choice_in m lines state chosen choice) tree found

  -- the tree has at most as many levels as lines, pivots and one more
  pub drawn_with_within : (pivots state : ℕ) (m : Matrix) (lines : LineSet) (tree : Tree) (parent : LineSet) (levels : ℕ) → IsMatrix m
      → IsDrawnWith limit pivots state m lines tree → AreLines m parent → AreLinesOf lines parent → size_of lines + pivots < levels
      → IsTreeWithin parent levels tree
  drawn_with_within pivots = drawn_within pivots (found_within pivots)
