-- A matrix has a decomposition that makes pivots.
use Rattle.std.proofs.Common.{◌≡◌, ◌<◌, ◌+◌, ◌-◌, ◌⊎◌, inl, inr, ℕ, zero, suc, Bool, true, false, [], Contains, Option, Some, None, refl, sym, subst, arith}
use Rattle.cmr_base.specs.declared.line_set.LineSet.{LineSet}
use Rattle.cmr_base.specs.declared.position.Position.{Position}
use Rattle.cmr_base.specs.Matrix.{Matrix, height, IsMatrix}
use Rattle.cmr_base.specs.Members.{IsIn}
use Rattle.cmr_base.specs.PlacedPivots.{IsPlaceIn, pivoted_part}
use Rattle.cmr_base.proofs.ListsWithout.{contains_from_in}
use Rattle.cmr_base.proofs.Lists.{all_contained}
use Rattle.cmr_base.proofs.Places.{contained_below}
use Rattle.pivots.specs.declared.drawn.DrawnPlace.{DrawnPlace}
use Rattle.separating_places.proofs.ChosenPlaces.{chosen_place_in}
use Rattle.separating_places.specs.SeparatingPlaces.{IsNextPlace}
use Rattle.tree_type.specs.DecompositionTrees.{Finding, Pivoted, Violator, Tree, Trees, Branch, NoTrees, MoreTrees, one_tree, lines_at_root}
use Rattle.tree_type.specs.Invariant.{AreLines, AreLinesOf, size_of, IsTreeWithin, AreTreesWithin}
use Rattle.tree_type.specs.Places.{These}
use Rattle.tree_type.specs.Verdicts.{Verdict, Yes, No, Open, verdict_of}
use Rattle.tree_type.proofs.PlacedLines.{lines_within}
use Rattle.tree_laws.proofs.PivotedMatrices.{lines_pivoted, pivoted_is_matrix}
use Rattle.decomp_tree.specs.Refined.{is_undecided, Refines, AllRefine}
use Rattle.decomp_tree.specs.PivotedShapes.{AreTooDeep, HasFaultAmong, IsDrawnWith, IsFound, IsFoundAt, IsShapeWith, IsMappedBack, all_lines, is_shallow, undecided}
use Rattle.decomp_tree.specs.Shapes.{IsShapeOn}
use Rattle.decomp_tree.proofs.FaultLines.{fault_among, lines_themselves}
use Rattle.decomp_tree.proofs.FoundTrees.{drawn_with_lines, drawn_with_within}
use Rattle.decomp_tree.proofs.PivotedRoots.{all_are_lines}
use Rattle.decomp_tree.proofs.RefinedTrees.{refined_kept}
use Rattle.decomp_tree.proofs.Settled.{only_undecided_is}
use Rattle.decomp_tree.proofs.ShapedNodes.{shape_within}
use Rattle.decomp_tree.proofs.ShapeTrees.{shape_lines}
use Rattle.decompositions_exist.proofs.NotExcluded.{NotExcluded}
use Rattle.decompositions_exist.proofs.LeastKeys.{least_number}
use Rattle.decompositions_exist.proofs.PivotsExist.{before_exists, next_exists, ternary_or_two}
use Rattle.decompositions_exist.proofs.ShapesExist.{shape_exists}

-- ---- what replaces undecided nodes

module _ (m : Matrix) (Holds : LineSet → Tree → Type 0) (some : (lines : LineSet) → AreLines m lines → NotExcluded ((tree : Tree) × Holds lines tree)) where
  by_finding : (lines : LineSet) (finding : Finding) (trees : Trees) (b : Bool) → is_undecided finding ≡ b → AreLines m lines
      → NotExcluded ((below : Trees) × AllRefine Holds trees below) → NotExcluded ((tree : Tree) × Refines Holds (Branch lines finding trees) tree)
  by_finding lines finding trees true e are below none = some lines are (λ found. none (found.0, subst (λ f. Refines Holds (Branch lines f trees) found.0) (sym (only_undecided_is finding e)) found.1))
  by_finding lines finding trees false e are below none = below (λ rest. none (Branch lines finding rest.0, refined_kept Holds lines finding trees rest.0 e rest.1))

  mutual
    pub refined_exists : (parent : LineSet) (levels : ℕ) (shape : Tree) → AreLines m parent → IsTreeWithin parent levels shape → NotExcluded ((tree : Tree) × Refines Holds shape tree)
    refined_exists parent levels (Branch lines finding trees) are within none =
        let here = lines_within m lines parent within.1 are in
        by_finding lines finding trees (is_undecided finding) refl here (refined_below lines (levels - 1) trees here within.4) none

    refined_below : (lines : LineSet) (levels : ℕ) (trees : Trees) → AreLines m lines → AreTreesWithin lines levels trees → NotExcluded ((below : Trees) × AllRefine Holds trees below)
    refined_below lines levels NoTrees are within none = none (NoTrees, refl)
    refined_below lines levels (MoreTrees tree trees) are within none =
        refined_exists lines levels tree are within.0 (λ first. refined_below lines levels trees are within.1 (λ rest. none (MoreTrees first.0 rest.0, (first.0, rest.0, refl, first.1, rest.1))))

module _ (limit : ℕ) where
  abbrev AreFoundWith : ℕ → Type 0
  AreFoundWith pivots = (state : ℕ) (m : Matrix) (lines : LineSet) → IsMatrix m → AreLines m lines → NotExcluded ((tree : Tree) × IsFound limit pivots state m lines tree)

  abbrev AreDrawnWith : ℕ → Type 0
  AreDrawnWith pivots = (state : ℕ) (m : Matrix) (lines : LineSet) → IsMatrix m → AreLines m lines → NotExcluded ((tree : Tree) × IsDrawnWith limit pivots state m lines tree)

  drawn_from_found : (pivots : ℕ) → AreFoundWith pivots → AreDrawnWith pivots
  drawn_from_found pivots found state m lines is are none = shape_exists limit m is lines are (λ shape.
      let root = shape_lines limit m lines shape.0 shape.1 in
      let among = subst (λ own. AreLinesOf own lines) (sym root) (lines_themselves m lines are) in
      let within = shape_within limit m is [] (These lines) lines (suc (size_of (lines_at_root shape.0))) shape.0 shape.1 are among (omega arith) in
      refined_exists m (IsFound limit pivots state m) (λ some some_are. found state m some is some_are) lines (suc (size_of (lines_at_root shape.0))) shape.0 are within (λ tree.
      none (tree.0, record { shape = shape.0; drawn = shape.1; refines = tree.1 })))

  module _ (pivots : ℕ) (below : AreDrawnWith pivots) (m : Matrix) (lines : LineSet) (is : IsMatrix m) (are : AreLines m lines) where
    -- a tree of the submatrix after the pivot, whose pivots go on from the next state
    abbrev IsTreeAfter : ℕ → Matrix → Tree → Type 0
    IsTreeAfter next after found = (shape : Tree) × IsShapeOn limit after lines shape × Refines (IsFound limit pivots next after) shape found

    fault_low : (fault : LineSet) → HasFaultAmong lines (No fault) → ((x : ℕ) → IsIn x fault.rows → x < height m) × ((x : ℕ) → IsIn x fault.columns → x < m.width)
    fault_low fault among = (
      (λ x h. contained_below (height m) lines.rows x are.rows.in_range (all_contained (Contains lines.rows) fault.rows x among.rows (contains_from_in fault.rows x h))),
      λ x h. contained_below m.width lines.columns x are.columns.in_range (all_contained (Contains lines.columns) fault.columns x among.columns (contains_from_in fault.columns x h)),
    )

    decided : (place : Position) → IsPlaceIn m lines place → (after : Tree) (verdict : Verdict) → HasFaultAmong lines verdict
        → NotExcluded ((tree : Tree) × IsMappedBack m lines place after verdict tree)
    decided place at after Yes among none = none (Branch lines (Pivoted place) (one_tree after), refl)
    decided place at after (No fault) among none =
        let low = fault_low fault among in
        before_exists m lines place is are at fault low.0 low.1 (λ before. none (Branch lines (Violator before.0) NoTrees, (before.0, before.1, refl)))
    decided place at after (Open left) among none = none (undecided lines, refl)

    found_there : (chosen : DrawnPlace) → IsPlaceIn m lines chosen.place → NotExcluded ((tree : Tree) × IsFoundAt IsTreeAfter m lines (Some chosen) tree)
    found_there chosen at none = ternary_or_two m lines chosen.place is are at (λ either. elim either [
      | inl ternary ↦
          let after = pivoted_part m lines chosen.place in
          let after_is = pivoted_is_matrix m lines chosen.place is ternary in
          let after_are = lines_pivoted m lines chosen.place lines are in
          below chosen.state after lines after_is after_are (λ tree.
          let within = drawn_with_within limit pivots chosen.state after lines tree.0 lines (suc (size_of lines + pivots)) after_is tree.1 after_are (lines_themselves after lines after_are) (omega arith) in
          let among = subst (λ (own : LineSet). HasFaultAmong own (verdict_of tree.0)) (drawn_with_lines limit pivots chosen.state after lines tree.0 tree.1) (fault_among lines (suc (size_of lines + pivots)) tree.0 within) in
          decided chosen.place at tree.0 (verdict_of tree.0) among (λ above. none (above.0, inr (ternary, tree.0, (tree.1.shape, tree.1.drawn, tree.1.refines), above.1))))
      | inr two ↦ none (Branch lines (Violator two.0) NoTrees, inl (two.0, two.1, refl))
    ])

    found_for : (state : ℕ) (chosen : Option DrawnPlace) → IsNextPlace m lines state chosen → NotExcluded ((tree : Tree) × IsFoundAt IsTreeAfter m lines chosen tree)
    found_for state None next none = none (undecided lines, refl)
    found_for state (Some chosen) next none = found_there chosen (chosen_place_in m lines state chosen next) none

  found_exists : (pivots : ℕ) → AreFoundWith pivots
  found_exists zero state m lines is are none = none (undecided lines, refl)
  found_exists (suc pivots) state m lines is are none = next_exists m lines state (λ chosen.
      found_for pivots (drawn_from_found pivots (found_exists pivots)) m lines is are state chosen.0 chosen.1 (λ tree. none (tree.0, (chosen.0, chosen.1, tree.1))))

  -- the submatrix on some lines has a decomposition with this number of pivots
  pub drawn_with_exists : (pivots state : ℕ) (m : Matrix) (lines : LineSet) → IsMatrix m → AreLines m lines → NotExcluded ((tree : Tree) × IsDrawnWith limit pivots state m lines tree)
  drawn_with_exists pivots = drawn_from_found pivots (found_exists pivots)

  -- ---- the greatest number of pivots

  module _ (pivots : ℕ) (m : Matrix) (is : IsMatrix m) where
    -- a tree that is not too deep
    record IsShallowWith (made : ℕ) : Type 0 where
      tree : Tree
      drawn : IsDrawnWith limit made 1 m (all_lines m) tree
      shallow : is_shallow tree ≡ true

    -- with this number of pivots fewer than may be made, or with none, a tree is not too deep
    record IsLess (less : ℕ) : Type 0 where
      made : ℕ
      count : made + less ≡ pivots
      good : (made ≡ 0) ⊎ IsShallowWith made

    too_deep : (less : ℕ) → ((j : ℕ) → j < less → ¬ (IsLess j)) → (made : ℕ) → made + less ≡ pivots → AreTooDeep limit made pivots m
    too_deep less least made count more other above few drawn = go (is_shallow other) refl
      where
        go : (b : Bool) → is_shallow other ≡ b → is_shallow other ≡ false
        go false e = e
        go true e = absurd (least (pivots - more) (omega (arith, above, few, count)) (record { made = more; count = omega (arith, few); good = inr (record { tree = other; drawn = drawn; shallow = e }) }))

    from_good : (made less : ℕ) → made + less ≡ pivots → AreTooDeep limit made pivots m → (made ≡ 0) ⊎ IsShallowWith made → NotExcluded ((tree : Tree) × IsShapeWith limit pivots m tree)
    from_good made less count most (inl zero_made) none = drawn_with_exists made 1 m (all_lines m) is (all_are_lines m is) (λ tree.
        none (tree.0, record { made = made; few = omega (arith, count); drawn = tree.1; shallow = inl zero_made; most = most }))
    from_good made less count most (inr shallow) none =
        none (shallow.tree, record { made = made; few = omega (arith, count); drawn = shallow.drawn; shallow = inr shallow.shallow; most = most })

    -- the matrix has a decomposition
    pub shape_with_exists : NotExcluded ((tree : Tree) × IsShapeWith limit pivots m tree)
    shape_with_exists none = least_number IsLess pivots (record { made = 0; count = omega arith; good = inl refl }) (λ found.
        let it = found.1.has in
        from_good it.made found.0 it.count (too_deep found.0 found.1.least it.made it.count) it.good none)
