-- A decomposition whose undecided nodes are replaced by sound trees is sound.
use Rattle.std.proofs.Common.{◌≡◌, ◌≤◌, ◌-◌, ◌++◌, ℕ, suc, List, [], ◌∷◌, sym, subst}
use Rattle.std.specs.List.{AllByRecursion}
use Rattle.cmr_base.specs.declared.line_set.LineSet.{LineSet}
use Rattle.cmr_base.specs.Matrix.{Matrix, IsMatrix}
use Rattle.cmr_base.proofs.Lists.{all-append, all_prefix, all_back}
use Rattle.tree_type.specs.DecompositionTrees.{Finding, Tree, Trees, Branch, NoTrees, MoreTrees, lines_at_root}
use Rattle.tree_type.specs.Invariant.{AreLines, IsTreeWithin, AreTreesWithin}
use Rattle.tree_type.specs.Places.{Due, MadePivot, Place, matrix_after, places_from, places_below, due_child, lines_of_each}
use Rattle.tree_type.specs.Soundness.{HasItsSizes, HasItsLines, Demands, KeepsAll}
use Rattle.tree_type.proofs.PlacedLines.{lines_within}
use Rattle.decomp_tree.specs.Shapes.{IsShapedAt}
use Rattle.decomp_tree.specs.Refined.{Refines, AllRefine}
use Rattle.decomp_tree.proofs.RefinedTrees.{RefinedNode, replaced, kept, refined_node, refined_lines_each}
use Rattle.decomp_tree.proofs.ShapeSound.{keeps_all, demanded, sizes_child, no_pivot}
use Rattle.decomp_tree.proofs.YesTrees.{MayBelow, AllMayBelow, may_stand, may_children, may_first}
use Rattle.decomp_tree.proofs.PivotNodes.{IsSoundBelow}

module _ (limit : ℕ) (few : limit ≤ 24) (m : Matrix) (pivots : List MadePivot) (is : IsMatrix (matrix_after m pivots)) (Replaces : LineSet → Tree → Type 0)
    (on_lines : (lines : LineSet) (tree : Tree) → Replaces lines tree → lines_at_root tree ≡ lines)
    (sound : (lines : LineSet) (tree : Tree) → Replaces lines tree → AreLines (matrix_after m pivots) lines → MayBelow pivots tree → IsSoundBelow m pivots tree) where
  abbrev after : Matrix
  after = matrix_after m pivots

  mutual
    pub refined_sound : (path : List ℕ) (due : Due) (parent : LineSet) (levels : ℕ) (shape tree : Tree) → Refines Replaces shape tree → AreLines after parent
        → IsTreeWithin parent levels shape → HasItsSizes m due
        → AllByRecursion (IsShapedAt limit after) (places_from path [] due shape) → MayBelow pivots tree → AllByRecursion (KeepsAll m) (places_from path pivots due tree)
    refined_sound path due parent levels (Branch lines finding trees) tree r are within sizes shaped may =
        go (refined_node Replaces lines finding trees tree r) (λ below all h. each_sound path lines finding (levels - 1) 0 trees below all here within.4 h)
      where
        here : AreLines after lines
        here = lines_within after lines parent within.1 are

        place : Place
        place = record { path = path; pivots = []; due = due; lines = lines; finding = finding; children = lines_of_each trees }

        below_shaped : AllByRecursion (IsShapedAt limit after) (places_below path [] lines finding 0 trees)
        below_shaped = subst (λ ps. AllByRecursion (IsShapedAt limit after) (places_below path ps lines finding 0 trees)) (no_pivot [] limit _ shaped.0.case shaped.0.found shaped.0.parts lines finding shaped.0.says shaped.0.finding) shaped.1

        kept_sound : (below : Trees) → AllRefine Replaces trees below → MayBelow pivots (Branch lines finding below) → AllByRecursion (KeepsAll m) (places_below path pivots lines finding 0 below)
            → AllByRecursion (KeepsAll m) (places_from path pivots due (Branch lines finding below))
        kept_sound below all may' rest = (
          keeps_all m (record { path = path; pivots = pivots; due = due; lines = lines; finding = finding; children = lines_of_each below }) sizes shaped.0.lines
              (λ broken. subst (Demands broken after lines finding) (sym (refined_lines_each Replaces on_lines trees below all)) (demanded limit few after is place here shaped.0 broken))
              (may_stand pivots lines finding below may'),
          subst (λ ps. AllByRecursion (KeepsAll m) (places_below path ps lines finding 0 below)) (sym (no_pivot pivots limit _ shaped.0.case shaped.0.found shaped.0.parts lines finding shaped.0.says shaped.0.finding)) rest,
        )

        go : RefinedNode Replaces lines finding trees tree
            → ((below : Trees) → AllRefine Replaces trees below → AllByRecursion (IsShapedAt limit after) (places_below path [] lines finding 0 trees) × AllMayBelow pivots below → AllByRecursion (KeepsAll m) (places_below path pivots lines finding 0 below))
            → AllByRecursion (KeepsAll m) (places_from path pivots due tree)
        go (replaced e replaces) each = sound lines tree replaces here may path due sizes (subst (HasItsLines due) (sym (on_lines lines tree replaces)) shaped.0.lines)
        go (kept e below same all) each =
            let may' = subst (MayBelow pivots) same may in
            subst (λ t. AllByRecursion (KeepsAll m) (places_from path pivots due t)) (sym same) (kept_sound below all may' (each below all (below_shaped, may_children pivots lines finding below may')))

    each_sound : (path : List ℕ) (lines : LineSet) (finding : Finding) (levels k : ℕ) (trees below : Trees) → AllRefine Replaces trees below → AreLines after lines → AreTreesWithin lines levels trees
        → AllByRecursion (IsShapedAt limit after) (places_below path [] lines finding k trees) × AllMayBelow pivots below → AllByRecursion (KeepsAll m) (places_below path pivots lines finding k below)
    each_sound path lines finding levels k NoTrees below e are within h = subst (λ t. AllByRecursion (KeepsAll m) (places_below path pivots lines finding k t)) (sym e) tt
    each_sound path lines finding levels k (MoreTrees tree trees) below (first, rest, e, r, all) are within (shaped, may) =
        let both = may_first pivots first rest (subst (AllMayBelow pivots) e may) in
        let here = places_from (path ++ k ∷ []) [] (due_child lines finding k) tree in
        let later = places_below path [] lines finding (suc k) trees in
        subst (λ t. AllByRecursion (KeepsAll m) (places_below path pivots lines finding k t)) (sym e)
        (all-append (KeepsAll m) (places_from (path ++ k ∷ []) pivots (due_child lines finding k) first) (places_below path pivots lines finding (suc k) rest)
        (refined_sound (path ++ k ∷ []) (due_child lines finding k) lines levels tree first r are within.0 (sizes_child m lines finding k) (all_prefix (IsShapedAt limit after) here later shaped) both.0)
        (each_sound path lines finding levels (suc k) trees rest all are within.1 (all_back (IsShapedAt limit after) here later shaped, both.1)))
