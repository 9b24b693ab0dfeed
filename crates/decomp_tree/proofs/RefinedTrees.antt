-- Trees in which other trees replace undecided nodes: by their nodes, their lines and their counts.
use Rattle.std.proofs.Common.{◌≡◌, ◌∙◌, ◌++◌, suc, false, List, [], ◌∷◌, refl, ap, ap₂, subst}
use Rattle.cmr_base.specs.declared.line_set.LineSet.{LineSet}
use Rattle.tree_type.specs.DecompositionTrees.{Finding, Empty, Cycle, Reduced, OneSum, Network, Conetwork, R10, TwoSum, ThreeSum, Enumerated, Violator, Undecided, Pivoted, Tree, Trees, Branch, NoTrees, MoreTrees, trees_from, count_trees, lines_at_root}
use Rattle.tree_type.specs.Places.{lines_of_each}
use Rattle.decomp_tree.specs.Refined.{is_undecided, Refines, AllRefine}

-- an undecided node is replaced, every other stays and its children are refined
pub data RefinedNode (Replaces : LineSet → Tree → Type 0) (lines : LineSet) (finding : Finding) (trees : Trees) (tree : Tree) : Type 0 where
  replaced : finding ≡ Undecided → Replaces lines tree → RefinedNode Replaces lines finding trees tree
  kept : is_undecided finding ≡ false → (below : Trees) → tree ≡ Branch lines finding below → AllRefine Replaces trees below → RefinedNode Replaces lines finding trees tree

module _ (Replaces : LineSet → Tree → Type 0) where
  pub refined_node : (lines : LineSet) (finding : Finding) (trees : Trees) (tree : Tree) → Refines Replaces (Branch lines finding trees) tree → RefinedNode Replaces lines finding trees tree
  refined_node lines Undecided trees tree r = replaced refl r
  refined_node lines Empty trees tree r = kept refl r.0 r.1 r.2
  refined_node lines (Cycle fault) trees tree r = kept refl r.0 r.1 r.2
  refined_node lines (Reduced steps) trees tree r = kept refl r.0 r.1 r.2
  refined_node lines OneSum trees tree r = kept refl r.0 r.1 r.2
  refined_node lines (Network net) trees tree r = kept refl r.0 r.1 r.2
  refined_node lines (Conetwork net) trees tree r = kept refl r.0 r.1 r.2
  refined_node lines R10 trees tree r = kept refl r.0 r.1 r.2
  refined_node lines (TwoSum two) trees tree r = kept refl r.0 r.1 r.2
  refined_node lines (ThreeSum three) trees tree r = kept refl r.0 r.1 r.2
  refined_node lines Enumerated trees tree r = kept refl r.0 r.1 r.2
  refined_node lines (Violator fault) trees tree r = kept refl r.0 r.1 r.2
  refined_node lines (Pivoted place) trees tree r = kept refl r.0 r.1 r.2

  pub refined_kept : (lines : LineSet) (finding : Finding) (trees below : Trees) → is_undecided finding ≡ false → AllRefine Replaces trees below
      → Refines Replaces (Branch lines finding trees) (Branch lines finding below)
  refined_kept lines Undecided trees below e all = cc
  refined_kept lines Empty trees below e all = (below, refl, all)
  refined_kept lines (Cycle fault) trees below e all = (below, refl, all)
  refined_kept lines (Reduced steps) trees below e all = (below, refl, all)
  refined_kept lines OneSum trees below e all = (below, refl, all)
  refined_kept lines (Network net) trees below e all = (below, refl, all)
  refined_kept lines (Conetwork net) trees below e all = (below, refl, all)
  refined_kept lines R10 trees below e all = (below, refl, all)
  refined_kept lines (TwoSum two) trees below e all = (below, refl, all)
  refined_kept lines (ThreeSum three) trees below e all = (below, refl, all)
  refined_kept lines Enumerated trees below e all = (below, refl, all)
  refined_kept lines (Violator fault) trees below e all = (below, refl, all)
  refined_kept lines (Pivoted place) trees below e all = (below, refl, all)

  -- one more tree
  pub refined_more : (shapes trees : List Tree) (shape tree : Tree) → AllRefine Replaces (trees_from shapes) (trees_from trees) → Refines Replaces shape tree
      → AllRefine Replaces (trees_from (shapes ++ shape ∷ [])) (trees_from (trees ++ tree ∷ []))
  refined_more [] [] shape tree all one = (tree, NoTrees, refl, one, refl)
  refined_more [] (t ∷ trees) shape tree all one = cc
  refined_more (s ∷ shapes) [] shape tree (first, rest, e, r, all) one = cc
  refined_more (s ∷ shapes) (t ∷ trees) shape tree (first, rest, e, r, all) one =
      let tail : rest ≡ trees_from trees = cc in
      let head : first ≡ t = cc in
      (t, trees_from (trees ++ tree ∷ []), refl, subst (Refines Replaces s) head r, refined_more shapes trees shape tree (subst (AllRefine Replaces (trees_from shapes)) tail all) one)

  pub count_refined : (trees below : Trees) → AllRefine Replaces trees below → count_trees below ≡ count_trees trees
  count_refined NoTrees below e = ap count_trees e
  count_refined (MoreTrees tree trees) below (first, rest, e, r, all) = ap count_trees e ∙ ap suc (count_refined trees rest all)

  module _ (on_lines : (lines : LineSet) (tree : Tree) → Replaces lines tree → lines_at_root tree ≡ lines) where
    pub refined_lines : (shape tree : Tree) → Refines Replaces shape tree → lines_at_root tree ≡ lines_at_root shape
    refined_lines (Branch lines finding trees) tree r = go (refined_node lines finding trees tree r)
      where
        go : RefinedNode Replaces lines finding trees tree → lines_at_root tree ≡ lines
        go (replaced e replaces) = on_lines lines tree replaces
        go (kept e below is all) = ap lines_at_root is

    pub refined_lines_each : (trees below : Trees) → AllRefine Replaces trees below → lines_of_each below ≡ lines_of_each trees
    refined_lines_each NoTrees below e = ap lines_of_each e
    refined_lines_each (MoreTrees tree trees) below (first, rest, e, r, all) =
        ap lines_of_each e ∙ ap₂ (λ x xs. x ∷ xs) (refined_lines tree first r) (refined_lines_each trees rest all)
