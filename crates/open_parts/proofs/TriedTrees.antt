-- Trees whose undecided nodes are tried: their lines, their levels and their rules.
use Rattle.std.proofs.Common.{◌≡◌, ◌≤◌, ◌-◌, ◌++◌, inl, ℕ, suc, List, [], ◌∷◌, Option, Some, None, refl, sym, subst}
use Rattle.std.specs.List.{AllByRecursion}
use Rattle.cmr_base.specs.declared.line_set.LineSet.{LineSet}
use Rattle.cmr_base.specs.Matrix.{Matrix, IsMatrix}
use Rattle.cmr_base.proofs.Lists.{all-append, all_prefix, all_back}
use Rattle.tree_type.specs.declared.refusal.Rule.TheVariants as rule
use Rattle.tree_type.specs.DecompositionTrees.{Finding, Empty, Cycle, Reduced, OneSum, Network, Conetwork, R10, TwoSum, ThreeSum, Enumerated, Violator, Undecided, Pivoted, Tree, Trees, Branch, NoTrees, MoreTrees, count_trees, lines_at_root}
use Rattle.tree_type.specs.Invariant.{AreLines, size_of, FitsLines, HasChildren, IsTreeWithin, AreTreesWithin}
use Rattle.tree_type.specs.Places.{Due, MadePivot, pivots_below, due_child, places_from, places_below}
use Rattle.tree_type.specs.Soundness.{HasItsSizes, HasItsLines, MayStand, KeepsAll}
use Rattle.tree_type.proofs.PlacedLines.{lines_within}
use Rattle.decomp_tree.specs.Refined.{Refines, AllRefine}
use Rattle.decomp_tree.proofs.PivotNodes.{undecided_sound, violator_sound}
use Rattle.decomp_tree.proofs.FoundTrees.{fits_as_many}
use Rattle.decomp_tree.proofs.RefinedTrees.{RefinedNode, replaced, kept, refined_node, count_refined, refined_lines_each}
use Rattle.open_parts.specs.Rests.{IsFoundInRests, turns_of}
use Rattle.open_parts.specs.TriedShapes.{IsTriedLeaf, leaf_with}
use Rattle.open_parts.proofs.RestSearches.{found_violates}

-- an undecided node has no pivot above it
no_pivots : (pivots : List MadePivot) → MayStand pivots Undecided → pivots ≡ []
no_pivots [] may = refl
no_pivots (last ∷ pivots) may = absurd may

leaf_lines : (lines : LineSet) (found : Option LineSet) → lines_at_root (leaf_with lines found) ≡ lines
leaf_lines lines None = refl
leaf_lines lines (Some fault) = refl

-- what replaces a node is on the lines of the node
pub tried_lines : (limit : ℕ) (m : Matrix) (lines : LineSet) (tree : Tree) → IsTriedLeaf limit m lines tree → lines_at_root tree ≡ lines
tried_lines limit m lines tree (found, search, e) = subst (λ t. lines_at_root t ≡ lines) (sym e) (leaf_lines lines found)

module _ (limit : ℕ) (m : Matrix) (is : IsMatrix m) where
  -- ---- lines and levels

  leaf_within : (lines parent : LineSet) (levels : ℕ) (found : Option LineSet) (trees : Trees) → AreLines m lines
      → IsTreeWithin parent levels (Branch lines Undecided trees) → IsFoundInRests limit m lines found → IsTreeWithin parent levels (leaf_with lines found)
  leaf_within lines parent levels None trees here within search = (within.0, within.1, tt, refl, tt)
  leaf_within lines parent levels (Some fault) trees here within search = (within.0, within.1, (found_violates limit m is (turns_of lines) lines fault here search).among, refl, tt)

  mutual
    pub tried_within : (parent : LineSet) (levels : ℕ) (drawn tree : Tree) → AreLines m parent → IsTreeWithin parent levels drawn
        → Refines (IsTriedLeaf limit m) drawn tree → IsTreeWithin parent levels tree
    tried_within parent levels (Branch lines finding trees) tree are within r =
        go (refined_node (IsTriedLeaf limit m) lines finding trees tree r) (λ below all. each_within lines (levels - 1) trees below here within.4 all)
      where
        here : AreLines m lines
        here = lines_within m lines parent within.1 are

        go : RefinedNode (IsTriedLeaf limit m) lines finding trees tree
            → ((below : Trees) → AllRefine (IsTriedLeaf limit m) trees below → AreTreesWithin lines (levels - 1) below) → IsTreeWithin parent levels tree
        go (replaced e (found, search, same)) each =
            subst (IsTreeWithin parent levels) (sym same) (leaf_within lines parent levels found trees here (subst (λ f. IsTreeWithin parent levels (Branch lines f trees)) e within) search)
        go (kept e below same all) each = subst (IsTreeWithin parent levels) (sym same) (
          within.0,
          within.1,
          fits_as_many lines finding trees below (count_refined (IsTriedLeaf limit m) trees below all) within.2,
          subst (HasChildren finding) (sym (count_refined (IsTriedLeaf limit m) trees below all)) within.3,
          each below all,
        )

    each_within : (lines : LineSet) (levels : ℕ) (trees below : Trees) → AreLines m lines → AreTreesWithin lines levels trees
        → AllRefine (IsTriedLeaf limit m) trees below → AreTreesWithin lines levels below
    each_within lines levels NoTrees below are within e = subst (AreTreesWithin lines levels) (sym e) tt
    each_within lines levels (MoreTrees tree trees) below are within (first, rest, e, r, all) =
        subst (AreTreesWithin lines levels) (sym e) (tried_within lines levels tree first are within.0 r, each_within lines levels trees rest are within.1 all)

  -- ---- rules

  module _ (few : limit ≤ 24) where
    leaf_sound : (path : List ℕ) (due : Due) (lines : LineSet) (found : Option LineSet) → AreLines m lines → IsFoundInRests limit m lines found
        → HasItsSizes m due → HasItsLines due lines → AllByRecursion (KeepsAll m) (places_from path [] due (leaf_with lines found))
    leaf_sound path due lines None here search sizes has = undecided_sound m [] lines (inl refl) path due sizes has
    leaf_sound path due lines (Some fault) here search sizes has =
        violator_sound m [] lines fault ((found_violates limit m is (turns_of lines) lines fault here search).violator few) (inl refl) path due sizes has

    mutual
      pub tried_sound : (path : List ℕ) (pivots : List MadePivot) (due : Due) (parent : LineSet) (levels : ℕ) (drawn tree : Tree) → AreLines m parent
          → IsTreeWithin parent levels drawn → AllByRecursion (KeepsAll m) (places_from path pivots due drawn)
          → Refines (IsTriedLeaf limit m) drawn tree → AllByRecursion (KeepsAll m) (places_from path pivots due tree)
      tried_sound path pivots due parent levels (Branch lines finding trees) tree are within keeps r =
          go (refined_node (IsTriedLeaf limit m) lines finding trees tree r) (λ below all. each_sound path (pivots_below lines finding pivots) lines finding (levels - 1) 0 trees below here within.4 keeps.1 all)
        where
          here : AreLines m lines
          here = lines_within m lines parent within.1 are

          go : RefinedNode (IsTriedLeaf limit m) lines finding trees tree
              → ((below : Trees) → AllRefine (IsTriedLeaf limit m) trees below → AllByRecursion (KeepsAll m) (places_below path (pivots_below lines finding pivots) lines finding 0 below))
              → AllByRecursion (KeepsAll m) (places_from path pivots due tree)
          go (replaced e (found, search, same)) each =
              let none = no_pivots pivots (subst (MayStand pivots) e (keeps.0 rule.BelowPivot)) in
              subst (λ ps. AllByRecursion (KeepsAll m) (places_from path ps due tree)) (sym none)
              (subst (λ t. AllByRecursion (KeepsAll m) (places_from path [] due t)) (sym same) (leaf_sound path due lines found here search (keeps.0 rule.Size) (keeps.0 rule.Lines)))
          go (kept e below same all) each = subst (λ t. AllByRecursion (KeepsAll m) (places_from path pivots due t)) (sym same) (
            subst (λ children. KeepsAll m (record { path = path; pivots = pivots; due = due; lines = lines; finding = finding; children = children })) (sym (refined_lines_each (IsTriedLeaf limit m) (tried_lines limit m) trees below all)) keeps.0,
            each below all,
          )

      each_sound : (path : List ℕ) (pivots : List MadePivot) (lines : LineSet) (finding : Finding) (levels k : ℕ) (trees below : Trees) → AreLines m lines
          → AreTreesWithin lines levels trees → AllByRecursion (KeepsAll m) (places_below path pivots lines finding k trees)
          → AllRefine (IsTriedLeaf limit m) trees below → AllByRecursion (KeepsAll m) (places_below path pivots lines finding k below)
      each_sound path pivots lines finding levels k NoTrees below are within keeps e = subst (λ t. AllByRecursion (KeepsAll m) (places_below path pivots lines finding k t)) (sym e) tt
      each_sound path pivots lines finding levels k (MoreTrees tree trees) below are within keeps (first, rest, e, r, all) =
          let now = places_from (path ++ k ∷ []) pivots (due_child lines finding k) tree in
          let later = places_below path pivots lines finding (suc k) trees in
          subst (λ t. AllByRecursion (KeepsAll m) (places_below path pivots lines finding k t)) (sym e)
          (all-append (KeepsAll m) (places_from (path ++ k ∷ []) pivots (due_child lines finding k) first) (places_below path pivots lines finding (suc k) rest)
          (tried_sound (path ++ k ∷ []) pivots (due_child lines finding k) lines levels tree first are within.0 (all_prefix (KeepsAll m) now later keeps) r)
          (each_sound path pivots lines finding levels (suc k) trees rest are within.1 (all_back (KeepsAll m) now later keeps) all))
