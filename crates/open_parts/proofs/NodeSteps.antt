-- The nodes of a tree whose children are tried one after another.
use Rattle.std.proofs.Common.{◌≡◌, ◌≤◌, ◌+◌, ◌-◌, ◌∙◌, ◌++◌, ℕ, zero, suc, true, false, List, [], ◌∷◌, Some, length, map, slice_get, take, drop, ap, sym, subst}
use Rattle.std.proofs.lemmas.List.{map-append, take_all, take_more}
use Rattle.std.proofs.lemmas.Option.{get_or_from_slice_get, slice_get_within}
use Rattle.cmr_base.specs.declared.line_set.LineSet.{LineSet}
use Rattle.cmr_base.specs.Matrix.{Matrix}
use Rattle.tree_type.specs.declared.tree.Node.{Node}
use Rattle.tree_type.specs.DecompositionTrees.{Tree, Trees, Branch, children_of, finding_of, lines_at_root, list_of, tree_of, trees_below, trees_from}
use Rattle.tree_type.specs.Invariant.{AreLines, AreTreesWithin, HasChildren}
use Rattle.tree_type.proofs.Forests.{count_of}
use Rattle.tree_type.proofs.NodeChildren.{trees_back}
use Rattle.tree_type.proofs.NodeTrees.{tree_is}
use Rattle.tree_type.proofs.PlacedLines.{lines_within}
use Rattle.decomp_tree.specs.Refined.{AllRefine, Refines, is_undecided}
use Rattle.decomp_tree.proofs.RefinedTrees.{count_refined, refined_kept, refined_more}
use Rattle.decomp_tree.proofs.Settled.{only_undecided_is}
use Rattle.open_parts.specs.LinesOfNodes.{HasLinesOf}

pub root_lines_is : (node : Node) → lines_at_root (tree_of node) ≡ node.lines
root_lines_is node = ap lines_at_root (tree_is node)

-- ---- the lines of children

pub root_lines_of : (m : Matrix) (tree : Tree) → HasLinesOf m tree → AreLines m (lines_at_root tree)
root_lines_of m (Branch lines finding trees) has = lines_within m lines has.parent has.within.1 has.are

within_rest : (lines : LineSet) (levels : ℕ) (trees : List Tree) (i : ℕ) → AreTreesWithin lines levels (trees_from trees) → AreTreesWithin lines levels (trees_from (drop i trees))
within_rest lines levels trees zero all = all
within_rest lines levels [] (suc i) all = all
within_rest lines levels (tree ∷ trees) (suc i) all = within_rest lines levels trees i all.1

-- the first of the children from a position on
pub child_lines : (m : Matrix) (tree child : Tree) (i : ℕ) (rest : List Tree) → drop i (children_of tree) ≡ child ∷ rest → HasLinesOf m tree → HasLinesOf m child
child_lines m (Branch lines finding trees) child i rest e has =
    let all = subst (AreTreesWithin lines (has.levels - 1)) (sym (trees_back trees)) has.within.4 in
    let from = within_rest lines (has.levels - 1) (list_of trees) i all in
    let first = subst (λ (ts : List Tree). AreTreesWithin lines (has.levels - 1) (trees_from ts)) e from in
    record { parent = lines; levels = has.levels - 1; are = lines_within m lines has.parent has.within.1 has.are; within = first.0 }

-- ---- children that are tried

module _ (Replaces : LineSet → Tree → Type 0) where
  -- the node with its children refined
  pub node_refined : (tree made : Tree) (below : Trees) → is_undecided (finding_of tree) ≡ false → made ≡ Branch (lines_at_root tree) (finding_of tree) below
      → AllRefine Replaces (trees_below tree) below → Refines Replaces tree made
  node_refined (Branch lines finding trees) made below e same all = subst (Refines Replaces (Branch lines finding trees)) (sym same) (refined_kept Replaces lines finding trees below e all)

  -- an undecided node
  pub leaf_refined : (node : Node) (made : Tree) → is_undecided (finding_of (tree_of node)) ≡ true → Replaces node.lines made → Refines Replaces (tree_of node) made
  leaf_refined node made e replaces = go (tree_of node) e (root_lines_is node)
    where
      go : (tree : Tree) → is_undecided (finding_of tree) ≡ true → lines_at_root tree ≡ node.lines → Refines Replaces tree made
      go (Branch lines finding trees) is same = subst (λ f. Refines Replaces (Branch lines f trees) made) (sym (only_undecided_is finding is)) (subst (λ l. Replaces l made) (sym same) replaces)

  -- one more child
  pub more_refined : (trees : List Tree) (i : ℕ) (child : Tree) → slice_get trees i ≡ Some child → (before after : List Node) (made : Node) → after ≡ before ++ made ∷ []
      → AllRefine Replaces (trees_from (take i trees)) (trees_from (map tree_of before)) → Refines Replaces child (tree_of made)
      → AllRefine Replaces (trees_from (take (i + 1) trees)) (trees_from (map tree_of after))
  more_refined trees i child found before after made e all r =
      let taken = take_more trees i child (slice_get_within trees i child found) ∙ ap (λ (t : Tree). take i trees ++ t ∷ []) (get_or_from_slice_get trees i child child found) in
      subst (λ (ts : List Tree). AllRefine Replaces (trees_from ts) (trees_from (map tree_of after))) (sym taken)
      (subst (λ (ns : List Node). AllRefine Replaces (trees_from (take i trees ++ child ∷ [])) (trees_from (map tree_of ns))) (sym e)
      (subst (λ (ts : List Tree). AllRefine Replaces (trees_from (take i trees ++ child ∷ [])) (trees_from ts)) (sym (map-append tree_of before (made ∷ [])))
      (refined_more Replaces (take i trees) (map tree_of before) child (tree_of made) all r)))

  -- all children
  pub children_refined : (tree : Tree) (i : ℕ) → length (children_of tree) ≤ i → (made : Trees)
      → AllRefine Replaces (trees_from (take i (children_of tree))) made → AllRefine Replaces (trees_below tree) made
  children_refined (Branch lines finding trees) i l made all =
      subst (λ ts. AllRefine Replaces ts made) (trees_back trees) (subst (λ (ts : List Tree). AllRefine Replaces (trees_from ts) made) (take_all i (list_of trees) l) all)

-- as many children as the finding needs
pub node_children : (m : Matrix) (Replaces : LineSet → Tree → Type 0) (tree : Tree) (made : List Node) → HasLinesOf m tree
    → AllRefine Replaces (trees_below tree) (trees_from (map tree_of made)) → HasChildren (finding_of tree) (length made)
node_children m Replaces (Branch lines finding trees) made has all = subst (HasChildren finding) (sym (sym (count_of made) ∙ count_refined Replaces trees (trees_from (map tree_of made)) all)) has.within.3
