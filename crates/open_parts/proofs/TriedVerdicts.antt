-- The verdicts of trees whose undecided nodes are tried.
use Rattle.std.proofs.Common.{◌≡◌, ◌-◌, ◌∙◌, inl, inr, ℕ, false, Option, Some, None, refl, ap, ap₂, sym, subst}
use Rattle.std.specs.Option.{option_or}
use Rattle.cmr_base.specs.declared.line_set.LineSet.{LineSet}
use Rattle.cmr_base.specs.Matrix.{Matrix}
use Rattle.cmr_base.proofs.Booleans.{true_is_false}
use Rattle.cmr_base.proofs.Options.{some_or, some_same}
use Rattle.tree_type.specs.DecompositionTrees.{Finding, Empty, Cycle, Reduced, OneSum, Network, Conetwork, R10, TwoSum, ThreeSum, Enumerated, Violator, Undecided, Pivoted, Tree, Trees, Branch, NoTrees, MoreTrees, count_trees}
use Rattle.tree_type.specs.Invariant.{HasChildren, IsTreeWithin, AreTreesWithin}
use Rattle.tree_type.specs.Verdicts.{first_in, first_among, fault_at, open_at}
use Rattle.tree_laws.proofs.SoundTrees.{none_or}
use Rattle.decomp_tree.specs.PlainTrees.{plain_finding, plain_tree, plain_trees}
use Rattle.decomp_tree.specs.Refined.{is_undecided, Refines, AllRefine}
use Rattle.decomp_tree.proofs.OnePivoted.{refined_same}
use Rattle.decomp_tree.proofs.OpenNodes.{open_kept}
use Rattle.decomp_tree.proofs.RefinedTrees.{RefinedNode, replaced, kept, refined_node}
use Rattle.open_parts.specs.Rests.{IsFoundInRests, turns_of}
use Rattle.open_parts.specs.TriedShapes.{IsTriedLeaf, leaf_with}
use Rattle.open_parts.proofs.RestSearches.{one_found}

pub none_is_some : {A B : Type 0} (x : A) → None ≡ Some x → B
none_is_some x e = absurd (cc)

no_children : (trees : Trees) → count_trees trees ≡ 0 → trees ≡ NoTrees
no_children NoTrees e = refl
no_children (MoreTrees tree trees) e = cc

module _ (limit : ℕ) (m : Matrix) where
  -- what replaces a node is unique
  pub one_leaf : (lines : LineSet) (tree other : Tree) → IsTriedLeaf limit m lines tree → IsTriedLeaf limit m lines other → tree ≡ other
  one_leaf lines tree other (found, search, e) (found', search', e') = e ∙ ap (leaf_with lines) (one_found limit m (turns_of lines) lines found found' search search') ∙ sym e'

  -- ---- two trees

  pub tried_same : (drawn drawn' tree tree' : Tree) → plain_tree drawn ≡ plain_tree drawn' → Refines (IsTriedLeaf limit m) drawn tree
      → Refines (IsTriedLeaf limit m) drawn' tree' → plain_tree tree ≡ plain_tree tree'
  tried_same = refined_same (IsTriedLeaf limit m) (λ lines tree other leaf leaf'. ap plain_tree (one_leaf lines tree other leaf leaf'))

  -- ---- trees that stay

  mutual
    -- a tree without an undecided node stays
    pub closed_same : (drawn tree : Tree) → first_in open_at drawn ≡ None → Refines (IsTriedLeaf limit m) drawn tree → tree ≡ drawn
    closed_same (Branch lines finding trees) tree closed r =
        go (refined_node (IsTriedLeaf limit m) lines finding trees tree r) (λ below all. all_closed trees below lefts.1 all)
      where
        lefts : (open_at lines finding ≡ None) × (first_among open_at trees ≡ None)
        lefts = none_or (open_at lines finding) (first_among open_at trees) closed

        go : RefinedNode (IsTriedLeaf limit m) lines finding trees tree → ((below : Trees) → AllRefine (IsTriedLeaf limit m) trees below → below ≡ trees) → tree ≡ Branch lines finding trees
        go (replaced is leaf) each = none_is_some lines (sym lefts.0 ∙ ap (open_at lines) is)
        go (kept is below at all) each = at ∙ ap (λ (ts : Trees). Branch lines finding ts) (each below all)

    all_closed : (trees below : Trees) → first_among open_at trees ≡ None → AllRefine (IsTriedLeaf limit m) trees below → below ≡ trees
    all_closed NoTrees below closed e = e
    all_closed (MoreTrees tree trees) below closed (first, rest, at, r, all) =
        let lefts = none_or (first_in open_at tree) (first_among open_at trees) closed in
        at ∙ ap₂ (λ (t : Tree) (ts : Trees). MoreTrees t ts) (closed_same tree first lefts.0 r) (all_closed trees rest lefts.1 all)

  mutual
    -- a tree stays if nothing is found at its undecided nodes
    pub faultless_same : (parent : LineSet) (levels : ℕ) (drawn tree : Tree) → IsTreeWithin parent levels drawn → first_in fault_at tree ≡ None
        → Refines (IsTriedLeaf limit m) drawn tree → tree ≡ drawn
    faultless_same parent levels (Branch lines finding trees) tree within none r =
        go (refined_node (IsTriedLeaf limit m) lines finding trees tree r) (λ below all e. all_faultless lines (levels - 1) trees below within.4 e all)
      where
        leaf_same : finding ≡ Undecided → (found : Option LineSet) → tree ≡ leaf_with lines found → tree ≡ Branch lines finding trees
        leaf_same is None at = at ∙ ap₂ (λ (f : Finding) (ts : Trees). Branch lines f ts) (sym is) (sym (no_children trees (subst (λ f. HasChildren f (count_trees trees)) is within.3)))
        leaf_same is (Some fault) at = none_is_some fault (sym none ∙ ap (first_in fault_at) at)

        go : RefinedNode (IsTriedLeaf limit m) lines finding trees tree
            → ((below : Trees) → AllRefine (IsTriedLeaf limit m) trees below → first_among fault_at below ≡ None → below ≡ trees)
            → tree ≡ Branch lines finding trees
        go (replaced is (found, search, at)) each = leaf_same is found at
        go (kept is below at all) each =
            at ∙ ap (λ (ts : Trees). Branch lines finding ts) (each below all (none_or (fault_at lines finding) (first_among fault_at below) (sym (ap (first_in fault_at) at) ∙ none)).1)

    all_faultless : (lines : LineSet) (levels : ℕ) (trees below : Trees) → AreTreesWithin lines levels trees → first_among fault_at below ≡ None
        → AllRefine (IsTriedLeaf limit m) trees below → below ≡ trees
    all_faultless lines levels NoTrees below within none e = e
    all_faultless lines levels (MoreTrees tree trees) below within none (first, rest, at, r, all) =
        let faults = none_or (first_in fault_at first) (first_among fault_at rest) (sym (ap (first_among fault_at) at) ∙ none) in
        at ∙ ap₂ (λ (t : Tree) (ts : Trees). MoreTrees t ts) (faultless_same lines levels tree first within.0 faults.0 r) (all_faultless lines levels trees rest within.1 faults.1 all)

  -- ---- what stays open

  mutual
    -- nothing was found in the rests of the first undecided node
    pub open_tried : (drawn tree : Tree) (found : LineSet) → first_in fault_at tree ≡ None → first_in open_at tree ≡ Some found
        → Refines (IsTriedLeaf limit m) drawn tree → IsFoundInRests limit m found None
    open_tried (Branch lines finding trees) tree found none first r =
        go (refined_node (IsTriedLeaf limit m) lines finding trees tree r) (λ below all e f. each_tried trees below found e f all)
      where
        leaf_tried : (result : Option LineSet) → IsFoundInRests limit m lines result → tree ≡ leaf_with lines result → IsFoundInRests limit m found None
        leaf_tried None search at = subst (λ l. IsFoundInRests limit m l None) (some_same lines found (sym (ap (first_in open_at) at) ∙ first)) search
        leaf_tried (Some fault) search at = none_is_some fault (sym none ∙ ap (first_in fault_at) at)

        go : RefinedNode (IsTriedLeaf limit m) lines finding trees tree
            → ((below : Trees) → AllRefine (IsTriedLeaf limit m) trees below → first_among fault_at below ≡ None → first_among open_at below ≡ Some found → IsFoundInRests limit m found None)
            → IsFoundInRests limit m found None
        go (replaced is (result, search, at)) each = leaf_tried result search at
        go (kept is below at all) each =
            each below all (none_or (fault_at lines finding) (first_among fault_at below) (sym (ap (first_in fault_at) at) ∙ none)).1
            (ap (λ (o : Option LineSet). option_or o (first_among open_at below)) (sym (open_kept lines finding is)) ∙ sym (ap (first_in open_at) at) ∙ first)

    each_tried : (trees below : Trees) (found : LineSet) → first_among fault_at below ≡ None → first_among open_at below ≡ Some found
        → AllRefine (IsTriedLeaf limit m) trees below → IsFoundInRests limit m found None
    each_tried NoTrees below found none first e = none_is_some found (sym (ap (first_among open_at) e) ∙ first)
    each_tried (MoreTrees tree trees) below found none first (one, rest, at, r, all) =
        let faults = none_or (first_in fault_at one) (first_among fault_at rest) (sym (ap (first_among fault_at) at) ∙ none) in
        elim (some_or (first_in open_at one) (first_among open_at rest) found (sym (ap (first_among open_at) at) ∙ first)) [
          | inl h ↦ open_tried tree one found faults.0 h r
          | inr h ↦ each_tried trees rest found faults.1 h all
        ]
