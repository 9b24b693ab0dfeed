-- Trees in which other trees replace undecided nodes.
use Rattle.std.specs.Prelude.{◌≡◌, Bool, true, false}
use Rattle.cmr_base.specs.declared.line_set.LineSet.{LineSet}
use Rattle.tree_type.specs.DecompositionTrees.{Finding, Undecided, Tree, Trees, Branch, NoTrees, MoreTrees}

abbrev pub is_undecided : Finding → Bool
is_undecided Undecided = true
is_undecided finding = false

abbrev mutual
  -- The second tree is the first one, except that each undecided node is replaced by one of these trees for the lines of the node.
  pub Refines : (LineSet → Tree → Type 0) → Tree → Tree → Type 0
  Refines Replaces (Branch lines Undecided trees) tree = Replaces lines tree
  Refines Replaces (Branch lines finding trees) tree =
      (below : Trees) × (tree ≡ Branch lines finding below) × AllRefine Replaces trees below

  pub AllRefine : (LineSet → Tree → Type 0) → Trees → Trees → Type 0
  AllRefine Replaces NoTrees below = below ≡ NoTrees
  AllRefine Replaces (MoreTrees tree trees) below =
      (first : Tree) × (rest : Trees) × (below ≡ MoreTrees first rest)
      × Refines Replaces tree first × AllRefine Replaces trees rest
