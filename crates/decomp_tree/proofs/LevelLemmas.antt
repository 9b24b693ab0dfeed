-- Trees with a number of levels.
use Rattle.std.proofs.Common.{◌≡◌, ◌-◌, ◌&&◌, ◌∙◌, ℕ, true, Bool, nat_lt, refl, ap, ap₂, sym}
use Rattle.cmr_base.specs.declared.line_set.LineSet.{LineSet}
use Rattle.cmr_base.proofs.Booleans.{and_is, lt_of}
use Rattle.tree_type.specs.DecompositionTrees.{Tree, Trees, Branch, NoTrees, MoreTrees}
use Rattle.tree_type.specs.Invariant.{IsTreeWithin, AreTreesWithin}
use Rattle.decomp_tree.specs.Levels.{is_on_levels, are_on_levels}
use Rattle.decomp_tree.specs.PlainTrees.{plain_tree, plain_trees}

mutual
  levels_plain : (levels : ℕ) (tree : Tree) → is_on_levels levels (plain_tree tree) ≡ is_on_levels levels tree
  levels_plain levels (Branch lines finding trees) = ap (λ (b : Bool). nat_lt 0 levels && b) (all_plain (levels - 1) trees)

  all_plain : (levels : ℕ) (trees : Trees) → are_on_levels levels (plain_trees trees) ≡ are_on_levels levels trees
  all_plain levels NoTrees = refl
  all_plain levels (MoreTrees tree trees) = ap₂ (λ (b c : Bool). b && c) (levels_plain levels tree) (all_plain levels trees)

-- trees that differ at most in their networks have the same number of levels
pub same_levels : (levels : ℕ) (tree other : Tree) → plain_tree tree ≡ plain_tree other → is_on_levels levels tree ≡ is_on_levels levels other
same_levels levels tree other same = sym (levels_plain levels tree) ∙ ap (is_on_levels levels) same ∙ levels_plain levels other

mutual
  -- a tree with few levels is a tree within these
  pub within_levels : (parent : LineSet) (more levels : ℕ) (tree : Tree) → IsTreeWithin parent more tree → is_on_levels levels tree ≡ true → IsTreeWithin parent levels tree
  within_levels parent more levels (Branch lines finding trees) is e =
      let both = and_is (nat_lt 0 levels) (are_on_levels (levels - 1) trees) e in
      (lt_of 0 levels both.0, is.1, is.2, is.3, all_within_levels lines (more - 1) (levels - 1) trees is.4 both.1)

  all_within_levels : (parent : LineSet) (more levels : ℕ) (trees : Trees) → AreTreesWithin parent more trees → are_on_levels levels trees ≡ true → AreTreesWithin parent levels trees
  all_within_levels parent more levels NoTrees are e = tt
  all_within_levels parent more levels (MoreTrees tree trees) are e =
      let both = and_is (is_on_levels levels tree) (are_on_levels levels trees) e in
      (within_levels parent more levels tree are.0 both.0, all_within_levels parent more levels trees are.1 both.1)
