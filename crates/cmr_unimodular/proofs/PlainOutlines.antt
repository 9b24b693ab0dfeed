-- The outline of a tree does not depend on its networks.
use Rattle.std.proofs.Common.{◌≡◌, ◌∙◌, ◌+◌, ◌++◌, ℕ, refl, ap, ap₂, sym}
use Rattle.cmr_base.specs.declared.line_set.LineSet.{LineSet}
use Rattle.tree_type.specs.DecompositionTrees.{Finding, Empty, Cycle, Reduced, OneSum, Network, Conetwork, R10, TwoSum, ThreeSum, Enumerated, Violator, Undecided, Pivoted, Tree, Trees, Branch, NoTrees, MoreTrees}
use Rattle.decomp_tree.specs.PlainTrees.{plain_finding, plain_tree, plain_trees}
use Rattle.cmr_unimodular.specs.Outline.{outline_below, outline_from, outline_line}

line_plain : (depth : ℕ) (lines : LineSet) (f : Finding) → outline_line depth lines f ≡ outline_line depth lines (plain_finding f)
line_plain depth lines Empty = refl
line_plain depth lines (Cycle fault) = refl
line_plain depth lines (Reduced steps) = refl
line_plain depth lines OneSum = refl
line_plain depth lines (Network n) = refl
line_plain depth lines (Conetwork n) = refl
line_plain depth lines R10 = refl
line_plain depth lines (TwoSum two) = refl
line_plain depth lines (ThreeSum three) = refl
line_plain depth lines Enumerated = refl
line_plain depth lines (Violator fault) = refl
line_plain depth lines Undecided = refl
line_plain depth lines (Pivoted place) = refl

mutual
  outline_plain : (depth : ℕ) (tree : Tree) → outline_from depth tree ≡ outline_from depth (plain_tree tree)
  outline_plain depth (Branch lines finding trees) = ap₂ ◌++◌ (line_plain depth lines finding) (below_plain (depth + 1) trees)

  below_plain : (depth : ℕ) (trees : Trees) → outline_below depth trees ≡ outline_below depth (plain_trees trees)
  below_plain depth NoTrees = refl
  below_plain depth (MoreTrees tree trees) = ap₂ ◌++◌ (outline_plain depth tree) (below_plain depth trees)

pub one_outline : (depth : ℕ) (tree other : Tree) → plain_tree tree ≡ plain_tree other → outline_from depth tree ≡ outline_from depth other
one_outline depth tree other e = outline_plain depth tree ∙ ap (outline_from depth) e ∙ sym (outline_plain depth other)
