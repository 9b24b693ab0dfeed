use Rattle.std.proofs.Common.{◌≡◌, ◌≢◌, ◌-◌, ◌&&◌, ℕ, zero, suc, Bool, refl, ap, sym, arith}
use Rattle.cmr_base.proofs.Booleans.{is_lt}
use Rattle.tree_type.specs.DecompositionTrees.{Tree, Branch, children_of, tree_of, trees_from}
use Rattle.tree_type.proofs.NodeChildren.{trees_back}
use Rattle.decomp_tree.specs.Levels.{is_on_levels, are_on_levels}
use Rattle.decomp_tree.proofs.levels.+is_on_levels.Goals as goal

levels_of_children : (levels : ℕ) (tree : Tree) → levels ≢ 0 → are_on_levels (levels - 1) (trees_from (children_of tree)) ≡ is_on_levels levels tree
levels_of_children zero tree some = absurd (some refl)
levels_of_children (suc levels) (Branch lines finding trees) some =
    rw (trees_back trees) (sym (ap (λ (b : Bool). b && are_on_levels (suc levels - 1) trees) (is_lt 0 (suc levels) (omega arith))))

pub loop-index-init : goal.loop-index-init
loop-index-init t c = levels_of_children c.args.levels (tree_of c.args.node.now) c.if-levels-eq0.false
