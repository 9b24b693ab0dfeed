-- The levels of a tree.
use Rattle.std.specs.Prelude.{◌-◌, ◌&&◌, ℕ, Bool, true, nat_lt}
use Rattle.tree_type.specs.DecompositionTrees.{Tree, Trees, Branch, NoTrees, MoreTrees}

abbrev mutual
  -- whether the tree has at most this number of levels
  pub is_on_levels : ℕ → Tree → Bool
  is_on_levels levels (Branch lines finding trees) = nat_lt 0 levels && are_on_levels (levels - 1) trees

  pub are_on_levels : ℕ → Trees → Bool
  are_on_levels levels NoTrees = true
  are_on_levels levels (MoreTrees tree trees) = is_on_levels levels tree && are_on_levels levels trees
