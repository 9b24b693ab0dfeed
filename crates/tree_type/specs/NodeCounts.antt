-- The number of nodes of a tree.
use Rattle.std.specs.Prelude.{◌+◌, ℕ, suc}
use Rattle.tree_type.specs.DecompositionTrees.{Tree, Trees, Branch, NoTrees, MoreTrees}

abbrev mutual
  -- a node and the nodes below it
  pub node_count : Tree → ℕ
  node_count (Branch lines finding trees) = suc (nodes_below trees)

  pub nodes_below : Trees → ℕ
  nodes_below NoTrees = 0
  nodes_below (MoreTrees tree trees) = node_count tree + nodes_below trees
