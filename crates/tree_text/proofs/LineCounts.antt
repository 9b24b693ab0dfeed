-- A tree's text has a line for each node.
use Rattle.std.proofs.Common.{◌≤◌, ℕ, List, [], ◌∷◌, length, arith}
use Rattle.std.specs.List.{join_with_byte}
use Rattle.std.proofs.lemmas.List.{length-append}
use Rattle.text_fields.specs.Written.{text_line, text_of_lines}
use Rattle.tree_type.specs.NodeCounts.{node_count, nodes_below}
use Rattle.tree_type.specs.DecompositionTrees.{Tree, Trees, Branch, NoTrees, MoreTrees}
use Rattle.tree_text.specs.CanonicalTrees.{opening_lines, node_lines, forest_lines, tree_lines, tree_text}

mutual
  nodes_have_lines : (tree : Tree) → node_count tree ≤ length (node_lines tree)
  nodes_have_lines (Branch lines finding trees) =
      let whole = length-append (opening_lines (Branch lines finding trees)) (forest_lines trees) in
      let below = forests_have_lines trees in
      omega (arith, whole, below)

  forests_have_lines : (trees : Trees) → nodes_below trees ≤ length (forest_lines trees)
  forests_have_lines NoTrees = omega arith
  forests_have_lines (MoreTrees tree trees) =
      let whole = length-append (node_lines tree) (forest_lines trees) in
      let first = nodes_have_lines tree in
      let others = forests_have_lines trees in
      omega (arith, whole, first, others)

lines_have_bytes : (lines : List (List (List ℕ))) → length lines ≤ length (text_of_lines lines)
lines_have_bytes [] = omega arith
lines_have_bytes (line ∷ lines) =
    let whole = length-append (text_line line) (text_of_lines lines) in
    let end = length-append (join_with_byte 32 line) (10 ∷ []) in
    let others = lines_have_bytes lines in
    omega (arith, whole, end, others)

pub nodes_have_bytes : (rows columns : ℕ) (root : Tree) → node_count root ≤ length (tree_text rows columns root)
nodes_have_bytes rows columns root =
    let nodes = nodes_have_lines root in
    let bytes = lines_have_bytes (tree_lines rows columns root) in
    omega (arith, nodes, bytes)
