-- The lines of a list of nodes.
use Rattle.std.specs.Prelude.{List, map}
use Rattle.cmr_base.specs.declared.line_set.LineSet.{LineSet}
use Rattle.tree_type.specs.declared.tree.Node.{Node}

abbrev pub line_sets : List Node → List LineSet
line_sets nodes = map (λ node. node.lines) nodes
