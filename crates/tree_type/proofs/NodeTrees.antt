-- The tree of a node, by its kind.
use Rattle.std.proofs.Common.{◌≡◌, ◌∙◌, ap, sym}
use Rattle.std.specs.declared.alloc.Global.{Global}
use Rattle.std.specs.declared.boxed.Box.{Box}
use Rattle.cmr_base.specs.declared.item_list.ItemList.{ItemList}
use Rattle.cmr_base.specs.declared.line.Line.{Line}
use Rattle.cmr_base.specs.declared.line_set.LineSet.{LineSet}
use Rattle.cmr_base.specs.declared.separation.Two.{Two}
use Rattle.cmr_base.specs.declared.separation.Three.{Three}
use Rattle.cmr_base.specs.declared.position.Position.{Position}
use Rattle.tree_type.specs.declared.tree.Node.{Node, fold_out-Node}
use Rattle.tree_type.specs.declared.tree.NodeList.{NodeList}
use Rattle.tree_type.specs.declared.tree.Kind.{Kind}
use Rattle.tree_type.specs.declared.tree.Kind.TheFolds.{fold-Kind, fold-roll-Kind}
use Rattle.tree_type.specs.declared.tree.Kind.TheOpen as open'
use Rattle.tree_type.specs.declared.tree.Kind.TheVariants as kind
use Rattle.tree_type.specs.DecompositionTrees.{Finding, Empty, Cycle, Reduced, OneSum, TwoSum, ThreeSum, Violator, Pivoted, Tree, Trees, Branch, NoTrees, one_tree, two_trees, kind_step, node_step, list_step, tree_of, trees_of}

-- the finding of a kind, and the trees of the children
abbrev pub said : Kind → Finding × Trees
said = fold-Kind (Finding × Trees) Tree Trees kind_step node_step list_step

pub tree_is : (node : Node) → tree_of node ≡ Branch node.lines (said node.kind).0 (said node.kind).1
tree_is node = fold_out-Node (Finding × Trees) Tree Trees kind_step node_step list_step node

pub said_empty : said kind.Empty ≡ (Empty, NoTrees)
said_empty = ap said (sym kind.rolls-Empty) ∙ fold-roll-Kind (Finding × Trees) Tree Trees kind_step node_step list_step open'.Empty

pub said_cycle : (fault : LineSet) → said (kind.Cycle fault) ≡ (Cycle fault, NoTrees)
said_cycle fault = ap said (sym (kind.rolls-Cycle fault)) ∙ fold-roll-Kind (Finding × Trees) Tree Trees kind_step node_step list_step (open'.Cycle fault)

pub said_violator : (fault : LineSet) → said (kind.Violator fault) ≡ (Violator fault, NoTrees)
said_violator fault = ap said (sym (kind.rolls-Violator fault)) ∙ fold-roll-Kind (Finding × Trees) Tree Trees kind_step node_step list_step (open'.Violator fault)

pub said_reduced : (steps : ItemList Line) (child : Box Node Global) → said (kind.Reduced steps child) ≡ (Reduced steps, one_tree (tree_of child.value))
said_reduced steps child = ap said (sym (kind.rolls-Reduced steps child)) ∙ fold-roll-Kind (Finding × Trees) Tree Trees kind_step node_step list_step (open'.Reduced steps child)

pub said_pivoted : (place : Position) (child : Box Node Global) → said (kind.Pivoted place child) ≡ (Pivoted place, one_tree (tree_of child.value))
said_pivoted place child = ap said (sym (kind.rolls-Pivoted place child)) ∙ fold-roll-Kind (Finding × Trees) Tree Trees kind_step node_step list_step (open'.Pivoted place child)

pub said_one_sum : (children : NodeList) → said (kind.OneSum children) ≡ (OneSum, trees_of children)
said_one_sum children = ap said (sym (kind.rolls-OneSum children)) ∙ fold-roll-Kind (Finding × Trees) Tree Trees kind_step node_step list_step (open'.OneSum children)

pub said_two_sum : (two : Two) (one_child : Box Node Global) (two_child : Box Node Global)
    → said (kind.TwoSum two one_child two_child) ≡ (TwoSum two, two_trees (tree_of one_child.value) (tree_of two_child.value))
said_two_sum two one_child two_child = ap said (sym (kind.rolls-TwoSum two one_child two_child)) ∙ fold-roll-Kind (Finding × Trees) Tree Trees kind_step node_step list_step (open'.TwoSum two one_child two_child)

pub said_three_sum : (three : Three) (one_child : Box Node Global) (two_child : Box Node Global)
    → said (kind.ThreeSum three one_child two_child) ≡ (ThreeSum three, two_trees (tree_of one_child.value) (tree_of two_child.value))
said_three_sum three one_child two_child = ap said (sym (kind.rolls-ThreeSum three one_child two_child)) ∙ fold-roll-Kind (Finding × Trees) Tree Trees kind_step node_step list_step (open'.ThreeSum three one_child two_child)
