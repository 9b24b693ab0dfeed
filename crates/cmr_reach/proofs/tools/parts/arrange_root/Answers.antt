use Rattle.tree_type.specs.DecompositionTrees.{ThreeSum, TwoSum, tree_of, two_trees}
use Rattle.tree_type.specs.declared.tree.Kind.TheVariants as kind
use Rattle.tree_type.proofs.NodeTrees.{said_three_sum, said_two_sum}
use Rattle.cmr_reach.proofs.RootSums.{other_root, sound_by_kind, three_by_kind, three_of_root, two_by_kind, two_of_root}
use Rattle.cmr_reach.proofs.tools.parts.arrange_root.Goals as goal

pub arrange_two-requires : goal.arrange_two-requires
arrange_two-requires c =
    let t = c.args.tree.now in
    let v = c.in-TwoSum in
    two_of_root c.args.matrix.now t.rows t.columns c.root.result.now.lines v.two (two_trees (tree_of v.one_child.value) (tree_of v.two_child.value))
    (sound_by_kind c.args.matrix.now t c.root.result.now c.root.ensures.root (kind.TwoSum v.two v.one_child v.two_child) (TwoSum v.two) _ v.is (said_two_sum v.two v.one_child v.two_child) c.requires)

pub arrange_three-requires : goal.arrange_three-requires
arrange_three-requires c =
    let t = c.args.tree.now in
    let v = c.in-ThreeSum in
    three_of_root c.args.matrix.now t.rows t.columns c.root.result.now.lines v.three (two_trees (tree_of v.one_child.value) (tree_of v.two_child.value))
    (sound_by_kind c.args.matrix.now t c.root.result.now c.root.ensures.root (kind.ThreeSum v.three v.one_child v.two_child) (ThreeSum v.three) _ v.is (said_three_sum v.three v.one_child v.two_child) c.requires)

pub returns-in_ok-arrange_two-in-TwoSum : goal.returns-in_ok-arrange_two-in-TwoSum
returns-in_ok-arrange_two-in-TwoSum c =
    let v = c.in-TwoSum in
    let both = c.in_ok-arrange_two-in-TwoSum in
    two_by_kind c.args.matrix.now c.args.tree.now c.root.result.now c.root.ensures.root (kind.TwoSum v.two v.one_child v.two_child) v.two _ both.field-0 v.is (said_two_sum v.two v.one_child v.two_child)
    c.rows.ensures.shape both.ensures.arranged both.ensures.round_trip

pub returns-in_ok-arrange_three-in-ThreeSum : goal.returns-in_ok-arrange_three-in-ThreeSum
returns-in_ok-arrange_three-in-ThreeSum c =
    let v = c.in-ThreeSum in
    let both = c.in_ok-arrange_three-in-ThreeSum in
    three_by_kind c.args.matrix.now c.args.tree.now c.root.result.now c.root.ensures.root (kind.ThreeSum v.three v.one_child v.two_child) v.three _ both.field-0 v.is (said_three_sum v.three v.one_child v.two_child)
    c.rows.ensures.shape both.ensures.arranged both.ensures.round_trip

pub returns-in_default : goal.returns-in_default
returns-in_default c = other_root c.args.matrix.now c.args.tree.now c.root.result.now c.root.ensures.root c.in_default.not-TwoSum c.in_default.not-ThreeSum
