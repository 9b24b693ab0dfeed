use Rattle.std.proofs.Common.{[]}
use Rattle.tree_type.specs.DecompositionTrees.{Empty, Cycle, OneSum, Violator, NoTrees, trees_of}
use Rattle.tree_type.specs.declared.tree.Kind.TheVariants as kind
use Rattle.tree_type.proofs.NodeTrees.{said_empty, said_cycle, said_one_sum, said_violator}
use Rattle.cert_check.proofs.OwnRules.{own_of, own_lines, cycle_lines, two_lines, three_lines, violator_lines, pivot_lines}
use Rattle.cert_check.proofs.own_rule.own_rule.Goals as goal

pub fault_rule-requires : goal.fault_rule-requires
fault_rule-requires c = cycle_lines c.args.matrix.now c.args.node.now c.in-Cycle.fault c.in-Cycle.is c.requires

pub network_rule-requires : goal.network_rule-requires
network_rule-requires c = own_lines c.args.matrix.now c.args.node.now c.requires

pub conetwork_rule-requires : goal.conetwork_rule-requires
conetwork_rule-requires c = own_lines c.args.matrix.now c.args.node.now c.requires

pub fault_rule-requires-in-Violator : goal.fault_rule-requires-in-Violator
fault_rule-requires-in-Violator c = violator_lines c.args.matrix.now c.args.node.now c.in-Violator.fault c.in-Violator.is c.requires

pub returns-in-Empty : goal.returns-in-Empty
returns-in-Empty c = own_of c.args.matrix.now c.args.node.now kind.Empty Empty NoTrees c.empty_rule.result c.in-Empty.is said_empty (c.empty_rule.ensures c.args.matrix.now [])

pub returns-in-Cycle : goal.returns-in-Cycle
returns-in-Cycle c = own_of c.args.matrix.now c.args.node.now (kind.Cycle c.in-Cycle.fault) (Cycle c.in-Cycle.fault) NoTrees c.fault_rule.result c.in-Cycle.is (said_cycle c.in-Cycle.fault) (c.fault_rule.ensures.cycle c.args.node.now.lines [])

pub returns-in-Violator : goal.returns-in-Violator
returns-in-Violator c = own_of c.args.matrix.now c.args.node.now (kind.Violator c.in-Violator.fault) (Violator c.in-Violator.fault) NoTrees c.fault_rule-in-Violator.result c.in-Violator.is (said_violator c.in-Violator.fault) (c.fault_rule-in-Violator.ensures.violator c.args.node.now.lines [])

pub reduced_rule-requires : goal.reduced_rule-requires
reduced_rule-requires c = own_lines c.args.matrix.now c.args.node.now c.requires

pub two_rule-requires-clause-lines : goal.two_rule-requires-clause-lines
two_rule-requires-clause-lines c = own_lines c.args.matrix.now c.args.node.now c.requires

pub two_rule-requires-clause-row : goal.two_rule-requires-clause-row
two_rule-requires-clause-row c = (two_lines c.args.matrix.now c.args.node.now c.in-TwoSum.two c.in-TwoSum.one_child c.in-TwoSum.two_child c.in-TwoSum.is c.requires).0

pub two_rule-requires-clause-column : goal.two_rule-requires-clause-column
two_rule-requires-clause-column c = (two_lines c.args.matrix.now c.args.node.now c.in-TwoSum.two c.in-TwoSum.one_child c.in-TwoSum.two_child c.in-TwoSum.is c.requires).1

pub three_rule-requires-clause-lines : goal.three_rule-requires-clause-lines
three_rule-requires-clause-lines c = own_lines c.args.matrix.now c.args.node.now c.requires

pub three_rule-requires-clause-first : goal.three_rule-requires-clause-first
three_rule-requires-clause-first c = (three_lines c.args.matrix.now c.args.node.now c.in-ThreeSum.three c.in-ThreeSum.one_child c.in-ThreeSum.two_child c.in-ThreeSum.is c.requires).0

pub three_rule-requires-clause-second : goal.three_rule-requires-clause-second
three_rule-requires-clause-second c = (three_lines c.args.matrix.now c.args.node.now c.in-ThreeSum.three c.in-ThreeSum.one_child c.in-ThreeSum.two_child c.in-ThreeSum.is c.requires).1

pub apart_rule-requires : goal.apart_rule-requires
apart_rule-requires c = own_lines c.args.matrix.now c.args.node.now c.requires

pub returns-in-OneSum : goal.returns-in-OneSum
returns-in-OneSum c =
    own_of c.args.matrix.now c.args.node.now (kind.OneSum c.in-OneSum.children) OneSum (trees_of c.in-OneSum.children) c.apart_rule.result c.in-OneSum.is (said_one_sum c.in-OneSum.children) c.apart_rule.ensures

pub enumerated_rule-requires : goal.enumerated_rule-requires
enumerated_rule-requires c = own_lines c.args.matrix.now c.args.node.now c.requires

pub r10_rule-requires : goal.r10_rule-requires
r10_rule-requires c = own_lines c.args.matrix.now c.args.node.now c.requires

pub pivot_rule-requires-clause-lines : goal.pivot_rule-requires-clause-lines
pivot_rule-requires-clause-lines c = own_lines c.args.matrix.now c.args.node.now c.requires

pub pivot_rule-requires-clause-row : goal.pivot_rule-requires-clause-row
pivot_rule-requires-clause-row c = (pivot_lines c.args.matrix.now c.args.node.now c.in-Pivoted.place c.in-Pivoted.child c.in-Pivoted.is c.requires).0

pub pivot_rule-requires-clause-column : goal.pivot_rule-requires-clause-column
pivot_rule-requires-clause-column c = (pivot_lines c.args.matrix.now c.args.node.now c.in-Pivoted.place c.in-Pivoted.child c.in-Pivoted.is c.requires).1
