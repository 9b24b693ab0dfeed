use Rattle.std.proofs.Common.{drop}
use Rattle.cert_check.proofs.ApartRules.{IsBeside}
use Rattle.cert_check.specs.NodeLines.{line_sets}
use Rattle.cert_check.proofs.apart_rule.columns_beside.Given as goal

-- the only child that has the row is among the remaining children
abbrev pub invariant-loop-child : goal.invariant-loop-child
invariant-loop-child l = IsBeside (line_sets l.children) l.row (line_sets (drop l.child-index l.children))
