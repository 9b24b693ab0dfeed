use Rattle.std.proofs.Common.{arith}
use Rattle.sum_ops.proofs.children.two_parts.Goals as goal

pub returns-clause-fewer_in_one : goal.returns-clause-fewer_in_one
returns-clause-fewer_in_one c = c.in_ok-child.ensures.fewer 2 c.requires (omega arith)

pub returns-clause-fewer_in_two : goal.returns-clause-fewer_in_two
returns-clause-fewer_in_two c = c.in_ok-child-2.ensures.fewer 2 c.requires (omega arith)
