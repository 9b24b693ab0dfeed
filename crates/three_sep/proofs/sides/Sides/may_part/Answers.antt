use Rattle.std.proofs.Common.{arith}
use Rattle.three_sep.proofs.sides.Sides.may_part.Goals as goal

pub is_refused-requires-clause-rule : goal.is_refused-requires-clause-rule
is_refused-requires-clause-rule c = rw c.loop-row.invariant.matrix c.requires.rule

pub is_refused-requires-clause-first : goal.is_refused-requires-clause-first
is_refused-requires-clause-first c = rw c.loop-row.invariant.matrix c.requires.first

pub is_refused-requires-clause-second : goal.is_refused-requires-clause-second
is_refused-requires-clause-second c = rw c.loop-row.invariant.matrix c.requires.second

pub is_refused-requires-clause-line : goal.is_refused-requires-clause-line
is_refused-requires-clause-line c = let l = c.loop-row-test.true in let r = c.rows-row-end.ensures.rows in rw c.loop-row.invariant.matrix (omega arith)
