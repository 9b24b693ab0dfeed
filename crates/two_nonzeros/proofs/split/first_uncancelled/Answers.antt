use Rattle.std.proofs.Common.{arith}
use Rattle.two_nonzeros.proofs.Cancellations.{split_of}
use Rattle.two_nonzeros.proofs.split.first_uncancelled.Goals as goal

pub returns-clause-first : goal.returns-clause-first
returns-clause-first c = split_of c.args.minus.now c.args.rows.now c.args.columns.now c.rows-rows.ensures.shape c.requires.crossed
    (λ column l. c.loop-column.invariant column (let end = c.loop-column-test.false in let count = c.rows-column-end.ensures.rows in omega (arith, l, end, count)))
