use Rattle.cuts.proofs.SideLemmas.{columns_in_heap, rows_in_heap}
use Rattle.cuts.proofs.line_patterns.LinePatterns.heap.Goals as goal

pub returns-then-self-clause-lines : goal.returns-then-self-clause-lines
returns-then-self-clause-lines c =
    rows_in_heap c.args.self.now c.args.inside (record { rows = c.in_ok-heap.field-0; columns = c.in_ok-new.field-0 }) c.rows-rows.result.numbers.now c.if-self.true c.rows-rows.ensures.numbers c.in_ok-new.ensures.none c.in_ok-heap.ensures.heap

pub returns-clause-lines : goal.returns-clause-lines
returns-clause-lines c =
    columns_in_heap c.args.self.now c.args.inside (record { rows = c.in_ok-new-2.field-0; columns = c.in_ok-heap-2.field-0 }) c.columns-columns.result.numbers.now c.if-self.false c.columns-columns.ensures.numbers c.in_ok-new-2.ensures.none c.in_ok-heap-2.ensures.heap
