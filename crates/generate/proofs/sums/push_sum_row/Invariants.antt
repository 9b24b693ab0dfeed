use Rattle.generate.proofs.SumRows.{IsGrowing}
use Rattle.generate.proofs.sums.push_sum_row.Given as goal

abbrev pub invariant-loop-count : goal.invariant-loop-count
invariant-loop-count l = IsGrowing l.fn.cells.items l.cells.items l.count l.row l.last
