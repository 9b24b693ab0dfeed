use Rattle.std.proofs.Common.{Bool, true, List, drop, length, replicate}
use Rattle.std.specs.Prelude.{◌↔◌}
use Rattle.sparse_matrix.specs.SparseRows.{sparse_entry}
use Rattle.large_evidence.specs.RemovedMarks.{AreRemovals, HasMarksFor}
use Rattle.large_evidence.proofs.lines_left.lines_left.Given as goal

-- the rest of the steps removes from the lines that are left what all steps remove from all lines
abbrev pub invariant-loop-step : goal.invariant-loop-step
invariant-loop-step l = record {
  marks : HasMarksFor l.rows l.left;
  rest : (r c : List Bool) → AreRemovals (sparse_entry l.rows) l.left.rows.items l.left.columns.items (drop l.step-index l.steps) r c
      ↔ AreRemovals (sparse_entry l.rows) (replicate (length l.rows.runs) true) (replicate l.rows.width true) l.steps r c;
}
