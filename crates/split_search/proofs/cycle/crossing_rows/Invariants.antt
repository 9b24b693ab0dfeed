use Rattle.std.proofs.Common.{◌≡◌, ◌≢◌, ◌<◌, ℕ, pos, length, true}
use Rattle.std.specs.List.{AllByRecursion}
use Rattle.sparse_matrix.specs.SparseRows.{run_of, sparse_entry}
use Rattle.sparse_matrix.specs.LineMarks.{is_marked}
use Rattle.split_search.proofs.cycle.crossing_rows.Given as goal

abbrev pub invariant-loop-column : goal.invariant-loop-column
invariant-loop-column l = (length l.in_rows.items ≡ l.columns.width)
    × ((column : ℕ) → column < l.column → is_marked l.marks column ≡ true → AllByRecursion (λ x. is_marked l.in_rows.items x.line ≡ true) (run_of l.columns column))
    × ((row : ℕ) → is_marked l.in_rows.items row ≡ true → (column : ℕ) × (is_marked l.marks column ≡ true) × (sparse_entry l.columns column row ≢ pos 0))
