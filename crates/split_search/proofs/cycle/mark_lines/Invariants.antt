use Rattle.std.proofs.Common.{◌≡◌, ◌≢◌, ◌⊎◌, ℕ, pos, length, take, true}
use Rattle.std.specs.List.{AllByRecursion}
use Rattle.sparse_matrix.specs.SparseRows.{value_in}
use Rattle.sparse_matrix.specs.LineMarks.{is_marked}
use Rattle.split_search.proofs.cycle.mark_lines.Given as goal

abbrev pub invariant-loop-nonzero : goal.invariant-loop-nonzero
invariant-loop-nonzero l = (length l.marks.items ≡ length l.fn.marks.items) × ((line : ℕ) → is_marked l.fn.marks.items line ≡ true → is_marked l.marks.items line ≡ true)
    × AllByRecursion (λ x. is_marked l.marks.items x.line ≡ true) (take l.nonzero-index l.run)
    × ((line : ℕ) → is_marked l.marks.items line ≡ true → (is_marked l.fn.marks.items line ≡ true) ⊎ (value_in l.run line ≢ pos 0))
