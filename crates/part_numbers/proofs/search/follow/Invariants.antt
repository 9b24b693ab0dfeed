use Rattle.std.proofs.Common.{◌≡◌, ◌<◌, ℕ, true, get_or}
use Rattle.sparse_matrix.proofs.MarkedLines.{no_nonzero}
use Rattle.part_numbers.specs.PartSearches.{GrowsPart, IsReachedWith, ReachesLines, crossing_line, is_in_core}
use Rattle.part_numbers.proofs.search.follow.Given as goal

abbrev pub invariant-loop-nonzero : goal.invariant-loop-nonzero
invariant-loop-nonzero l = GrowsPart l.rows l.core l.part l.search × ReachesLines l.part l.fn.search l.search
    × ((k : ℕ) → k < l.nonzero-index → is_in_core l.core (crossing_line l.line (get_or l.run k no_nonzero).line) ≡ true
    → IsReachedWith l.search (crossing_line l.line (get_or l.run k no_nonzero).line) l.line)
