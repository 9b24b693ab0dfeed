use Rattle.std.proofs.Common.{◌+◌, ◌*◌}
use Rattle.cuts.proofs.cut_search.CutSearch.+search.Given as goal

-- each search is one level deeper than the search that begins it
abbrev pub decreases-search : goal.decreases-search
decreases-search l = 4 * l.depth

abbrev pub decreases-search_by_line : goal.decreases-search_by_line
decreases-search_by_line l = 4 * l.depth + 1

abbrev pub decreases-search_halves : goal.decreases-search_halves
decreases-search_halves l = 4 * l.depth + 2

abbrev pub decreases-search_state : goal.decreases-search_state
decreases-search_state l = 4 * l.depth + 3
