use Rattle.split_search.specs.RowForests.{row_node}
use Rattle.split_search.specs.Paths.{TurnsPath, node_number}
use Rattle.split_search.proofs.paths.turn_path.Given as goal

abbrev pub invariant-path : goal.invariant-path
invariant-path l = TurnsPath l._columns l.nodes l.fn.marks.items l.marks.items l.from l.row

abbrev pub decreases-path : goal.decreases-path
decreases-path l = node_number (row_node l.nodes l.row)
