use Rattle.std.proofs.Common.{arith}
use Rattle.part_numbers.proofs.MarkedSearch.{first_followed, first_rows}
use Rattle.part_numbers.proofs.search.find_all.Goals as goal

pub loop-row-init : goal.loop-row-init
loop-row-init c = (
  first_followed c.args.rows.now c.args.core.now c.args.search.now c.requires.first,
  first_rows c.args.rows.now c.args.core.now c.args.search.now c.requires.first,
  omega arith,
)
