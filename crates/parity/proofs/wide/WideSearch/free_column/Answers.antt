use Rattle.parity.proofs.ColumnSetSearch.{free_by_search}
use Rattle.parity.proofs.wide.WideSearch.free_column.Goals as goal

pub returns-clause-least : goal.returns-clause-least
returns-clause-least c =
    (free_by_search c.args.self.now.matrix.now c.args.rows.now c.sum_columns.new.sums.ones c.sum_columns.new.sums.twos c.eliminate.new.basis.equations c.lowest_left.result
    c.args.self.now.shape c.sum_columns.ensures.sums c.sum_columns.ensures.small c.in_ok-eliminate.ensures.basis c.lowest_left.ensures.some c.lowest_left.ensures.none).0

pub returns-clause-none : goal.returns-clause-none
returns-clause-none c =
    (free_by_search c.args.self.now.matrix.now c.args.rows.now c.sum_columns.new.sums.ones c.sum_columns.new.sums.twos c.eliminate.new.basis.equations c.lowest_left.result
    c.args.self.now.shape c.sum_columns.ensures.sums c.sum_columns.ensures.small c.in_ok-eliminate.ensures.basis c.lowest_left.ensures.some c.lowest_left.ensures.none).1
