use Rattle.std.proofs.Common.{arith}
use Rattle.cmr_base.proofs.Parts.{length-increasing}
use Rattle.chains.proofs.chain_writer.put_line_set.Goals as goal

pub overflow_cast-row_count : goal.overflow_cast-row_count
overflow_cast-row_count c = omega (arith, length-increasing c.args.lines.now.rows c.args.rows c.len-row_count.ensures.increasing c.requires.lines.0, c.len-row_count.ensures.len, c.requires.rows)

pub overflow_cast-column_count : goal.overflow_cast-column_count
overflow_cast-column_count c = omega (arith, length-increasing c.args.lines.now.columns c.args.columns c.len-column_count.ensures.increasing c.requires.lines.1, c.len-column_count.ensures.len, c.requires.columns)
