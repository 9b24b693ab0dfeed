use Rattle.std.proofs.Common.{arith}
use Rattle.cmr_base.proofs.Parts.{length-increasing}
use Rattle.core_parts.proofs.sets.put_column.Goals as goal

pub overflow_cast-place : goal.overflow_cast-place
overflow_cast-place c =
    let short = length-increasing c.args.set.now.columns c.args.column c.len-place.ensures.increasing c.requires.above in
    let fits = c.ranges.column in
    let size = c.len-place.ensures.len in
    omega (arith, short, fits, size)
