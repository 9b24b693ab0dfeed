use Rattle.std.proofs.Common.{arith}
use Rattle.cmr_base.specs.ColumnSets.{has_column}
use Rattle.cmr_base.proofs.LineCounts.{count_both}
use Rattle.cmr_base.proofs.bit_set.BitSet.count_others.Goals as goal

pub returns-clause-count : goal.returns-clause-count
returns-clause-count c = rw (← c.self.view_is, ← c.deref.ensures.value) (let both = count_both (has_column c.deref.result.now) c.self.inside.size in omega (arith, both, c.count_below.ensures.count))
