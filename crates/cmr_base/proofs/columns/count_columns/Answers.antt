use Rattle.std.proofs.Common.{◌+◌, ◌∙◌, ap, sym, arith}
use Rattle.cmr_base.specs.ColumnSets.{has_column}
use Rattle.cmr_base.proofs.ColumnCounts.{count_next, count_end}
use Rattle.cmr_base.proofs.columns.count_columns.Goals as goal

pub loop-column-preserved : goal.loop-column-preserved
loop-column-preserved c =
    let so = c.loop-column.invariant in
    let next = c.in-Some.ensures in
    let k = c.requires in
    record {
      counted = ap (λ z. z + 1) so.counted ∙ sym (count_next (has_column c.args.set.now) c.loop-column.from c.in-Some.column next.0 next.3 next.2);
      few = let l = so.few in let m = next.0 in omega arith;
      inside = let m = next.1 in omega arith;
    }

pub returns-clause-count : goal.returns-clause-count
returns-clause-count c = λ width inside. c.loop-column.invariant.counted ∙ count_end (has_column c.args.set.now) c.loop-column.from width c.in_default.ensures inside
