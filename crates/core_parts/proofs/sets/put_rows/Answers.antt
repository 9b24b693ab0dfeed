use Rattle.std.proofs.Common.{◌+◌, sym, subst, take}
use Rattle.core_parts.specs.SetsOfParts.{HaveRows}
use Rattle.core_parts.proofs.SetsOfParts.{row_above, rows_put, rows_without}
use Rattle.core_parts.proofs.sets.put_rows.Goals as goal
use Rattle.core_parts.proofs.sets.put_rows.Goals.{then-marks-line+in_ok-put_row, else-marks-line}

pub put_row-requires : goal.put_row-requires
put_row-requires c = record {
  above = row_above c.args.marks.now c.args.numbers.now c.loop-line.line c.loop-line-test.true c.args.sets.now c.loop-line.sets (c.requires.below c.loop-line.line
      c.if-marks-line.true) c.index-sets-numbers.result
      c.loop-line.invariant;
}

pub loop-line-preserved : goal.loop-line-preserved
loop-line-preserved c =
    let marks = c.args.marks.now in
    let numbers = c.args.numbers.now in
    let line = c.loop-line.line in
    elim c.if-marks-line.branch [
      | then-marks-line+in_ok-put_row w ↦ rows_put marks numbers line c.loop-line-test.true c.args.sets.now c.loop-line.sets (c.requires.below line w.if-marks-line.true)
          w.index-sets-numbers.result w.put_row.new.set
          c.if-marks-line.sets w.if-marks-line.true w.sets-is w.in_ok-put_row.ensures c.loop-line.invariant
      | else-marks-line w ↦ subst (HaveRows c.args.sets.now (take (line + 1) marks) numbers) (sym w.sets-is)
          (rows_without marks numbers line c.loop-line-test.true c.args.sets.now c.loop-line.sets w.if-marks-line.false c.loop-line.invariant)
    ]
