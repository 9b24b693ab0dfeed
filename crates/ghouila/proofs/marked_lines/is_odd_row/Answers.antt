use Rattle.std.proofs.Common.{◌≡◌, ◌<◌, pos, refl, subst, arith, length}
use Rattle.cmr_base.specs.Matrix.{entry}
use Rattle.cmr_base.specs.Signing.{IsSign}
use Rattle.ghouila.proofs.Bytes.{zero_byte, nonzero_byte}
use Rattle.ghouila.proofs.Marks.{parity_marked, parity_marked_zero, parity_unmarked}
use Rattle.ghouila.proofs.marked_lines.is_odd_row.Goals as goal
use Rattle.ghouila.proofs.marked_lines.is_odd_row.Goals.{then-marks-column+then-entry-ne0, else-marks-column, else-marks-column-via-then-marks-column+else-entry-ne0, else-marks-column-via-else-marks-column}

pub loop-column-init : goal.loop-column-init
loop-column-init c = (pos 0, refl)

pub loop-column-preserved : goal.loop-column-preserved
loop-column-preserved c =
    let marks = c.args.marks.now in
    let k = c.loop-column.column in
    let inside : k < length marks = omega arith in
    let f = entry c.args.work.now c.args.row in
    elim c.if-marks-column.branch [
      | then-marks-column+then-entry-ne0 w ↦ rw w.odd-is (parity_marked marks k f inside c.loop-column.odd w.if-marks-column.true
          (subst IsSign w.entry.ensures.value (nonzero_byte w.entry.result w.entry.ensures.small w.if-entry-ne0.true)) c.loop-column.invariant)
      | else-marks-column w ↦ rw w.odd-is (elim w.else-marks-column.branch [
        | else-marks-column-via-then-marks-column+else-entry-ne0 v ↦ parity_marked_zero marks k f inside c.loop-column.odd v.if-marks-column.true
            (subst (λ z. z ≡ pos 0) v.entry.ensures.value (zero_byte v.entry.result v.entry.ensures.small v.if-entry-ne0.false)) c.loop-column.invariant
        | else-marks-column-via-else-marks-column v ↦ parity_unmarked marks k f inside c.loop-column.odd v.if-marks-column.false c.loop-column.invariant
      ])
    ]
