use Rattle.std.proofs.Common.{◌∙◌, ap, sym, subst, inl, inr}
use Rattle.cmr_base.proofs.Booleans.{true_is_false}
use Rattle.sparse_matrix.specs.SparseRows.{value_in}
use Rattle.split_search.proofs.MarkedLines.{AreMarked, crossing_more}
use Rattle.split_search.proofs.cycle.crossing_rows.Goals as goal
use Rattle.split_search.proofs.cycle.crossing_rows.Goals.{then-marks-column, else-marks-column}

pub loop-column-preserved : goal.loop-column-preserved
loop-column-preserved c =
    let columns = c.args.columns.now in
    let marks = c.args.marks.now in
    let column = c.loop-column.column in
    let before = c.loop-column.in_rows.items in
    elim c.if-marks-column.branch [
      | then-marks-column w ↦ rw w.in_rows-is (
        w.mark_lines.ensures.size ∙ c.loop-column.invariant.0,
        crossing_more columns marks before w.mark_lines.new.marks.items column w.mark_lines.ensures.kept
            (λ h. subst (AreMarked w.mark_lines.new.marks.items) w.row.ensures.run w.mark_lines.ensures.marked) c.loop-column.invariant.1,
        λ row h. elim (w.mark_lines.ensures.only row h) [
          | inl old ↦ c.loop-column.invariant.2 row old
          | inr new ↦ (column, w.if-marks-column.true, λ e. new (ap (λ run. value_in run row) w.row.ensures.run ∙ e))
        ],
      )
      | else-marks-column w ↦ rw w.in_rows-is (
        c.loop-column.invariant.0,
        crossing_more columns marks before before column (λ line h. h) (λ h. true_is_false (sym h ∙ w.if-marks-column.false)) c.loop-column.invariant.1,
        c.loop-column.invariant.2,
      )
    ]
