use Rattle.std.proofs.Common.{◌∙◌, refl, arith}
use Rattle.std.proofs.lemmas.Bool.{false≢true}
use Rattle.path_places.proofs.SubmatrixSteps.{no_rows_met, row_met, row_passed}
use Rattle.path_places.specs.SubmatrixFields.{view_of}
use Rattle.path_places.proofs.submatrix.Submatrix.meeting_rows.Goals as goal
use Rattle.path_places.proofs.submatrix.Submatrix.meeting_rows.Goals.{then-is_meeting, else-is_meeting}

pub loop-row-init : goal.loop-row-init
loop-row-init c = no_rows_met (view_of c.args.self.now) c.in_ok-set.set (c.in_ok-set.ensures.size ∙ c.rows.ensures.rows) c.in_ok-set.ensures.none

pub loop-row-preserved : goal.loop-row-preserved
loop-row-preserved c =
    let s = view_of c.args.self.now in
    let old = c.loop-row.set in
    let row = c.loop-row.row in
    let so = c.loop-row.invariant in
    elim c.if-is_meeting.branch [
      | then-is_meeting w ↦
          let added = w.insert.ensures in
          rw w.set-is (row_met s old w.insert.new.self row so (w.if-is_meeting.ensures.0 refl) added.size added.only added.here added.kept)
      | else-is_meeting w ↦ rw w.set-is (row_passed s old row so (λ h. false≢true (w.if-is_meeting.ensures.1 h)))
    ]

pub returns-clause-all : goal.returns-clause-all
returns-clause-all c = λ r h. c.loop-row.invariant.all r (omega (arith, h.1.inside, c.loop-row-test.false, c.rows-row-end.ensures.rows)) h
