use Rattle.std.proofs.Common.{◌∙◌, arith, sym}
use Rattle.path_places.proofs.SubmatrixSteps.{columns_met, columns_passed, no_columns_met}
use Rattle.path_places.specs.SubmatrixFields.{view_of}
use Rattle.path_places.proofs.submatrix.Submatrix.meeting_columns.Goals as goal
use Rattle.path_places.proofs.submatrix.Submatrix.meeting_columns.Goals.{then-has, else-has}

pub loop-row-init : goal.loop-row-init
loop-row-init c = no_columns_met (view_of c.args.self.now) c.in_ok-set.set (c.in_ok-set.ensures.size ∙ c.columns.ensures.columns) c.in_ok-set.ensures.none

pub loop-row-preserved : goal.loop-row-preserved
loop-row-preserved c =
    let s = view_of c.args.self.now in
    let old = c.loop-row.set in
    let row = c.loop-row.row in
    let so = c.loop-row.invariant in
    elim c.if-has.branch [
      | then-has w ↦
          rw w.set-is (columns_met s w.columns_of.result.now row w.columns_of.ensures.columns old w.add_common_words.new.self so (omega (arith, c.loop-row-test.true, c.rows-row-end.ensures.rows)) (sym c.has.ensures ∙ w.if-has.true)
          w.add_common_words.ensures.size w.add_common_words.ensures.columns)
      | else-has w ↦ rw w.set-is (columns_passed s old row so (sym c.has.ensures ∙ w.if-has.false))
    ]

pub returns-clause-all : goal.returns-clause-all
returns-clause-all c = λ x (r, among). c.loop-row.invariant.all r x (omega (arith, among.inside, c.loop-row-test.false, c.rows-row-end.ensures.rows)) among
