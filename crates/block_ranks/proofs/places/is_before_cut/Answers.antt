use Rattle.std.proofs.Common.{◌∙◌, not, ap, sym}
use Rattle.std.proofs.lemmas.Bool.{false≢true}
use Rattle.block_ranks.proofs.PlaceSteps.{before_cut, before_two, not_before_cut, not_before_linked}
use Rattle.block_ranks.proofs.places.is_before_cut.Goals as goal
use Rattle.block_ranks.proofs.places.is_before_cut.Goals.{then-not-are_linked+in_ok-has_cut-in-Ternary, else-not-are_linked}

pub returns-in-Violated-clause-yes : goal.returns-in-Violated-clause-yes
returns-in-Violated-clause-yes c =
    λ e. before_two c.args.matrix.now c.args.place c.requires.row c.requires.column c.requires.nonzero c.by_rows.result.now c.in_ok-pivot.field-0 c.in-Violated.field-0 c.by_rows.ensures.matrix c.in-Violated.is c.in_ok-pivot.ensures

pub returns-clause-yes : goal.returns-clause-yes
returns-clause-yes c = elim c.if-not-are_linked.branch [
  | then-not-are_linked+in_ok-has_cut-in-Ternary w ↦
      λ e. before_cut c.args.matrix.now c.args.place c.requires.row c.requires.column c.requires.nonzero c.by_rows.result.now c.in-Ternary.after c.in_ok-pivot.field-0 c.by_rows.ensures.matrix c.in-Ternary.is c.in_ok-pivot.ensures
      (w.in_ok-has_cut-in-Ternary.ensures.yes (sym w.result-is ∙ e))
  | else-not-are_linked w ↦ λ e. absurd (false≢true (sym (ap not w.if-not-are_linked.false) ∙ (sym w.result-is ∙ e)))
]

pub returns-clause-no : goal.returns-clause-no
returns-clause-no c = elim c.if-not-are_linked.branch [
  | then-not-are_linked+in_ok-has_cut-in-Ternary w ↦
      λ e. not_before_cut c.args.matrix.now c.args.place c.requires.row c.requires.column c.requires.nonzero c.by_rows.result.now c.in-Ternary.after c.in_ok-pivot.field-0 c.by_rows.ensures.matrix c.in-Ternary.is c.in_ok-pivot.ensures
      c.rows-rows.ensures.shape (w.in_ok-has_cut-in-Ternary.ensures.no (sym w.result-is ∙ e))
  | else-not-are_linked w ↦
      λ e. not_before_linked c.args.matrix.now c.args.place c.requires.row c.requires.column c.requires.nonzero c.by_rows.result.now c.in-Ternary.after c.in_ok-pivot.field-0 c.by_rows.ensures.matrix c.in-Ternary.is c.in_ok-pivot.ensures
      c.rows-rows.ensures.shape c.requires.shape (c.requires.linked w.if-not-are_linked.false)
]
