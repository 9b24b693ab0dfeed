use Rattle.std.proofs.Common.{◌<◌, ◌++◌, ◌∙◌, [], ◌∷◌, ap, sym, subst, arith}
use Rattle.std.specs.List.{AllByRecursion}
use Rattle.cmr_base.proofs.Lists.{all_at}
use Rattle.ghouila.proofs.Marks.{marked_there, unmarked_there, marked_below}
use Rattle.split_search.proofs.cycle.marked_lines.Goals as goal
use Rattle.split_search.proofs.cycle.marked_lines.Goals.{then-mark+in_ok-push, else-mark}

pub push-requires : goal.push-requires
push-requires c = λ k h.
    all_at (λ x. x < c.loop-line.line) c.loop-line.lines k 0
    (subst (AllByRecursion (λ x. x < c.loop-line.line)) (sym c.loop-line.invariant) (marked_below c.args.marks.now c.loop-line.line (omega arith))) h

pub loop-line-preserved : goal.loop-line-preserved
loop-line-preserved c =
    let marks = c.args.marks.now in
    let line = c.loop-line.line in
    elim c.if-mark.branch [
      | then-mark+in_ok-push w ↦ w.lines-is ∙ w.in_ok-push.ensures.ok ∙ ap (λ xs. xs ++ line ∷ []) c.loop-line.invariant
          ∙ sym (marked_there marks line c.loop-line-test.true w.if-mark.true)
      | else-mark w ↦ w.lines-is ∙ c.loop-line.invariant ∙ sym (unmarked_there marks line c.loop-line-test.true w.if-mark.false)
    ]
