use Rattle.std.proofs.Common.{◌<◌, ◌++◌, ◌∙◌, [], ◌∷◌, ap, sym, subst, arith}
use Rattle.std.specs.List.{AllByRecursion}
use Rattle.cmr_base.proofs.Lists.{all_at}
use Rattle.ghouila.proofs.Marks.{marked_there, unmarked_there, marked_below}
use Rattle.ghouila.proofs.marked_lines.marked_places.Goals as goal
use Rattle.ghouila.proofs.marked_lines.marked_places.Goals.{then-mark+in_ok-push, else-mark}

pub push-requires : goal.push-requires
push-requires c = λ k h.
    all_at (λ x. x < c.loop-place.place) c.loop-place.places k 0
    (subst (AllByRecursion (λ x. x < c.loop-place.place)) (sym c.loop-place.invariant) (marked_below c.args.marks.now c.loop-place.place (omega arith))) h

pub loop-place-preserved : goal.loop-place-preserved
loop-place-preserved c =
    let marks = c.args.marks.now in
    let k = c.loop-place.place in
    elim c.if-mark.branch [
      | then-mark+in_ok-push w ↦ w.places-is ∙ w.in_ok-push.ensures.ok ∙ ap (λ xs. xs ++ k ∷ []) c.loop-place.invariant
          ∙ sym (marked_there marks k c.loop-place-test.true w.if-mark.true)
      | else-mark w ↦ w.places-is ∙ c.loop-place.invariant ∙ sym (unmarked_there marks k c.loop-place-test.true w.if-mark.false)
    ]
