use Rattle.std.proofs.Common.{◌∙◌, ◌++◌, ◌∷◌, [], ap, sym, List, ℕ, zero-add}
use Rattle.cmr_base.proofs.LineSetLemmas.{range_more}
use Rattle.cmr_base.proofs.labels.own_labels.Goals as goal

pub loop-line-preserved : goal.loop-line-preserved
loop-line-preserved c =
    let k = c.loop-line.line in
    c.in_ok-push.ensures.items ∙ ap (λ (xs : List ℕ). xs ++ k ∷ []) c.loop-line.invariant ∙ sym (range_more 0 k k (zero-add k))
