use Rattle.std.proofs.Common.{◌∙◌, sym, subst, ◌++◌, ◌∷◌, [], List, ℕ, ap, zero-add}
use Rattle.cmr_base.specs.Indices.{IsAbove}
use Rattle.cmr_base.proofs.LineSetLemmas.{first_below, range_more}
use Rattle.cmr_base.proofs.line_set.first_lines.Goals as goal

pub push-requires : goal.push-requires
push-requires c = subst (λ (lines : List ℕ). IsAbove c.loop-line.line lines) (sym c.loop-line.invariant) (first_below c.loop-line.line)

pub loop-line-preserved : goal.loop-line-preserved
loop-line-preserved c =
    let line = c.loop-line.line in
    c.in_ok-push.ensures.ok ∙ ap (λ (lines : List ℕ). lines ++ line ∷ []) c.loop-line.invariant ∙ sym (range_more 0 line line (zero-add line))
