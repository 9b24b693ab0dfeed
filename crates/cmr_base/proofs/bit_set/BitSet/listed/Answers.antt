use Rattle.std.proofs.Common.{◌∙◌, sym, subst, List, ℕ}
use Rattle.cmr_base.specs.ColumnSets.{has_column}
use Rattle.cmr_base.specs.Indices.{IsAbove}
use Rattle.cmr_base.proofs.FilteredLines.{filter_yes, filter_no, filter_below}
use Rattle.cmr_base.proofs.bit_set.BitSet.listed.Goals as goal
use Rattle.cmr_base.proofs.bit_set.BitSet.listed.Goals.{then-has+in_ok-push, else-has}

pub push-requires : goal.push-requires
push-requires c = subst (λ (members : List ℕ). IsAbove c.loop-x.x members) (sym c.loop-x.invariant) (filter_below (has_column c.args.self.now.words) c.loop-x.x)

pub loop-x-preserved : goal.loop-x-preserved
loop-x-preserved c =
    let test = has_column c.args.self.now.words in
    let k = c.loop-x.x in
    elim c.if-has.branch [
      | then-has+in_ok-push w ↦ w.members-is ∙ w.in_ok-push.ensures.ok ∙ filter_yes test k c.loop-x.members c.loop-x.invariant (sym c.has.ensures ∙ w.if-has.true)
      | else-has w ↦ w.members-is ∙ filter_no test k c.loop-x.members c.loop-x.invariant (sym c.has.ensures ∙ w.if-has.false)
    ]
