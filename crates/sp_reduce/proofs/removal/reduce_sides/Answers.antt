use Rattle.std.proofs.Common.{◌∙◌, ap₂, subst, sym, ℕ, List}
use Rattle.std.specs.List.Sorted.{IsStrictlyIncreasing}
use Rattle.cmr_base.specs.Reductions.{Removal}
use Rattle.sp_reduce.proofs.removal.reduce_sides.Goals as goal

pub of-requires : goal.of-requires
of-requires c = subst IsStrictlyIncreasing (sym c.deref.ensures.value) c.in_ok-steps.ensures.paired.own_side.increasing

pub of-requires-2 : goal.of-requires-2
of-requires-2 c = subst IsStrictlyIncreasing (sym c.deref-2.ensures.value) c.in_ok-steps.ensures.paired.across_side.increasing

pub returns : goal.returns
returns c =
    let with_rest : List ℕ → List ℕ → Removal = λ (rows columns : List ℕ). record { steps = c.in_ok-steps.steps; rows = rows; columns = columns } in
    c.in_ok-steps.ensures.end ∙ ap₂ with_rest (sym (c.in_ok-of.ensures ∙ c.deref.ensures.value)) (sym (c.in_ok-of-2.ensures ∙ c.deref-2.ensures.value))
