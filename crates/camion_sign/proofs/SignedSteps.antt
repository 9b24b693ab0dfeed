-- The steps of a signing: they are in the matrix, and no more than its places.
use Rattle.std.proofs.Common.{◌≤◌, ◌*◌, ℤ, List, [], ◌∷◌, length, inl}
use Rattle.std.specs.List.{AllByRecursion}
use Rattle.cmr_base.specs.Matrix.{Matrix, height, IsMatrix}
use Rattle.cmr_base.specs.Signing.{IsSign}
use Rattle.ghouila.proofs.SignsUnique.{row_in, column_in}
use Rattle.chains.specs.declared.step.SignStep.{SignStep}
use Rattle.chains.specs.declared.step.SignStep.TheVariants.{Free, Forced}
use Rattle.chains.specs.SignSteps.{AreSigns, unsigned, IsUnsignedOne, LeadTo, signed_by, step_row, step_column}
use Rattle.chains.specs.ChainTexts.{IsStepIn}
use Rattle.chains.proofs.StepCounts.{all_few}
use Rattle.camion_sign.specs.SignOrder.{IsNextSign}

next_one : (a s : Matrix) (step : SignStep) (v : ℤ) → IsNextSign a s step v → IsUnsignedOne a s (step_row step) (step_column step) × IsSign v
next_one a s (Free row column) v (turn, next, e) = (next.here, inl e)
next_one a s (Forced row column cycle) v (turn, next) = (next.here, next.is_sign)

pub few_signed : (a : Matrix) (steps : List SignStep) (signs : Matrix) → IsMatrix a → AreSigns a signs → LeadTo (IsNextSign a) (unsigned a) steps signs → length steps ≤ height a * a.width
few_signed a steps signs is are leads = all_few a is (IsNextSign a) (λ s step v rule. next_one a s step v rule) steps signs are leads

step_in : (a s : Matrix) (step : SignStep) (v : ℤ) → IsMatrix a → IsNextSign a s step v → IsStepIn (height a) a.width step
step_in a s (Free row column) v is (turn, next, e) = (row_in a row column next.here.one, column_in a row column is.rectangular next.here.one)
step_in a s (Forced row column cycle) v is (turn, next) =
    (row_in a row column next.here.one, column_in a row column is.rectangular next.here.one, (next.cycle_is.row_set.in_range, next.cycle_is.column_set.in_range))

pub steps_in : (a : Matrix) (steps : List SignStep) (s end : Matrix) → IsMatrix a → LeadTo (IsNextSign a) s steps end → AllByRecursion (IsStepIn (height a) a.width) steps
steps_in a [] s end is e = tt
steps_in a (step ∷ steps) s end is (v, next, later) = (step_in a s step v is next, steps_in a steps (signed_by s step v) end is later)
