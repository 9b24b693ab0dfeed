-- The steps of a signing that are kept.
use Rattle.std.specs.Prelude.{◌≡◌, true, List}
use Rattle.chains.specs.declared.step.SignStep.{SignStep}
use Rattle.camion_sign.specs.declared.kept_steps.KeptSteps.{KeptSteps}

-- these steps are kept, or none
abbrev pub HasKept : List SignStep → KeptSteps → Type 0
HasKept steps kept = kept.are_kept ≡ true → kept.list ≡ steps
