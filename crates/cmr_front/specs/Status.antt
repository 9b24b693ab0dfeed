-- The status with which a run ends.
use Rattle.std.specs.Prelude.{◌≡◌, ◌⊎◌, ℕ}
use Rattle.cmr_front.specs.declared.status.Answer.{Answer}
use Rattle.cmr_front.specs.declared.status.Answer.TheVariants.{Yes, No, Undecided, Refused}
use Rattle.cmr_front.specs.declared.status.Failure.{Failure}
use Rattle.cmr_front.specs.declared.status.Failure.TheVariants.{Words, Text, Device, Memory}

abbrev pub answer_status : Answer → ℕ
answer_status Yes = 0
answer_status No = 1
answer_status Undecided = 6
answer_status Refused = 7

abbrev pub failure_status : Failure → ℕ
failure_status Words = 2
failure_status Text = 3
failure_status Device = 4
failure_status Memory = 5

-- a run ends with an answer or with none
abbrev pub IsStatus : ℕ → Type 0
IsStatus status = ((answer : Answer) × (status ≡ answer_status answer)) ⊎ ((failure : Failure) × (status ≡ failure_status failure))
