-- The status of a report. No status belongs to both an answer and a failure.
use Rattle.std.proofs.Common.{◌≡◌, ◌≤◌, ◌⊎◌, ℕ, ap, inl, inr, arith}
use Rattle.cmr_front.specs.declared.status.Answer.{Answer}
use Rattle.cmr_front.specs.declared.status.Answer.TheVariants.{Yes, No, Undecided, Refused}
use Rattle.cmr_front.specs.declared.status.Failure.{Failure}
use Rattle.cmr_front.specs.declared.status.Failure.TheVariants.{Words, Text, Device, Memory}
use Rattle.cmr_front.specs.Report.{Report}
use Rattle.cmr_front.specs.Status.{answer_status, failure_status}

pub status_of : (r s : Report) → r ≡ s → r.status ≡ s.status
status_of r s e = ap (λ (x : Report). x.status) e

answer_outside : (answer : Answer) → (answer_status answer ≤ 1) ⊎ (6 ≤ answer_status answer)
answer_outside Yes = inl (omega arith)
answer_outside No = inl (omega arith)
answer_outside Undecided = inr (omega arith)
answer_outside Refused = inr (omega arith)

failure_between : (failure : Failure) → (2 ≤ failure_status failure) × (failure_status failure ≤ 5)
failure_between Words = (omega arith, omega arith)
failure_between Text = (omega arith, omega arith)
failure_between Device = (omega arith, omega arith)
failure_between Memory = (omega arith, omega arith)

pub answered_or_failed : (status : ℕ) (answer : Answer) (failure : Failure) → status ≡ answer_status answer → status ≡ failure_status failure → ⊥
answered_or_failed status answer failure a f = go (answer_outside answer) (failure_between failure)
  where
    go : (answer_status answer ≤ 1) ⊎ (6 ≤ answer_status answer) → (2 ≤ failure_status failure) × (failure_status failure ≤ 5) → ⊥
    go (inl low) between = omega arith
    go (inr high) between = omega arith

-- the status of an answer
abbrev pub IsAnswered : Report → Type 0
IsAnswered r = (answer : Answer) × (r.status ≡ answer_status answer)

-- so the report is not a line on a text
pub no_fault : (r : Report) → IsAnswered r → r.status ≡ failure_status Text → ⊥
no_fault r (answer, is) fault = answered_or_failed r.status answer Text is fault
