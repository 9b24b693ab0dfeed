-- What an answer means to what the words order.
use Rattle.std.proofs.Common.{◌≡◌, ◌⊎◌, inl, inr, ℕ, Option, Some, None, refl, arith}
use Rattle.cmr_front.specs.declared.status.Answer.{Answer}
use Rattle.cmr_front.specs.declared.status.Answer.TheVariants.{Yes, No, Undecided, Refused}
use Rattle.cmr_front.specs.declared.status.Failure.TheVariants.{Memory, Words}
use Rattle.cmr_front.specs.Report.{Held}
use Rattle.cmr_front.specs.Run.{IsNothing, Means}
use Rattle.cmr_front.specs.Status.{answer_status, failure_status}
use Rattle.cmr_tools.specs.ToolOrders.{Order, ordered, tool_of}
use Rattle.batch.specs.RequestReplies.{MeansOrdered}

-- a refusal of the words and an allocation failure are no answers
pub no_answer : (answer : Answer) (status : ℕ) → status ≡ answer_status answer → (status ≡ failure_status Words) ⊎ (status ≡ failure_status Memory) → ⊥
no_answer Yes status is (inl e) = absurd (omega arith)
no_answer Yes status is (inr e) = absurd (omega arith)
no_answer No status is (inl e) = absurd (omega arith)
no_answer No status is (inr e) = absurd (omega arith)
no_answer Undecided status is (inl e) = absurd (omega arith)
no_answer Undecided status is (inr e) = absurd (omega arith)
no_answer Refused status is (inl e) = absurd (omega arith)
no_answer Refused status is (inr e) = absurd (omega arith)

-- words that are refused have no answer
pub means_ordered : (o : Option Order) (held : Held) (status : ℕ) (answer : Answer) → ((order : Order) → o ≡ Some order → (a : Answer) → status ≡ answer_status a → Means (tool_of order) held a)
    → (IsNothing (ordered o) → (status ≡ failure_status Words) ⊎ (status ≡ failure_status Memory)) → status ≡ answer_status answer → MeansOrdered (ordered o) held answer
means_ordered None held status answer means refused is = no_answer answer status is (refused tt)
means_ordered (Some order) held status answer means refused is = means order refl answer is
