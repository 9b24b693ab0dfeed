-- A run for the order of the arguments.
use Rattle.std.proofs.Common.{◌≡◌, ◌∙◌, ℕ, Option, Some, None, sym, subst}
use Rattle.cmr_front.specs.Ending.{Devices, Standing}
use Rattle.cmr_front.specs.Report.{Held}
use Rattle.cmr_front.specs.Run.{Means, MeansRead, Runs, work}
use Rattle.cmr_front.specs.Status.{answer_status}
use Rattle.cmr_front.specs.Unread.{Between, between}
use Rattle.cmr_front.specs.declared.status.Answer.{Answer}
use Rattle.cmr_large.specs.LargeTu.{LargeOrder, large_ordered, large_tool}

-- a run for the order of the arguments is a run of this order
pub large_read_of : (words : Option LargeOrder) (standing : Standing) (before after : Devices) (status : ℕ) → Runs (large_ordered words) standing before after status
    → (o : LargeOrder) → words ≡ Some o → (answer : Answer) → status ≡ answer_status answer → MeansRead (work (large_tool o)) (between before.reads after.reads) answer
large_read_of words standing before after status runs o is answer answered =
    subst (λ (it : Option LargeOrder). MeansRead (large_ordered it) (between before.reads after.reads) answer) is (runs.means answer answered)

pub large_read_for : (words : Option LargeOrder) (named : LargeOrder) (reads : Between) (answer : Answer) → words ≡ Some named → MeansRead (work (large_tool named)) reads answer
    → (o : LargeOrder) → words ≡ Some o → MeansRead (work (large_tool o)) reads answer
large_read_for words named reads answer given means o is = subst (λ (it : Option LargeOrder). MeansRead (large_ordered it) reads answer) (sym given ∙ is) means

-- the meaning of an answer for the order of the arguments, if there is one
abbrev LargeMeansFor : Option LargeOrder → Held → Answer → Type 0
LargeMeansFor None held answer = Unit {0}
LargeMeansFor (Some o) held answer = Means (large_tool o) held answer

pub large_means_for : (words : Option LargeOrder) (named : LargeOrder) (held : Held) (answer : Answer) → words ≡ Some named → Means (large_tool named) held answer
    → (o : LargeOrder) → words ≡ Some o → Means (large_tool o) held answer
large_means_for words named held answer given means o is =
    subst (λ (it : Option LargeOrder). LargeMeansFor it held answer) is (subst (λ (it : Option LargeOrder). LargeMeansFor it held answer) (sym given) means)
