-- A run of the tool that a command names is a run of the command.
use Rattle.std.proofs.Common.{◌≡◌, ℕ, Bool, IsTrue, Option, Some, None, sym, subst}
use Rattle.cmr_front.specs.Ending.{Devices, Standing}
use Rattle.cmr_front.specs.Report.{Held}
use Rattle.cmr_front.specs.Run.{Means, MeansRead, Runs, work}
use Rattle.cmr_front.specs.Status.{answer_status}
use Rattle.cmr_front.specs.Unread.{between}
use Rattle.cmr_front.specs.declared.status.Answer.{Answer}
use Rattle.cmr_tools.specs.ToolOrders.{Order, order_of, ordered, tool_of}
use Rattle.cmr_tools.specs.declared.command.Command.{Command}

-- the options of a command are in their ranges
pub ranges_of : (command named : Command) → command ≡ named → (tool_of (order_of command)).InRanges → (tool_of (order_of named)).InRanges
ranges_of command named is ranges = subst (λ it. (tool_of (order_of it)).InRanges) is ranges

pub runs_of : (command named : Command) (standing : Standing) (before after : Devices) (status : ℕ) → command ≡ named
    → Runs (work (tool_of (order_of named))) standing before after status → Runs (work (tool_of (order_of command))) standing before after status
runs_of command named standing before after status is runs = subst (λ it. Runs (work (tool_of (order_of it))) standing before after status) (sym is) runs

pub means_of : (command named : Command) (tells : Bool) (held : Held) (status : ℕ) → command ≡ named
    → (IsTrue tells → (answer : Answer) → status ≡ answer_status answer → Means (tool_of (order_of named)) held answer)
    → IsTrue tells → (answer : Answer) → status ≡ answer_status answer → Means (tool_of (order_of command)) held answer
means_of command named tells held status is means = subst (λ it. IsTrue tells → (answer : Answer) → status ≡ answer_status answer → Means (tool_of (order_of it)) held answer) (sym is) means

-- a run for the order of the arguments is a run of this order
pub read_of : (words : Option Order) (standing : Standing) (before after : Devices) (status : ℕ) → Runs (ordered words) standing before after status
    → (o : Order) → words ≡ Some o → (answer : Answer) → status ≡ answer_status answer → MeansRead (work (tool_of o)) (between before.reads after.reads) answer
read_of words standing before after status runs o is answer answered = subst (λ (it : Option Order). MeansRead (ordered it) (between before.reads after.reads) answer) is (runs.means answer answered)

-- the meaning of an answer for the order of the arguments, if there is one
abbrev MeansFor : Option Order → Held → Answer → Type 0
MeansFor None held answer = Unit {0}
MeansFor (Some o) held answer = Means (tool_of o) held answer

-- an answer has the same meaning for the order of a command and for the order of the arguments
pub means_for : (words : Option Order) (named : Order) (held : Held) (answer : Answer) → words ≡ Some named → Means (tool_of named) held answer
    → (o : Order) → words ≡ Some o → Means (tool_of o) held answer
means_for words named held answer given means o is = subst (λ (it : Option Order). MeansFor it held answer) is (subst (λ (it : Option Order). MeansFor it held answer) (sym given) means)
