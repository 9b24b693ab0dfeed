-- What the reply to a request says.
use Rattle.std.specs.Prelude.{◌≡◌, ℕ, List, map}
use Rattle.cmr_front.specs.Inputs.{given, not_there}
use Rattle.cmr_front.specs.Outcome.{cannot_read, out_of_memory}
use Rattle.cmr_front.specs.Report.{File, Held, Report}
use Rattle.cmr_front.specs.Run.{Means, Ordered, Reports, nothing, work}
use Rattle.cmr_front.specs.Status.{answer_status}
use Rattle.cmr_front.specs.declared.status.Answer.{Answer}
use Rattle.frames.specs.NamedFiles.{NamedBytes, all_laid, nothing_held}
use Rattle.frames.specs.Replies.{ReplyValue}

-- a file that the tool reads does not exist
abbrev pub Lacks : Ordered → Held → List ℕ → Type 0
Lacks nothing held name = ⊥
Lacks (work tool) held name = given held tool.inputs ≡ not_there name

abbrev pub named : File → NamedBytes
named file = record { name = file.name; bytes = file.bytes }

-- the reply with a report: its status, its standard output and standard error, and its files
abbrev pub reply_of : Report → ReplyValue
reply_of report = record { status = report.status; output = report.output; error = report.error; files = map named report.files }

-- the reply that an allocation failed
abbrev pub memory_reply : ReplyValue
memory_reply = reply_of out_of_memory

-- The reply to an order over what names hold: a report of the order, or the line on a file that does not exist, or that an allocation failed.
pub data IsReply (ordered : Ordered) (held : Held) (reply : ReplyValue) : Type 0 where
  reported : (report : Report) → Reports ordered held report → reply ≡ reply_of report → IsReply ordered held reply
  unread : (name : List ℕ) → Lacks ordered held name → reply ≡ reply_of (cannot_read name) → IsReply ordered held reply
  refused : reply ≡ memory_reply → IsReply ordered held reply

-- the meaning of an answer to an order over what names hold; if nothing is ordered, there is no answer
abbrev pub MeansOrdered : Ordered → Held → Answer → Type 0
MeansOrdered nothing held answer = ⊥
MeansOrdered (work tool) held answer = Means tool held answer

-- The reply to an order over the files of a request. If it has the status of an answer, the files hold what the answer means.
pub record IsReplyTo (ordered : Ordered) (files : List NamedBytes) (reply : ReplyValue) : Type 0 where
  pub says : IsReply ordered (all_laid nothing_held files) reply
  pub means : (answer : Answer) → reply.status ≡ answer_status answer → MeansOrdered ordered (all_laid nothing_held files) answer
