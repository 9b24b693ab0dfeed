-- Requests that are read one after another, and the replies that are written to them.
use Rattle.std.specs.Prelude.{◌≡◌, ◌≢◌, ◌++◌, ℕ, IsTrue, List, []}
use Rattle.std.specs.List.{AllByRecursion}
use Rattle.cmr_io.specs.Calls.{next_number}
use Rattle.cmr_io.specs.Causes.{Rose}
use Rattle.cmr_io.specs.Reads.{with_more}
use Rattle.cmr_io.specs.Whole.{AppendsPrefix}
use Rattle.netstrings.specs.Netstrings.{IsIncomplete, NeverBegins, StartsWith}
use Rattle.frames.specs.Replies.{reply_text}
use Rattle.frames.specs.Requests.{IsNoRequest}
use Rattle.serving.specs.Exchanges.{Exchange, IsRight, Rule, frames, replies}
use Rattle.serving.specs.Lines.{Seen, moment_of}
use Rattle.serving.specs.Moments.{Moment}
use Rattle.serving.specs.declared.turns.Ending.{Ending}
use Rattle.serving.specs.declared.turns.Ending.TheVariants as endings

-- Since an earlier moment the frames of some requests were heard, and then the bytes that are left, and the right replies to these requests were
-- said, in the same order, and nothing else.
pub record HasReplied (rule : Rule) (before now : Moment) (left : List ℕ) : Type 0 where
  pub exchanges : List Exchange
  pub right : AllByRecursion (IsRight rule) exchanges
  pub heard : now.heard ≡ before.heard ++ (frames exchanges ++ left)
  pub said : now.said ≡ before.said ++ replies exchanges

-- Each whole frame that was heard has its reply, and what is left is the beginning of a frame.
abbrev pub IsUpToDate : Rule → Moment → Moment → Type 0
IsUpToDate rule before now = (left : List ℕ) × HasReplied rule before now left × IsIncomplete left

-- so it was before each call that has read since an earlier moment
pub record RepliesFirst (rule : Rule) (before now : Seen) : Type 0 where
  pub later : List Moment
  pub moments : now.moments ≡ before.moments ++ later
  pub each : AllByRecursion (IsUpToDate rule (moment_of before)) later

-- the current read has come to its end, and nothing of it is left if the shelf tells that
pub record ReadEnds (before now : Seen) : Type 0 where
  pub ends : now.reads.ends ≡ next_number before.reads.ends
  pub none : IsTrue now.tells → now.left ≡ []

-- How the loop ends, by what is left of the given bytes after the frames that have a whole reply: nothing, at the end of the read; the
-- beginning of a frame at the end of the read, or no frame whatever follows; the frame of no request; the beginning of a frame, and a call of
-- the shelf failed; a frame whose reply was written in part, since a call of the sink failed. Of an allocation failure nothing is said but that
-- no reply was begun.
pub data EndsServing (rule : Rule) (left : List ℕ) (replied : List ℕ) (before now : Seen) : Ending → Type 0 where
  done : left ≡ [] → ReadEnds before now → now.taken ≡ replied → EndsServing rule left replied before now endings.Done
  cut : left ≢ [] → IsIncomplete left → ReadEnds before now → now.taken ≡ replied → EndsServing rule left replied before now endings.NoRequest
  no_frame : NeverBegins left → now.taken ≡ replied → EndsServing rule left replied before now endings.NoRequest
  no_request : (text rest : List ℕ) → StartsWith left text rest → IsNoRequest text → now.taken ≡ replied → EndsServing rule left replied before now endings.NoRequest
  unread : IsIncomplete left → IsTrue now.failed → now.taken ≡ replied → EndsServing rule left replied before now endings.Unread
  unwritten : (one : Exchange) → IsRight rule one → (rest : List ℕ) → StartsWith left one.text rest → AppendsPrefix replied now.taken (reply_text one.reply) → Rose before.faults now.faults
      → EndsServing rule left replied before now endings.Unwritten
  memory : now.taken ≡ replied → EndsServing rule left replied before now endings.Memory

-- The shelf has given the frames of some requests and what is left after them, and the sink has taken the right replies to these requests in
-- the same order, each before more was read. No other read and no write was begun.
pub record HasServed (rule : Rule) (before now : Seen) (ending : Ending) : Type 0 where
  pub exchanges : List Exchange
  pub right : AllByRecursion (IsRight rule) exchanges
  pub left : List ℕ
  pub given : now.reads.texts ≡ with_more before.reads.texts (frames exchanges ++ left)
  pub heard : now.heard ≡ before.heard ++ (frames exchanges ++ left)
  pub exposed : IsTrue before.tells → before.left ≡ (frames exchanges ++ left) ++ now.left
  pub ended : EndsServing rule left (before.taken ++ replies exchanges) before now ending
  pub first : RepliesFirst rule before now
  pub names : now.reads.names ≡ before.reads.names
  pub writes : now.writes ≡ before.writes
