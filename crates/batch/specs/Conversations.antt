-- All that cmr-batch does: the requests of standard input and the replies to them, its status and its line.
use Rattle.std.specs.Prelude.{◌≡◌, ℕ, IsTrue, List, [], Option, Some, codes}
use Rattle.cmr_io.specs.Reads.{after_begun}
use Rattle.cmr_front.specs.declared.status.Failure.TheVariants as failures
use Rattle.cmr_front.specs.Status.{failure_status}
use Rattle.serving.specs.Exchanges.{Rule}
use Rattle.serving.specs.Lines.{Seen}
use Rattle.serving.specs.Serving.{HasServed}
use Rattle.serving.specs.declared.turns.Ending.{Ending}
use Rattle.serving.specs.declared.turns.Ending.TheVariants as endings

-- the status of an ending: 0, or that of a text at fault, of a failed device or of an allocation failure
abbrev pub ending_status : Ending → ℕ
ending_status endings.Done = 0
ending_status endings.NoRequest = failure_status failures.Text
ending_status endings.Unread = failure_status failures.Device
ending_status endings.Unwritten = failure_status failures.Device
ending_status endings.Memory = failure_status failures.Memory

-- the line of an ending on standard error
abbrev pub ending_line : Ending → List ℕ
ending_line endings.Done = []
ending_line endings.NoRequest = codes "cmr-batch: no request\n"
ending_line endings.Unread = codes "cmr-batch: cannot read -\n"
ending_line endings.Unwritten = codes "cmr-batch: cannot write -\n"
ending_line endings.Memory = codes "cmr-batch: out of memory\n"

-- A read of `-` was begun: nothing else has changed, and the read is to give the content of this name, if the shelf tells that.
pub record IsBegun (content : Option (List ℕ)) (before begun : Seen) : Type 0 where
  pub reads : begun.reads ≡ after_begun before.reads (codes "-")
  pub left : IsTrue before.tells → content ≡ Some begun.left
  pub tells : begun.tells ≡ before.tells
  pub writes : begun.writes ≡ before.writes
  pub taken : begun.taken ≡ before.taken
  pub faults : begun.faults ≡ before.faults
  pub heard : begun.heard ≡ before.heard
  pub said : begun.said ≡ before.said
  pub moments : begun.moments ≡ before.moments

-- no read of `-` could be begun, and nothing was written
pub record IsUnbegun (before now : Seen) : Type 0 where
  pub reads : now.reads ≡ after_begun before.reads (codes "-")
  pub failed : IsTrue now.failed
  pub writes : now.writes ≡ before.writes
  pub taken : now.taken ≡ before.taken
  pub moments : now.moments ≡ before.moments

-- the requests of `-` were served, or no read of it could be begun
pub data HasConversed (rule : Rule) (content : Option (List ℕ)) (before now : Seen) (ending : Ending) : Type 0 where
  served : (begun : Seen) → IsBegun content before begun → HasServed rule begun now ending → HasConversed rule content before now ending
  unbegun : ending ≡ endings.Unread → IsUnbegun before now → HasConversed rule content before now ending

-- the same, with the status of the ending
pub record EndsWith (rule : Rule) (content : Option (List ℕ)) (before now : Seen) (Says : List ℕ → Type 0) (status : ℕ) : Type 0 where
  pub ending : Ending
  pub conversed : HasConversed rule content before now ending
  pub status_is : status ≡ ending_status ending
  pub line : Says (ending_line ending)
