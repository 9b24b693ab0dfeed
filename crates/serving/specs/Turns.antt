-- One turn of the loop: a reply, or a piece that is read.
use Rattle.std.specs.Prelude.{◌≡◌, ◌≢◌, ◌≤◌, ◌++◌, ℕ, IsTrue, List, [], ◌∷◌, Vec, Result, Ok, Err, OnOk}
use Rattle.cmr_io.specs.Causes.{Rose}
use Rattle.cmr_io.specs.Reads.{with_more}
use Rattle.cmr_io.specs.Whole.{AppendsPrefix}
use Rattle.netstrings.specs.Netstrings.{IsIncomplete, NeverBegins, StartsWith}
use Rattle.frames.specs.Replies.{reply_text}
use Rattle.frames.specs.Requests.{IsNoRequest}
use Rattle.serving.specs.Exchanges.{Exchange, IsRight, Rule}
use Rattle.serving.specs.Lines.{Seen, moment_of}
use Rattle.serving.specs.Serving.{ReadEnds}
use Rattle.serving.specs.declared.turns.Ending.{Ending}
use Rattle.serving.specs.declared.turns.Ending.TheVariants as endings

-- the request with a text, and a right reply to it
abbrev pub RightReplyTo : Rule → List ℕ → Type 0
RightReplyTo rule text = (one : Exchange) × (one.text ≡ text) × IsRight rule one

-- the bytes are a right reply to a text, or the text is no request, or an allocation failed
abbrev pub IsReplyOf : {A : Type 0} → Rule → List ℕ → Result (Vec ℕ A) Ending → Type 0
IsReplyOf rule text (Ok bytes) = (right : RightReplyTo rule text) × (bytes.items ≡ reply_text right.0.reply)
IsReplyOf rule text (Err endings.Done) = ⊥
IsReplyOf rule text (Err endings.NoRequest) = IsNoRequest text
IsReplyOf rule text (Err endings.Unread) = ⊥
IsReplyOf rule text (Err endings.Unwritten) = ⊥
IsReplyOf rule text (Err endings.Memory) = Unit {0}

-- the sink has taken these bytes in all and has this number of faults, and the line has said these bytes in all; all else is unchanged
abbrev pub has_taken : Seen → List ℕ → ℕ → List ℕ → Seen
has_taken seen taken faults said = record {
  tells = seen.tells;
  reading = seen.reading;
  left = seen.left;
  reads = seen.reads;
  writes = seen.writes;
  failed = seen.failed;
  taken = taken;
  faults = faults;
  heard = seen.heard;
  said = said;
  moments = seen.moments;
}

-- the sink has taken the right reply to a text, or a prefix of it and failed, or nothing
abbrev pub IsReplied : Rule → List ℕ → Seen → Seen → Result (Unit {0}) Ending → Type 0
IsReplied rule text before now (Ok done) = (right : RightReplyTo rule text) × (now ≡ has_taken before (before.taken ++ reply_text right.0.reply) now.faults (before.said ++ reply_text right.0.reply)) × (before.faults ≤ now.faults)
IsReplied rule text before now (Err endings.Done) = ⊥
IsReplied rule text before now (Err endings.NoRequest) = IsNoRequest text × (now ≡ before)
IsReplied rule text before now (Err endings.Unread) = ⊥
IsReplied rule text before now (Err endings.Unwritten) = (right : RightReplyTo rule text) × (now ≡ has_taken before now.taken now.faults now.said) × AppendsPrefix before.taken now.taken (reply_text right.0.reply) × Rose before.faults now.faults
IsReplied rule text before now (Err endings.Memory) = now ≡ before

-- how the loop ends at the end of the read
abbrev pub IsAtEnd : List ℕ → Ending → Type 0
IsAtEnd held endings.Done = held ≡ []
IsAtEnd held endings.NoRequest = held ≢ []
IsAtEnd held endings.Unread = ⊥
IsAtEnd held endings.Unwritten = ⊥
IsAtEnd held endings.Memory = ⊥

-- the given bytes follow what was held; or the read has ended; or a call failed; of an allocation failure nothing is said
abbrev pub HearsSo : Seen → Seen → List ℕ → List ℕ → List ℕ → Result (Unit {0}) Ending → Type 0
HearsSo before now held given after (Ok done) = (after ≡ held ++ given) × (now.reads.ends ≡ before.reads.ends)
HearsSo before now held given after (Err endings.Done) = (held ≡ []) × (given ≡ []) × ReadEnds before now
HearsSo before now held given after (Err endings.NoRequest) = (held ≢ []) × (given ≡ []) × ReadEnds before now
HearsSo before now held given after (Err endings.Unread) = (given ≡ []) × IsTrue now.failed
HearsSo before now held given after (Err endings.Unwritten) = ⊥
HearsSo before now held given after (Err endings.Memory) = Unit {0}

-- the shelf has given a piece, and the sink nothing
pub record IsHeard (before now : Seen) (held after : List ℕ) (result : Result (Unit {0}) Ending) : Type 0 where
  pub given : List ℕ
  pub texts : now.reads.texts ≡ with_more before.reads.texts given
  pub exposed : IsTrue before.tells → before.left ≡ given ++ now.left
  pub says : HearsSo before now held given after result
  pub moments : now.moments ≡ before.moments ++ moment_of before ∷ []
  pub heard : now.heard ≡ before.heard ++ given
  pub said : now.said ≡ before.said
  pub taken : now.taken ≡ before.taken
  pub faults : now.faults ≡ before.faults
  pub tells : now.tells ≡ before.tells
  pub reading : now.reading ≡ before.reading
  pub names : now.reads.names ≡ before.reads.names
  pub writes : now.writes ≡ before.writes

-- A turn: a reply to the first frame that is held, which is taken; or a piece that is read, if more bytes may complete the first frame; or no
-- frame is held, whatever follows.
pub data IsTurn (rule : Rule) (before now : Seen) (held after : List ℕ) (result : Result (Unit {0}) Ending) : Type 0 where
  replied : (text rest : List ℕ) → StartsWith held text rest → IsReplied rule text before now result → OnOk result (after ≡ rest) → IsTurn rule before now held after result
  heard : IsIncomplete held → IsHeard before now held after result → IsTurn rule before now held after result
  no_frame : NeverBegins held → result ≡ Err endings.NoRequest → now ≡ before → IsTurn rule before now held after result
