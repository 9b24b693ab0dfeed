-- Requests and the replies to them, one after another.
use Rattle.std.specs.Prelude.{ℕ, List, map}
use Rattle.std.specs.List.{flat_map}
use Rattle.netstrings.specs.Netstrings.{netstrings}
use Rattle.frames.specs.NamedFiles.{NamedBytes}
use Rattle.frames.specs.Replies.{ReplyValue, reply_text}
use Rattle.frames.specs.Requests.{IsTextOf}

-- which replies are right for the words and the files of a request
abbrev pub Rule : Type 1
Rule = List (List ℕ) → List NamedBytes → ReplyValue → Type 0

-- the text of a request, and the reply to it
pub record Exchange : Type 0 where
  pub text : List ℕ
  pub reply : ReplyValue

-- the frames of the requests, one netstring each
abbrev pub frames : List Exchange → List ℕ
frames exchanges = netstrings (map (λ one. one.text) exchanges)

-- the replies, one netstring each
abbrev pub replies : List Exchange → List ℕ
replies exchanges = flat_map (λ one. reply_text one.reply) exchanges

-- the text is the text of a request, and the reply is right for its words and its files
pub record IsRight (rule : Rule) (one : Exchange) : Type 0 where
  pub words : List (List ℕ)
  pub files : List NamedBytes
  pub is_request : IsTextOf one.text words files
  pub is_reply : rule words files one.reply
