-- Laws of requests and replies.
use Rattle.std.specs.Prelude.{◌≡◌, ℕ, List}
use Rattle.frames.specs.NamedFiles.{NamedBytes}
use Rattle.frames.specs.Replies.{ReplyValue, StartsWithReply}
use Rattle.frames.specs.Requests.{IsTextOf}

-- the text of a request is that of one list of words and one list of files only
abbrev pub OneRequestLaw : Type 0
OneRequestLaw = (bytes : List ℕ) (words others : List (List ℕ)) (files more : List NamedBytes) → IsTextOf bytes words files → IsTextOf bytes others more → (words ≡ others) × (files ≡ more)

-- a text begins with at most one reply
abbrev pub OneReplyLaw : Type 0
OneReplyLaw = (bytes rest more : List ℕ) (reply other : ReplyValue) → StartsWithReply bytes reply rest → StartsWithReply bytes other more → (reply ≡ other) × (rest ≡ more)
