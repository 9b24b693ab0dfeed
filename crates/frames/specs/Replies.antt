-- What a reply is, and its text.
use Rattle.std.specs.Prelude.{◌≡◌, ◌<◌, ◌^◌, ℕ, List, ◌++◌}
use Rattle.std.specs.Fmt.{decimal}
use Rattle.netstrings.specs.Netstrings.{IsShort, netstring}
use Rattle.frames.specs.NamedFiles.{NamedBytes, files_text}

-- the status, all of standard output and of standard error, and the files that were written, in order
pub record ReplyValue : Type 0 where
  pub status : ℕ
  pub output : List ℕ
  pub error : List ℕ
  pub files : List NamedBytes

-- the content of its netstring
abbrev pub reply_parts : ReplyValue → List ℕ
reply_parts reply = netstring (decimal reply.status) ++ (netstring reply.output ++ (netstring reply.error ++ files_text reply.files))

-- the text of a reply: one netstring
abbrev pub reply_text : ReplyValue → List ℕ
reply_text reply = netstring (reply_parts reply)

-- the bytes are the text of a reply and the rest after it; the text can be read, and the status is a byte
pub record StartsWithReply (bytes : List ℕ) (reply : ReplyValue) (rest : List ℕ) : Type 0 where
  pub whole : bytes ≡ reply_text reply ++ rest
  pub short : IsShort (reply_parts reply)
  pub status : reply.status < 2 ^ 8
