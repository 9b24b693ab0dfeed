-- The text of a reply is that of one reply only.
use Rattle.std.proofs.Common.{◌≡◌, ◌<◌, ◌≤◌, ◌+◌, ◌^◌, ◌∙◌, ℕ, List, [], ◌∷◌, ◌++◌, length, refl, ap, arith, append_assoc, length-append}
use Rattle.std.specs.Fmt.{decimal}
use Rattle.std.specs.List.{AllByRecursion}
use Rattle.std.proofs.lemmas.Fmt.{decimal_injective}
use Rattle.netstrings.specs.Netstrings.{netstring, IsShort}
use Rattle.netstrings.proofs.NetstringLemmas.{one_netstring}
use Rattle.frames.specs.NamedFiles.{NamedBytes, files_text}
use Rattle.frames.specs.Replies.{ReplyValue, StartsWithReply, reply_parts}
use Rattle.frames.proofs.RequestLemmas.{IsShortFile, one_file_row}

-- ---- the parts of a short text are short

length-netstring : (text : List ℕ) → length text ≤ length (netstring text)
length-netstring text =
    let whole : length (netstring text) ≡ length (decimal (length text)) + length (58 ∷ (text ++ (44 ∷ []))) = length-append (decimal (length text)) (58 ∷ (text ++ (44 ∷ []))) in
    let inner : length (text ++ (44 ∷ [])) ≡ length text + 1 = length-append text (44 ∷ []) in
    omega arith

first_is_short : (text rest : List ℕ) → IsShort (netstring text ++ rest) → IsShort text
first_is_short text rest short = let whole = length-append (netstring text) rest in let first = length-netstring text in omega arith

rest_is_short : (text rest : List ℕ) → IsShort (netstring text ++ rest) → IsShort rest
rest_is_short text rest short = let whole = length-append (netstring text) rest in omega arith

files_are_short : (files : List NamedBytes) → IsShort (files_text files) → AllByRecursion IsShortFile files
files_are_short [] short = tt
files_are_short (file ∷ files) short =
    let parts : files_text (file ∷ files) ≡ netstring file.name ++ (netstring file.bytes ++ files_text files) = append_assoc (netstring file.name) (netstring file.bytes) (files_text files) in
    let all : IsShort (netstring file.name ++ (netstring file.bytes ++ files_text files)) = let same = ap length parts in omega arith in
    let bytes : IsShort (netstring file.bytes ++ files_text files) = rest_is_short file.name (netstring file.bytes ++ files_text files) all in
    let first : IsShortFile file = record { name = first_is_short file.name (netstring file.bytes ++ files_text files) all; bytes = first_is_short file.bytes (files_text files) bytes } in
    (first, files_are_short files (rest_is_short file.bytes (files_text files) bytes))

-- ---- unique

-- two rows of netstrings begin with one text
same_first : (text rest other more : List ℕ) → IsShort (netstring text ++ rest) → IsShort (netstring other ++ more) → netstring text ++ rest ≡ netstring other ++ more → (text ≡ other) × (rest ≡ more)
same_first text rest other more short also e =
    one_netstring (netstring text ++ rest) text rest other more (record { whole = refl; short = first_is_short text rest short }) (record { whole = e; short = first_is_short other more also })

same_reply : (reply other : ReplyValue) → reply.status ≡ other.status → reply.output ≡ other.output → reply.error ≡ other.error → reply.files ≡ other.files → reply ≡ other
same_reply reply other status output error files =
    ap (λ (n : ℕ). record { status = n; output = reply.output; error = reply.error; files = reply.files }) status
    ∙ ap (λ (bytes : List ℕ). record { status = other.status; output = bytes; error = reply.error; files = reply.files }) output
    ∙ ap (λ (bytes : List ℕ). record { status = other.status; output = other.output; error = bytes; files = reply.files }) error
    ∙ ap (λ (all : List NamedBytes). record { status = other.status; output = other.output; error = other.error; files = all }) files

one_content : (reply other : ReplyValue) → IsShort (reply_parts reply) → IsShort (reply_parts other) → reply.status < 2 ^ 8 → other.status < 2 ^ 8
    → reply_parts reply ≡ reply_parts other → reply ≡ other
one_content reply other short also small low e =
    let errors = netstring reply.error ++ files_text reply.files in
    let outputs = netstring reply.output ++ errors in
    let others = netstring other.error ++ files_text other.files in
    let more = netstring other.output ++ others in
    let status = same_first (decimal reply.status) outputs (decimal other.status) more short also e in
    let outputs_short = rest_is_short (decimal reply.status) outputs short in
    let more_short = rest_is_short (decimal other.status) more also in
    let output = same_first reply.output errors other.output others outputs_short more_short status.1 in
    let errors_short = rest_is_short reply.output errors outputs_short in
    let others_short = rest_is_short other.output others more_short in
    let error = same_first reply.error (files_text reply.files) other.error (files_text other.files) errors_short others_short output.1 in
    same_reply reply other
    (decimal_injective reply.status other.status (omega arith) (omega arith) status.0)
    output.0
    error.0
    (one_file_row reply.files other.files
    (files_are_short reply.files (rest_is_short reply.error (files_text reply.files) errors_short))
    (files_are_short other.files (rest_is_short other.error (files_text other.files) others_short))
    error.1)

-- a text begins with at most one reply
pub one_reply : (bytes rest more : List ℕ) (reply other : ReplyValue) → StartsWithReply bytes reply rest → StartsWithReply bytes other more → (reply ≡ other) × (rest ≡ more)
one_reply bytes rest more reply other one two =
    let same = one_netstring bytes (reply_parts reply) rest (reply_parts other) more (record { whole = one.whole; short = one.short }) (record { whole = two.whole; short = two.short }) in
    (one_content reply other one.short two.short one.status two.status same.0, same.1)
