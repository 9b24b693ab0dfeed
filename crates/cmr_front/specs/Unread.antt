-- How far the files of a tool were read, and which file could not be read.
use Rattle.std.specs.Prelude.{◌≡◌, ◌<◌, ◌≤◌, ◌+◌, ◌++◌, ℕ, Bool, IsTrue, List, [], ◌∷◌, Some, length, map, slice_get, take}
use Rattle.cmr_io.specs.Calls.{up_to_last}
use Rattle.cmr_io.specs.Reads.{Reads}
use Rattle.cmr_front.specs.Inputs.{InputFile, given, most_bytes, not_there, texts}
use Rattle.cmr_front.specs.Report.{Held}

-- the reads of a shelf before and after
pub record Between : Type 0 where
  pub before : Reads
  pub after : Reads

abbrev pub between : Reads → Reads → Between
between before after = record { before = before; after = after }

-- this number of further reads have reached their ends, according to the counts
abbrev pub HaveEnded : ℕ → Between → Type 0
HaveEnded count reads = up_to_last reads.after.ends ≡ up_to_last (reads.before.ends + count)

-- the reads of the first files, of this number, were begun, in their order and each once, and no others
abbrev pub HaveBegun : List InputFile → ℕ → Between → Type 0
HaveBegun files count reads = reads.after.names ≡ reads.before.names ++ take count (map (λ file. file.name) files)

-- The reads of the first files, of one number, were begun, in their order and each once, and no others. Another number of reads
-- reached their ends.
pub record AreRead (files : List InputFile) (begun ended : ℕ) (reads : Between) : Type 0 where
  pub have_begun : HaveBegun files begun reads
  pub have_ended : HaveEnded ended reads

-- the reads of all files were begun, and each reached its end
abbrev pub AreAllRead : List InputFile → Between → Type 0
AreAllRead files reads = AreRead files (length files) (length files) reads

-- each text is within the limit of its file, and there are at most as many texts as files
abbrev pub AreWithinLimits : List InputFile → List (List ℕ) → Type 0
AreWithinLimits files [] = Unit {0}
AreWithinLimits [] (text ∷ bytes) = ⊥
AreWithinLimits (file ∷ files) (text ∷ bytes) = (length text ≤ most_bytes file.kind) × AreWithinLimits files bytes

-- each text is at most one byte longer than the limit of its file, and there are at most as many texts as files
abbrev pub AreNearlyWithin : List InputFile → List (List ℕ) → Type 0
AreNearlyWithin files [] = Unit {0}
AreNearlyWithin [] (text ∷ bytes) = ⊥
AreNearlyWithin (file ∷ files) (text ∷ bytes) = (length text ≤ most_bytes file.kind + 1) × AreNearlyWithin files bytes

-- The reads of the first files were begun, in their order and each once, and no others. They have given these texts and nothing
-- else, and each text is at most one byte longer than the limit of its file.
pub record HaveBegunWith (files : List InputFile) (bytes : List (List ℕ)) (reads : Between) : Type 0 where
  pub have_begun : HaveBegun files (length bytes) reads
  pub given : reads.after.texts ≡ reads.before.texts ++ bytes
  pub nearly : AreNearlyWithin files bytes

-- The reads that were begun have given these texts, in their order, and nothing else. Each text is within the limit of its file.
pub record HaveGiven (files : List InputFile) (bytes : List (List ℕ)) (reads : Between) : Type 0 where
  pub given : reads.after.texts ≡ reads.before.texts ++ bytes
  pub within : AreWithinLimits files bytes

-- The read of the file at a place was begun last, and the number of bytes that it has given satisfies a relation to the limit of
-- the file. The reads before it have given texts within their limits.
pub record GivesLast (Says : ℕ → ℕ → Type 0) (files : List InputFile) (place : ℕ) (reads : Between) : Type 0 where
  pub bytes : List (List ℕ)
  pub last : List ℕ
  pub file : InputFile
  pub count : length bytes ≡ place
  pub given : reads.after.texts ≡ reads.before.texts ++ (bytes ++ last ∷ [])
  pub within : AreWithinLimits files bytes
  pub there : slice_get files place ≡ Some file
  pub size : Says (most_bytes file.kind) (length last)

-- it has given one byte more than the limit
abbrev pub GivesTooMuch : List InputFile → ℕ → Between → Type 0
GivesTooMuch files place reads = GivesLast (λ most count. count ≡ most + 1) files place reads

-- it has given a text within the limit, which may be incomplete
abbrev pub GivesPart : List InputFile → ℕ → Between → Type 0
GivesPart files place reads = GivesLast (λ most count. count ≤ most) files place reads

-- the file at a place has this name
abbrev pub IsNameAt : List InputFile → ℕ → List ℕ → Type 0
IsNameAt files place name = slice_get (map (λ file. file.name) files) place ≡ Some name

-- A file could not be read. Its read was begun last, as many reads reached their ends as there are files before it, with texts within
-- their limits, and the last call failed. If the shelf tells its bytes, the files before it exist and are within their limits. If the
-- shelf is calm, the file does not exist.
pub record IsUnread (files : List InputFile) (held : Held) (tells calm : Bool) (reads : Between) (failed : Bool) (name : List ℕ) : Type 0 where
  pub place : ℕ
  pub named : IsNameAt files place name
  pub read : AreRead files (place + 1) place reads
  pub part : GivesPart files place reads
  pub cause : IsTrue failed
  pub there : IsTrue tells → (bytes : List (List ℕ)) × (given held (take place files) ≡ texts bytes)
  pub missing : IsTrue tells → IsTrue calm → given held files ≡ not_there name
