-- The files that a tool reads, and their contents.
use Rattle.std.specs.Prelude.{ℕ, nat_lt, if◌then◌else◌, List, [], ◌∷◌, length, Option, Some, None}
use Rattle.cmr_front.specs.declared.input.Input.{Input}
use Rattle.cmr_front.specs.declared.input.InputKind.{InputKind}
use Rattle.cmr_front.specs.declared.input.InputKind.TheVariants.{MatrixText, Evidence}
use Rattle.cmr_front.specs.declared.input.Text.{Text}
use Rattle.cmr_front.specs.Report.{Held}
use Rattle.cmr_base.specs.declared.limits.TheConstants.{MAX_EVIDENCE, MAX_TEXT}

-- a file that is read
pub record InputFile : Type 0 where
  pub name : List ℕ
  pub kind : InputKind

abbrev pub input_file : Input → InputFile
input_file input = record { name = input.name.now; kind = input.kind }

-- the bytes of a file
abbrev pub bytes_of : Text → List ℕ
bytes_of text = text.bytes.items

-- the maximum number of bytes of a file: 16 MiB and 256 MiB
abbrev pub most_bytes : InputKind → ℕ
most_bytes MatrixText = MAX_TEXT
most_bytes Evidence = MAX_EVIDENCE

-- a file does not exist, exceeds its limit, or has these bytes
pub data Reading : Type 0 where
  missing : Reading
  above_limit : Reading
  whole : List ℕ → Reading

abbrev pub reading_of : ℕ → Option (List ℕ) → Reading
reading_of most None = missing
reading_of most (Some bytes) = if nat_lt most (length bytes) then above_limit else whole bytes

abbrev pub reading : Held → InputFile → Reading
reading held file = reading_of (most_bytes file.kind) (held file.name)

-- What reading some files in order gives: their texts, or the name of the first file that does not exist or exceeds its limit.
pub data Given : Type 0 where
  not_there : List ℕ → Given
  too_much : List ℕ → Given
  texts : List (List ℕ) → Given

abbrev pub with_text : List ℕ → Given → Given
with_text bytes (not_there name) = not_there name
with_text bytes (too_much name) = too_much name
with_text bytes (texts others) = texts (bytes ∷ others)

abbrev pub and_then : List ℕ → Reading → Given → Given
and_then name missing others = not_there name
and_then name above_limit others = too_much name
and_then name (whole bytes) others = with_text bytes others

abbrev pub given : Held → List InputFile → Given
given held [] = texts []
given held (file ∷ files) = and_then file.name (reading held file) (given held files)
