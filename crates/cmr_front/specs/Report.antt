-- The results that a run has to give, and the contents of the names of a shelf.
use Rattle.std.specs.Prelude.{ℕ, List, [], ◌∷◌, Option, Some, None, if◌then◌else◌}
use Rattle.std.specs.Str.{bytes_eq}
use Rattle.cmr_io.specs.Log.{Log, log_with}
use Rattle.cmr_front.specs.declared.status.Failure.{Failure}
use Rattle.cmr_front.specs.Status.{failure_status}

-- the content of each name that exists
abbrev pub Held : Type 0
Held = List ℕ → Option (List ℕ)

-- a file that a run writes
pub record File : Type 0 where
  pub name : List ℕ
  pub bytes : List ℕ

-- The status, all of standard output and of standard error, and the files in the order in which they are written.
pub record Report : Type 0 where
  pub status : ℕ
  pub output : List ℕ
  pub error : List ℕ
  pub files : List File

-- the status of a failure and a line of standard error, and nothing else
abbrev pub refusal : Failure → List ℕ → Report
refusal failure line = record { status = failure_status failure; output = []; error = line; files = [] }

-- a file of this name if it is requested
abbrev pub asked_file : Option (List ℕ) → List ℕ → List File
asked_file None bytes = []
asked_file (Some name) bytes = record { name = name; bytes = bytes } ∷ []

-- the contents of the names after a file was written
abbrev pub with_file : Held → File → Held
with_file held file name = if bytes_eq name file.name then Some file.bytes else held name

-- the contents of the names after some files were written in order
abbrev pub with_files : Held → List File → Held
with_files held [] = held
with_files held (file ∷ files) = with_files (with_file held file) files

-- the writes of a shelf after some files were written in order, each once and whole
abbrev pub after_files : Log → List File → Log
after_files writes [] = writes
after_files writes (file ∷ files) = after_files (log_with writes file.name file.bytes) files
