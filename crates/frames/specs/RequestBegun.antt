-- What the shelf of a request has begun.
use Rattle.std.specs.Prelude.{◌-◌, ℕ, Bool, true, false, List, [], ◌∷◌, Option, Some, None, drop, is_none, length}
use Rattle.frames.specs.NamedFiles.{NamedBytes, Names, file_at}
use Rattle.frames.specs.declared.request_shelf.Begun.{Begun}
use Rattle.frames.specs.declared.request_shelf.Begun.TheVariants.{Nothing, Given, Written, Write}

-- the written file that is read, and how many of its bytes were given
abbrev pub written_place : Begun → Option (ℕ × ℕ)
written_place Nothing = None
written_place (Given left) = None
written_place (Written file at) = Some (file, at)
written_place Write = None

abbrev pub begun_reading : Begun → Bool
begun_reading Nothing = false
begun_reading (Given left) = true
begun_reading (Written file at) = true
begun_reading Write = false

abbrev pub begun_writing : Begun → Bool
begun_writing Nothing = false
begun_writing (Given left) = false
begun_writing (Written file at) = false
begun_writing Write = true

-- what is left of the read
abbrev pub left_of_begun : List NamedBytes → Begun → List ℕ
left_of_begun written Nothing = []
left_of_begun written (Given left) = left.now
left_of_begun written (Written file at) = drop at (file_at written file).bytes
left_of_begun written Write = []

-- the file that is written, which is the last one
abbrev pub last_file : List NamedBytes → NamedBytes
last_file written = file_at written (length written - 1)

-- the last of some names does not exist
abbrev pub lacks_last : Names → List (List ℕ) → Bool
lacks_last held [] = false
lacks_last held (name ∷ []) = is_none (held name)
lacks_last held (name ∷ other ∷ names) = lacks_last held (other ∷ names)
