-- The files of a shelf in memory.
use Rattle.std.specs.Prelude.{◌≡◌, ◌&&◌, ◌-◌, ℕ, zero, suc, Bool, true, false, not, nat_le, List, [], ◌∷◌, Option, Some, None, length, unwrap_or, is_some, if◌then◌else◌}
use Rattle.std.specs.List.{list_any}
use Rattle.std.specs.String.{string_bytes}
use Rattle.std.specs.Str.{bytes_eq}
use Rattle.cmr_io.specs.declared.memory_file.File.{File}

abbrev pub file_name : File → List ℕ
file_name file = string_bytes file.name

-- the bytes of a file, and `None` if it does not exist
abbrev pub held_by : File → Option (List ℕ)
held_by file = if file.is_there then Some file.bytes.items else None

-- the room that was prepared for a file
abbrev pub room_for : File → Option ℕ
room_for file = file.room

-- the number of bytes that its room still allows
abbrev pub room_left : File → ℕ
room_left file = unwrap_or file.room 0 - length file.bytes.items

-- the file exists, and is at most as long as its room
abbrev pub is_writable : File → Bool
is_writable file = file.is_there && is_some file.room && nat_le (length file.bytes.items) (unwrap_or file.room 0)

abbrev pub is_named : List ℕ → File → Bool
is_named name file = bytes_eq (file_name file) name

-- a file has the name
abbrev pub has_name : List ℕ → List File → Bool
has_name name files = list_any (is_named name) files

-- the view of the first file with a name
abbrev pub of_first : {A : Type 0} → (File → Option A) → List File → List ℕ → Option A
of_first view [] name = None
of_first view (file ∷ files) name = if is_named name file then view file else of_first view files name

-- the bytes of a name
abbrev pub content_in : List File → List ℕ → Option (List ℕ)
content_in files name = of_first held_by files name

-- the room of a name
abbrev pub room_in : List File → List ℕ → Option ℕ
room_in files name = of_first room_for files name

-- the first file with a name is at the index
abbrev pub IsFirstFile : List ℕ → List File → ℕ → Type 0
IsFirstFile name [] i = ⊥
IsFirstFile name (file ∷ files) zero = is_named name file ≡ true
IsFirstFile name (file ∷ files) (suc i) = (is_named name file ≡ false) × IsFirstFile name files i

-- the bytes of the file at an index
abbrev pub bytes_at : List File → ℕ → List ℕ
bytes_at [] i = []
bytes_at (file ∷ files) zero = file.bytes.items
bytes_at (file ∷ files) (suc i) = bytes_at files i

-- the name of the file at an index
abbrev pub name_at : List File → ℕ → List ℕ
name_at [] i = []
name_at (file ∷ files) zero = file_name file
name_at (file ∷ files) (suc i) = name_at files i

-- the file at an index is writable, and the first with its name
abbrev pub is_writable_at : List File → ℕ → Bool
is_writable_at [] i = false
is_writable_at (file ∷ files) zero = is_writable file
is_writable_at (file ∷ files) (suc i) = not (is_named (name_at files i) file) && is_writable_at files i
