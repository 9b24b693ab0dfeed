-- The open file or input of a shelf of files.
use Rattle.std.specs.Prelude.{Bool, true, false, ℕ, List, Option, None}
use Rattle.cmr_io.specs.declared.real_shelf.Open.{Open}
use Rattle.cmr_io.specs.declared.real_shelf.Open.TheVariants.{Nothing, Read, Input, Write}

-- a read is begun
abbrev pub is_reading : {F I : Type 0} → Open F I → Bool
is_reading Nothing = false
is_reading (Read file) = true
is_reading (Input input) = true
is_reading (Write file) = false

-- a write is begun
abbrev pub is_writing : {F I : Type 0} → Open F I → Bool
is_writing Nothing = false
is_writing (Read file) = false
is_writing (Input input) = false
is_writing (Write file) = true

-- the rest of the current read, if it is known
abbrev pub left_of_open : {F I : Type 0} → (F → Option (List ℕ)) → (I → Option (List ℕ)) → Open F I → Option (List ℕ)
left_of_open of_file of_input Nothing = None
left_of_open of_file of_input (Read file) = of_file file
left_of_open of_file of_input (Input input) = of_input input
left_of_open of_file of_input (Write file) = None

-- the bytes of the file that is written, if they are known
abbrev pub got_in : {F I : Type 0} → (F → Option (List ℕ)) → Open F I → Option (List ℕ)
got_in of_file Nothing = None
got_in of_file (Read file) = None
got_in of_file (Input input) = None
got_in of_file (Write file) = of_file file
