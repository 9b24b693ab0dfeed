-- Room for the bytes of a `put`.
use Rattle.std.specs.Prelude.{◌&&◌, ◌==◌, ℕ, Bool, nat_lt, List, length}

-- no room is left, and the piece is not empty
abbrev pub has_no_room : List ℕ → ℕ → Bool
has_no_room piece room = nat_lt 0 (length piece) && (room == 0)
