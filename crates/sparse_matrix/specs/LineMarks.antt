-- Marks of lines.
use Rattle.std.specs.Prelude.{ℕ, Bool, false, List, slice_index_or}

-- whether a line has a mark
abbrev pub is_marked : List Bool → ℕ → Bool
is_marked marks line = slice_index_or marks line false
