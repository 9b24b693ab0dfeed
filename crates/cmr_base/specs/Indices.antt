-- Sets of rows or of columns, as increasing lists of their numbers.
use Rattle.std.specs.Prelude.{◌<◌, ℕ, List, slice_index, length}

-- above each item
abbrev pub IsAbove : ℕ → List ℕ → Type 0
IsAbove item items = (k : ℕ) → k < length items → slice_index items k < item
