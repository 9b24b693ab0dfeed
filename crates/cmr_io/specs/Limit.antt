-- The number of bytes that one call on a device in memory takes or gives.
use Rattle.std.specs.Prelude.{ℕ, List, Option, Some, None, length, min}

-- the lesser of `count` and the limit
abbrev pub up_to : Option ℕ → ℕ → ℕ
up_to None count = count
up_to (Some most) count = min count most

-- the number of bytes of a piece that a `put` takes, with this room
abbrev pub taken_by_put : Option ℕ → List ℕ → ℕ → ℕ
taken_by_put limit piece room = up_to limit (min (length piece) room)

-- the number of the remaining bytes that a `next` gives
abbrev pub given_by_next : Option ℕ → List ℕ → List ℕ → ℕ
given_by_next limit left into = up_to limit (min (length left) (length into))
