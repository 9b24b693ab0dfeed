-- The bytes that one call reads or writes.
use Rattle.std.specs.Prelude.{◌≡◌, ◌<◌, ◌≤◌, ◌++◌, ◌↔◌, ℕ, List, [], Option, Some, Result, Ok, Err, length, take}

-- the first `count` bytes of `into` are the next bytes of the read; if `into` has room, `count` is 0 if and only if the read is at
-- its end
pub record GivesPrefix (left rest into : List ℕ) (count : ℕ) : Type 0 where
  pub given : left ≡ take count into ++ rest
  pub end : 0 < length into → (count ≡ 0) ↔ (left ≡ [])

-- the first `count` bytes of the piece are taken, and at least one if the piece is not empty
pub record TakesPrefix (piece : List ℕ) (count : ℕ) : Type 0 where
  pub within : count ≤ length piece
  pub some : 0 < length piece → 0 < count

-- the earlier bytes, and then the bytes of the piece that were taken; a failed call takes none
abbrev pub got_after : {E : Type 0} → List ℕ → List ℕ → Result ℕ E → List ℕ
got_after got piece (Ok count) = got ++ take count piece
got_after got piece (Err e) = got

-- the taken bytes follow the earlier bytes, and the name that is written has all of them
pub record IsAppended {E : Type 0} (got : List ℕ) (piece : List ℕ) (result : Result ℕ E) (new : List ℕ) (content : Option (List ℕ)) : Type 0 where
  pub taken : new ≡ got_after got piece result
  pub holds : content ≡ Some new

-- a write of the name is begun: the name is empty, and no byte is written yet
pub record IsEmptied (name : List ℕ) (content : Option (List ℕ)) (target got : List ℕ) : Type 0 where
  pub holds : content ≡ Some []
  pub aim : target ≡ name
  pub none : got ≡ []
