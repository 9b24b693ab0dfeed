-- The first colon of some bytes.
use Rattle.std.specs.Prelude.{◌≡◌, ◌≢◌, ◌+◌, ◌++◌, ℕ, List, [], ◌∷◌, take, drop}

-- no byte is a colon
abbrev pub HasNoColon : List ℕ → Type 0
HasNoColon [] = Unit {0}
HasNoColon (b ∷ bytes) = (b ≢ 58) × HasNoColon bytes

-- a colon is at the position, and none before it
pub record IsFirstColon (bytes : List ℕ) (at : ℕ) : Type 0 where
  pub before : HasNoColon (take at bytes)
  pub here : bytes ≡ take at bytes ++ (58 ∷ drop (at + 1) bytes)
