-- Whole reads and writes.
use Rattle.std.specs.Prelude.{◌≡◌, ◌<◌, ◌≤◌, ◌++◌, ◌⊎◌, ℕ, List, [], Option, Some, length, take}

-- the content is the given bytes and then the rest, and at most `most` bytes were given
abbrev pub HasGivenAtMost : ℕ → Option (List ℕ) → List ℕ → Type 0
HasGivenAtMost most content left = (given : List ℕ) × (content ≡ Some (given ++ left)) × (length given ≤ most)

-- the content is the given bytes and then the rest, and `count` bytes were given
abbrev pub HasGiven : ℕ → Option (List ℕ) → List ℕ → Type 0
HasGiven count content left = (given : List ℕ) × (content ≡ Some (given ++ left)) × (length given ≡ count)

-- a proper prefix of the bytes was appended
abbrev pub AppendsPrefix : List ℕ → List ℕ → List ℕ → Type 0
AppendsPrefix old new bytes = (count : ℕ) × (count < length bytes) × (new ≡ old ++ take count bytes)

-- the content of a name is unchanged or empty
abbrev pub StaysOrEmptied : Option (List ℕ) → Option (List ℕ) → Type 0
StaysOrEmptied old new = (new ≡ old) ⊎ (new ≡ Some [])

-- the content of a name is unchanged, or a prefix of the bytes
abbrev pub StaysOrHoldsPrefix : Option (List ℕ) → Option (List ℕ) → List ℕ → Type 0
StaysOrHoldsPrefix old new bytes = (new ≡ old) ⊎ ((count : ℕ) × (new ≡ Some (take count bytes)))
