-- What a call on a shelf keeps, and what it counts. The arguments of each record are the ghost fields of the shelf that it uses.
use Rattle.std.specs.Prelude.{◌≡◌, ◌≢◌, ℕ, Bool, IsTrue, List, Option, Result, is_err}
use Rattle.cmr_io.specs.Causes.{HasCause}

-- a call does not change whether the shelf tells its bytes; a calm shelf remains calm, and the room for each name is unchanged
pub record KeepsStanding {S : Type 0} (tells is_calm : S → Bool) (room : S → List ℕ → Option ℕ) (old new : S) : Type 0 where
  pub telling : tells new ≡ tells old
  pub calm : IsTrue (is_calm old) → IsTrue (is_calm new)
  pub rooms : (name : List ℕ) → room new name ≡ room old name

-- the bytes of all names are unchanged, as are the facts of `KeepsStanding`
pub record KeepsNames {S : Type 0} (content : S → List ℕ → Option (List ℕ)) (tells is_calm : S → Bool) (room : S → List ℕ → Option ℕ) (old new : S) : Type 0 where
  pub names : (name : List ℕ) → content new name ≡ content old name
  pub standing : KeepsStanding tells is_calm room old new

-- the bytes of all names except this one are unchanged, as are the facts of `KeepsStanding`
pub record KeepsOthers {S : Type 0} (content : S → List ℕ → Option (List ℕ)) (tells is_calm : S → Bool) (room : S → List ℕ → Option ℕ) (this : List ℕ) (old new : S) : Type 0 where
  pub others : (name : List ℕ) → name ≢ this → content new name ≡ content old name
  pub standing : KeepsStanding tells is_calm room old new

-- the current read or write continues
pub record KeepsBegun {S : Type 0} (is_reading is_writing : S → Bool) (old new : S) : Type 0 where
  pub reading : is_reading new ≡ is_reading old
  pub writing : is_writing new ≡ is_writing old

-- the call failed if and only if its result is an error, and then it counted a fault
pub record IsFaultCounted {S T E : Type 0} (failed : S → Bool) (faults : S → ℕ) (old new : S) (result : Result T E) : Type 0 where
  pub last : failed new ≡ is_err result
  pub cause : HasCause (faults old) (faults new) result
