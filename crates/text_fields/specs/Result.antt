-- Results, one after another.
use Rattle.std.specs.Prelude.{Result, Ok, Err}

infixl 10 ◌>>=◌
abbrev pub ◌>>=◌ : {A B E : Type 0} → Result A E → (A → Result B E) → Result B E
(Ok x) >>= f = f x
(Err e) >>= f = Err e

-- the same result with a renamed fault
abbrev pub renamed : {A J K : Type 0} → (J → K) → Result A J → Result A K
renamed name (Ok x) = Ok x
renamed name (Err fault) = Err (name fault)
