-- Results that are a value if and only if a definition has one.
use Rattle.std.specs.Prelude.{◌≡◌, Option, Some, None, option_and_then, Result, Ok, Err}
use Rattle.cmr_front.specs.declared.words.WordsError.{WordsError}
use Rattle.cmr_front.specs.declared.words.WordsError.TheVariants.{Refused, Memory}

infixl 10 ◌>>=◌
abbrev pub ◌>>=◌ : {A B : Type 0} → Option A → (A → Option B) → Option B
o >>= f = option_and_then f o

-- the result is the defined value, or refuses if none is defined; an allocation may fail
abbrev pub Gives : {X Y : Type 0} → (X → Y) → Result X WordsError → Option Y → Type 0
Gives view (Ok x) defined = defined ≡ Some (view x)
Gives view (Err Refused) defined = defined ≡ None
Gives view (Err Memory) defined = Unit {0}
