-- Reading of a text from left to right, up to the first fault. K is the type of the kinds of fault of a form of text.
use Rattle.std.specs.Prelude.{◌≡◌, ℕ, zero, suc, List, [], ◌∷◌, ◌++◌, Result, Ok, Err}
use Rattle.text_fields.specs.declared.error.FieldError.{FieldError}
use Rattle.text_fields.specs.declared.error.FieldError.TheVariants as errors
use Rattle.text_fields.specs.TextWords.{Text}
use Rattle.text_fields.specs.Result.{◌>>=◌}

-- a kind, and the offset of the faulty word
abbrev pub Fault : Type 0 → Type 0
Fault K = K × ℕ

-- the next word with its offset, and the text after it. If the text has no further word, the fault is at the end of the text.
abbrev pub due_of : {K : Type 0} → K → ℕ → List (ℕ × List ℕ) → Result ((ℕ × List ℕ) × Text) (Fault K)
due_of short size [] = Err (short, size)
due_of short size (word ∷ words) = Ok (word, record { size = size; words = words })

abbrev pub due : {K : Type 0} → K → Text → Result ((ℕ × List ℕ) × Text) (Fault K)
due short text = due_of short text.size text.words

-- the value that was read, or the fault at this place
abbrev pub placed : {A K : Type 0} → ℕ → Result A K → Result A (Fault K)
placed place (Ok x) = Ok x
placed place (Err kind) = Err (kind, place)

-- the value of the next word, and the text after it
abbrev pub field : {A K : Type 0} → K → (List ℕ → Result A K) → Text → Result (A × Text) (Fault K)
field short parse text = do
  word ← due short text
  value ← placed (word.0).0 (parse (word.0).1)
  Ok (value, word.1)

-- a repeated step; each step continues with the result of the previous step
abbrev pub times : {S F : Type 0} → (S → Text → Result (S × Text) F) → ℕ → S → Text → Result (S × Text) F
times step zero state text = Ok (state, text)
times step (suc n) state text = do
  next ← step state text
  times step n next.0 next.1

-- one more field after the fields that were read
abbrev pub another : {A K : Type 0} → K → (List ℕ → Result A K) → List A → Text → Result (List A × Text) (Fault K)
another short parse values text = do
  value ← field short parse text
  Ok (values ++ value.0 ∷ [], value.1)

-- n fields of one kind
abbrev pub fields : {A K : Type 0} → K → (List ℕ → Result A K) → ℕ → Text → Result (List A × Text) (Fault K)
fields short parse n text = times (another short parse) n [] text

-- the value that was read, if no word remains
abbrev pub ended_of : {A K : Type 0} → K → A → List (ℕ × List ℕ) → Result A (Fault K)
ended_of extra x [] = Ok x
ended_of extra x (word ∷ words) = Err (extra, word.0)

abbrev pub ended : {A K : Type 0} → K → A → Text → Result A (Fault K)
ended extra x text = ended_of extra x text.words

-- A function's error is the fault of reading, unless memory ran out.
abbrev pub Fails : {Y K : Type 0} → FieldError K → Result Y (Fault K) → Type 0
Fails errors.Memory read = Unit {0}
Fails (errors.Fault kind place) read = read ≡ Err (kind, place)

-- A function's result under `view` is the result of the reading, unless memory ran out.
abbrev pub Gives : {X Y K : Type 0} → (X → Y) → Result X (FieldError K) → Result Y (Fault K) → Type 0
Gives view (Ok x) read = read ≡ Ok (view x)
Gives view (Err e) read = Fails e read

-- The same, with the text that remains.
abbrev pub Reads : {X Y K : Type 0} → (X → Y) → Text → Result X (FieldError K) → Result (Y × Text) (Fault K) → Type 0
Reads view rest (Ok x) read = read ≡ Ok (view x, rest)
Reads view rest (Err e) read = Fails e read
