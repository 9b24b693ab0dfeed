-- The values of words, without their offsets.
use Rattle.std.specs.Prelude.{◌≡◌, ℕ, List, [], ◌∷◌, map, Result, Ok}
use Rattle.text_fields.specs.TextWords.{words_from}

abbrev pub texts_of : List (ℕ × List ℕ) → List (List ℕ)
texts_of words = map (λ word. word.1) words

-- the words of a text without their offsets
abbrev pub words_in : List ℕ → List (List ℕ)
words_in bytes = texts_of (words_from 0 bytes)

-- each word represents the value at the same index
abbrev pub Spell : {A K : Type 0} → (List ℕ → Result A K) → List (List ℕ) → List A → Type 0
Spell parse [] [] = Unit {0}
Spell parse [] (x ∷ xs) = ⊥
Spell parse (word ∷ words) [] = ⊥
Spell parse (word ∷ words) (x ∷ xs) = (parse word ≡ Ok x) × Spell parse words xs
