-- Words that spell values.
use Rattle.std.proofs.Common.{◌≡◌, ℕ, List, [], ◌∷◌, ◌++◌, map, Result, Ok}
use Rattle.std.specs.List.{AllByRecursion, flat_map}
use Rattle.text_fields.specs.Spelling.{Spell}

-- each value's word represents the value
pub Spell-map : {A K : Type 0} (parse : List ℕ → Result A K) (write : A → List ℕ) (values : List A) → AllByRecursion (λ x. parse (write x) ≡ Ok x) values → Spell parse (map write values) values
Spell-map parse write [] all = tt
Spell-map parse write (x ∷ values) all = (all.0, Spell-map parse write values all.1)

pub Spell-append : {A K : Type 0} (parse : List ℕ → Result A K) (words : List (List ℕ)) (values : List A) (more : List (List ℕ)) (others : List A)
    → Spell parse words values → Spell parse more others → Spell parse (words ++ more) (values ++ others)
Spell-append parse [] [] more others spell later = later
Spell-append parse [] (x ∷ values) more others spell later = absurd spell
Spell-append parse (word ∷ words) [] more others spell later = absurd spell
Spell-append parse (word ∷ words) (x ∷ values) more others spell later = (spell.0, Spell-append parse words values more others spell.1 later)

-- lists of values, one after another
pub Spell-rows : {A K : Type 0} (parse : List ℕ → Result A K) (write : A → List ℕ) (rows : List (List A)) → AllByRecursion (AllByRecursion (λ x. parse (write x) ≡ Ok x)) rows
    → Spell parse (flat_map (λ line. line) (map (map write) rows)) (flat_map (λ row. row) rows)
Spell-rows parse write [] all = tt
Spell-rows parse write (row ∷ rows) all = Spell-append parse (map write row) row (flat_map (λ line. line) (map (map write) rows)) (flat_map (λ row. row) rows) (Spell-map parse write row all.0) (Spell-rows parse write rows all.1)

-- the words of lists of values
pub words-map : {A : Type 0} (P : List ℕ → Type 0) (write : A → List ℕ) (values : List A) → AllByRecursion (λ x. P (write x)) values → AllByRecursion P (map write values)
words-map P write [] all = tt
words-map P write (x ∷ values) all = (all.0, words-map P write values all.1)

pub words-rows : {A : Type 0} (P : List ℕ → Type 0) (write : A → List ℕ) (rows : List (List A)) → AllByRecursion (AllByRecursion (λ x. P (write x))) rows
    → AllByRecursion (AllByRecursion P) (map (map write) rows)
words-rows P write [] all = tt
words-rows P write (row ∷ rows) all = (words-map P write row all.0, words-rows P write rows all.1)
