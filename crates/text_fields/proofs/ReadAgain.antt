-- Words that were written for a value are read back as this value.
use Rattle.std.proofs.Common.{◌≡◌, ◌∙◌, ℕ, List, [], ◌∷◌, ◌++◌, length, Result, Ok, refl, ap, sym, subst, append_assoc}
use Rattle.std.specs.List.{AllByRecursion, flat_map}
use Rattle.std.proofs.lemmas.List.{append-nil}
use Rattle.text_fields.specs.TextWords.{Text}
use Rattle.text_fields.specs.Result.{◌>>=◌}
use Rattle.text_fields.specs.Reading.{Fault, field, times}
use Rattle.text_fields.specs.Spelling.{texts_of}
use Rattle.text_fields.proofs.LineWords.{split_texts}

-- reads a value from the start of a text
abbrev pub Reader : Type 0 → Type 0 → Type 0
Reader K A = Text → Result (A × Text) (Fault K)

-- the reader gives the value from the words that were written for it, for each text that follows them
abbrev pub Again : {K A : Type 0} → Reader K A → List (List ℕ) → A → Type 0
Again read words x = (size : ℕ) (prefix later : List (ℕ × List ℕ)) → texts_of prefix ≡ words → read (record { size = size; words = prefix ++ later }) ≡ Ok (x, record { size = size; words = later })

pub again_done : {K A : Type 0} (x : A) → Again {K = K} (λ text. Ok (x, text)) [] x
again_done x size [] later e = refl
again_done x size (word ∷ prefix) later e = absurd (cc)

pub again_field : {K A : Type 0} (short : K) (parse : List ℕ → Result A K) (word : List ℕ) (x : A) → parse word ≡ Ok x → Again (field short parse) (word ∷ []) x
again_field short parse word x h size [] later e = absurd (cc)
again_field short parse word x h size (first ∷ []) later e = let same : first.1 ≡ word = cc in rw (same, h) refl
again_field short parse word x h size (first ∷ second ∷ prefix) later e = absurd (cc)

-- one reader after another
pub again_bind : {K A B : Type 0} (read : Reader K A) (next : A × Text → Result (B × Text) (Fault K)) (words more : List (List ℕ)) (x : A) (y : B)
    → Again read words x → Again (λ text. next (x, text)) more y → Again (λ text. read text >>= next) (words ++ more) y
again_bind read next words more x y first second size prefix later e =
    let s = split_texts prefix words more e in
    let here : read (record { size = size; words = prefix ++ later }) ≡ Ok (x, record { size = size; words = s.second ++ later }) =
    ap (λ ws. read (record { size = size; words = ws })) (ap (λ ws. ws ++ later) s.words_are ∙ append_assoc s.first s.second later) ∙ first size s.first (s.second ++ later) s.prefix_is in
    rw here (second size s.second later s.back_is)

-- the value that was read, as a part of another value
pub again_wrap : {K A B : Type 0} (read : Reader K A) (make : A → B) (words : List (List ℕ)) (x : A) → Again read words x → Again (λ text. read text >>= λ p. Ok (make p.0, p.1)) words (make x)
again_wrap read make words x first size prefix later e = rw (first size prefix later e) refl

-- values one after another
pub again_times : {K A : Type 0} (step : List A → Reader K (List A)) (write : A → List (List ℕ)) (Q : A → Type 0) → ((before : List A) (x : A) → Q x → Again (step before) (write x) (before ++ x ∷ []))
    → (before values : List A) → AllByRecursion Q values → Again (times step (length values) before) (flat_map write values) (before ++ values)
again_times {K} step write Q each before [] all = subst (λ xs. Again {K = K} (λ text. Ok (before, text)) [] xs) (sym (append-nil before)) (again_done before)
again_times {K} {A} step write Q each before (x ∷ values) all =
    subst (Again (times step (length (x ∷ values)) before) (flat_map write (x ∷ values))) (append_assoc before (x ∷ []) values)
    (again_bind (step before) (λ (next : List A × Text). times step (length values) next.0 next.1) (write x) (flat_map write values) (before ++ x ∷ []) ((before ++ x ∷ []) ++ values) (each before x all.0) (again_times step write Q each (before ++ x ∷ []) values all.1))
