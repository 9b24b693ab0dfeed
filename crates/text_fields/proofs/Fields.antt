-- Fields of a text.
use Rattle.std.proofs.Common.{◌≡◌, ◌∙◌, ℕ, zero, suc, List, [], ◌∷◌, ◌++◌, length, append_assoc, Result, Ok, Err, refl, ap, sym}
use Rattle.std.proofs.lemmas.List.{append-nil}
use Rattle.text_fields.specs.TextWords.{Text}
use Rattle.text_fields.specs.Result.{◌>>=◌}
use Rattle.text_fields.specs.Reading.{Fault, due_of, due, placed, field, another, times, ended_of, ended, Fails, Gives, Reads}
use Rattle.text_fields.specs.Spelling.{texts_of, Spell}
use Rattle.text_fields.specs.declared.error.FieldError.{FieldError}
use Rattle.text_fields.specs.declared.error.FieldError.TheVariants as errors
use Rattle.text_fields.proofs.Results.{bind_ok, ok_same}

-- a field was read from the next word
pub record Fielded {A K : Type 0} (parse : List ℕ → Result A K) (text : Text) (x : A) (rest : Text) : Type 0 where
  pub word : ℕ × List ℕ
  pub words_are : text.words ≡ word ∷ rest.words
  pub size_is : text.size ≡ rest.size
  pub parsed : parse word.1 ≡ Ok x

due_ok : {K : Type 0} (short : K) (size : ℕ) (words : List (ℕ × List ℕ)) (word : ℕ × List ℕ) (rest : Text) → due_of short size words ≡ Ok (word, rest)
    → (words ≡ word ∷ rest.words) × (size ≡ rest.size)
due_ok short size [] word rest h = absurd (cc)
due_ok short size (first ∷ later) word rest h =
    let e = ok_same (first, record { size = size; words = later }) (word, rest) h in
    (ap (λ (p : (ℕ × List ℕ) × Text). p.0 ∷ (p.1).words) e, ap (λ (p : (ℕ × List ℕ) × Text). (p.1).size) e)

placed_ok : {A K : Type 0} (place : ℕ) (r : Result A K) (x : A) → placed place r ≡ Ok x → r ≡ Ok x
placed_ok place (Ok y) x h = ap Ok (ok_same y x h)
placed_ok place (Err kind) x h = absurd (cc)

pub field_ok : {A K : Type 0} (short : K) (parse : List ℕ → Result A K) (text : Text) (x : A) (rest : Text) → field short parse text ≡ Ok (x, rest) → Fielded parse text x rest
field_ok {A} short parse text x rest h =
    let b = bind_ok (due short text) (λ (word : (ℕ × List ℕ) × Text). placed (word.0).0 (parse (word.0).1) >>= λ value. Ok (value, word.1)) (x, rest) h in
    let p = bind_ok (placed (b.0.0).0 (parse (b.0.0).1)) (λ (value : A). Ok (value, b.0.1)) (x, rest) b.2 in
    let e = ok_same (p.0, b.0.1) (x, rest) p.2 in
    let value_is : p.0 ≡ x = ap (λ (q : A × Text). q.0) e in
    let rest_is : b.0.1 ≡ rest = ap (λ (q : A × Text). q.1) e in
    let d = due_ok short text.size text.words b.0.0 b.0.1 b.1 in
    record {
      word = b.0.0;
      words_are = d.0 ∙ ap (λ (t : Text). b.0.0 ∷ t.words) rest_is;
      size_is = d.1 ∙ ap (λ (t : Text). t.size) rest_is;
      parsed = placed_ok (b.0.0).0 (parse (b.0.0).1) p.0 p.1 ∙ ap Ok value_is;
    }

-- two parsers that agree on all words read the same field
pub field-same : {A K : Type 0} (short : K) (f g : List ℕ → Result A K) (text : Text) → ((word : List ℕ) → f word ≡ g word) → field short f text ≡ field short g text
field-same short f g text same = λ j. field short (λ word. same word j) text

-- a reading fails if its first step fails
pub bind_fails : {A B K : Type 0} (e : FieldError K) (r : Result A (Fault K)) (f : A → Result B (Fault K)) → Fails e r → Fails e (r >>= f)
bind_fails errors.Memory r f h = tt
bind_fails (errors.Fault kind place) r f h = rw h refl

-- n fields were read after earlier fields, and these words spell them
pub record AreFields {A K : Type 0} (parse : List ℕ → Result A K) (n : ℕ) (text : Text) (before values : List A) (rest : Text) : Type 0 where
  pub prefix : List (ℕ × List ℕ)
  pub read : List A
  pub words_are : text.words ≡ prefix ++ rest.words
  pub size_is : text.size ≡ rest.size
  pub values_are : values ≡ before ++ read
  pub spell : Spell parse (texts_of prefix) read
  pub count : length read ≡ n

another_ok : {A K : Type 0} (short : K) (parse : List ℕ → Result A K) (before : List A) (text : Text) (next : List A × Text)
    → another short parse before text ≡ Ok next → (x : A) × (field short parse text ≡ Ok (x, next.1)) × (next.0 ≡ before ++ x ∷ [])
another_ok {A} short parse before text next h =
    let b = bind_ok (field short parse text) (λ (value : A × Text). Ok (before ++ value.0 ∷ [], value.1)) next h in
    let e = ok_same (before ++ b.0.0 ∷ [], b.0.1) next b.2 in
    (b.0.0, b.1 ∙ ap (λ (p : List A × Text). Ok (b.0.0, p.1)) e, sym (ap (λ (p : List A × Text). p.0) e))

pub fields_ok : {A K : Type 0} (short : K) (parse : List ℕ → Result A K) (n : ℕ) (before : List A) (text : Text) (values : List A) (rest : Text)
    → times (another short parse) n before text ≡ Ok (values, rest) → AreFields parse n text before values rest
fields_ok {A} short parse zero before text values rest h =
    let e = ok_same (before, text) (values, rest) h in
    record {
      prefix = [];
      read = [];
      words_are = ap (λ (p : List A × Text). (p.1).words) e;
      size_is = ap (λ (p : List A × Text). (p.1).size) e;
      values_are = sym (ap (λ (p : List A × Text). p.0) e) ∙ sym (append-nil before);
      spell = tt;
      count = refl;
    }
fields_ok {A} short parse (suc n) before text values rest h =
    let b = bind_ok (another short parse before text) (λ (next : List A × Text). times (another short parse) n next.0 next.1) (values, rest) h in
    let one = another_ok short parse before text b.0 b.1 in
    let first = field_ok short parse text one.0 b.0.1 one.1 in
    let later = fields_ok short parse n b.0.0 b.0.1 values rest b.2 in
    record {
      prefix = first.word ∷ later.prefix;
      read = one.0 ∷ later.read;
      words_are = first.words_are ∙ ap (λ words. first.word ∷ words) later.words_are;
      size_is = first.size_is ∙ later.size_is;
      values_are = later.values_are ∙ ap (λ prefix. prefix ++ later.read) one.2 ∙ append_assoc before (one.0 ∷ []) later.read;
      spell = (first.parsed, later.spell);
      count = ap suc later.count;
    }

-- words that spell values are read as fields
pub fields_again : {A K : Type 0} (short : K) (parse : List ℕ → Result A K) (size : ℕ) (words later : List (ℕ × List ℕ)) (before values : List A) → Spell parse (texts_of words) values
    → times (another short parse) (length values) before (record { size = size; words = words ++ later }) ≡ Ok (before ++ values, record { size = size; words = later })
fields_again short parse size [] later before [] spell = ap (λ values. Ok (values, record { size = size; words = later })) (sym (append-nil before))
fields_again short parse size [] later before (x ∷ values) spell = absurd spell
fields_again short parse size (word ∷ words) later before [] spell = absurd spell
fields_again short parse size (word ∷ words) later before (x ∷ values) spell =
    rw spell.0 (fields_again short parse size words later (before ++ x ∷ []) values spell.1 ∙ ap (λ vs. Ok (vs, record { size = size; words = later })) (append_assoc before (x ∷ []) values))

pub ended_ok : {A K : Type 0} (extra : K) (made : A) (text : Text) (x : A) → ended extra made text ≡ Ok x → (text.words ≡ []) × (made ≡ x)
ended_ok extra made text x h = go text.words h
  where
    go : (words : List (ℕ × List ℕ)) → ended_of extra made words ≡ Ok x → (words ≡ []) × (made ≡ x)
    go [] h = (refl, ok_same made x h)
    go (word ∷ words) h = absurd (cc)

-- the value of a word, with the text after it
pub placed_reads : {A K : Type 0} (place : ℕ) (parsed : Result A K) (rest : Text) (r : Result A (FieldError K)) → Gives (λ x. x) r (placed place parsed)
    → Reads (λ x. x) rest r (placed place parsed >>= λ value. Ok (value, rest))
placed_reads place parsed rest (Ok x) gives = rw gives refl
placed_reads {A} place parsed rest (Err e) fails = bind_fails e (placed place parsed) (λ (value : A). Ok (value, rest)) fails
