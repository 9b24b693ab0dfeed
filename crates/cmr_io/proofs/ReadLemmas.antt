-- The bytes that a read has given and counted.
use Rattle.std.proofs.Common.{◌≡◌, ◌≤◌, ◌<◌, ◌+◌, ◌++◌, ◌∙◌, ◌&&◌, ◌==◌, ℕ, nat_lt, Bool, true, false, if◌then◌else◌, List, [], ◌∷◌, length, take, length-append, append_assoc, Some, Vec, Result, Ok, Err, IsErrAnd, refl, sym, ap, subst, arith, ne_eqb}
use Rattle.std.proofs.lemmas.List.{append-nil, length-take-le, take-append-le}
use Rattle.cmr_io.specs.Calls.{up_to_last, next_number}
use Rattle.cmr_io.specs.Reads.{Reads, after_piece, with_more}
use Rattle.cmr_io.specs.WholeRead.{GivesContent, GivesText}
use Rattle.cmr_io.specs.declared.whole.ReadError.{ReadError}
use Rattle.cmr_io.specs.declared.whole.ReadError.TheVariants.{Memory, TooLong}

is_err_of : {A : Type 0} (result : Result A ReadError) (error : ReadError) → IsErrAnd result (λ e. e ≡ error) → result ≡ Err error
is_err_of (Ok x) error is = absurd is
is_err_of (Err e) error is = ap (λ (x : ReadError). Err x) is

-- ---- given bytes

-- one more piece
pub left_on : (content bytes left piece rest new : List ℕ) → content ≡ bytes ++ left → left ≡ piece ++ rest → new ≡ bytes ++ piece → content ≡ new ++ rest
left_on content bytes left piece rest new told given is =
    told ∙ ap (λ (xs : List ℕ). bytes ++ xs) given ∙ sym (append_assoc bytes piece rest) ∙ ap (λ (xs : List ℕ). xs ++ rest) (sym is)

-- a prefix of a piece is also a prefix of the piece with later bytes
pub items_on : (bytes into beyond new : List ℕ) (count : ℕ) → count ≤ length into → new ≡ bytes ++ take count (into ++ beyond) → new ≡ bytes ++ take count into
items_on bytes into beyond new count within is = is ∙ ap (λ (xs : List ℕ). bytes ++ xs) (take-append-le count into beyond within)

pub length_on : (many new : ℕ) (into beyond : List ℕ) (count : ℕ) → count ≤ length into → new ≡ many + length (take count (into ++ beyond)) → new ≡ many + count
length_on many new into beyond count within is =
    is ∙ ap (λ (n : ℕ). many + n) (ap length (take-append-le count into beyond within) ∙ length-take-le count into within)

-- an allocation failed
pub gives-refused : {A : Type 0} (most : ℕ) (content left : List ℕ) (begun : Bool) (bytes : List ℕ) (result : Result (Vec ℕ A) ReadError) → content ≡ bytes ++ left → length bytes ≤ most + 1
    → IsErrAnd result (λ e. e ≡ Memory) → GivesContent {A = A} most (Some content) begun left result
gives-refused {A} most content left begun bytes result told within is =
    let at : GivesContent {A = A} most (Some content) begun left (Err Memory) = record {
      whole = tt;
      too_long = λ e. absurd (cc);
      too_many = λ e. absurd (cc);
      few = λ e b. absurd (cc);
      taken = λ b. (bytes, ap Some told, within);
    } in
    subst (λ (r : Result (Vec ℕ A) ReadError). GivesContent {A = A} most (Some content) begun left r) (sym (is_err_of result Memory is)) at

-- one byte too many was given
pub gives-too_long : {A : Type 0} (most : ℕ) (content left : List ℕ) (begun : Bool) (bytes : List ℕ) → content ≡ bytes ++ left → most < length bytes
    → length bytes ≤ most + 1 → GivesContent {A = A} most (Some content) begun left (Err TooLong)
gives-too_long most content left begun bytes told more within = record {
  whole = tt;
  too_long = λ e. (content, refl, omega (arith, more, ap length told, length-append bytes left));
  too_many = λ e. (bytes, ap Some told, omega (arith, more, within));
  few = λ e b. absurd (cc);
  taken = λ b. (bytes, ap Some told, within);
}

-- ---- counted bytes

not_ended : (room none : Bool) (next now : ℕ) → none ≡ false → (if room && none then next else now) ≡ now
not_ended true none next now e = rw e refl
not_ended false none next now e = refl

-- a piece that is not empty is not the end
pub ends_on : (reads after : Reads) (into : List ℕ) (count : ℕ) → after ≡ after_piece reads into count → (count ≡ 0 → ⊥) → after.ends ≡ reads.ends
ends_on reads after into count is some = ap (λ (r : Reads). r.ends) is ∙ not_ended (nat_lt 0 (length into)) (count == 0) (next_number reads.ends) reads.ends (ne_eqb count 0 some)

-- one more piece
pub read_on : (before many : ℕ) (reads after : Reads) (into : List ℕ) (count : ℕ) → after ≡ after_piece reads into count → reads.bytes ≤ before + many → after.bytes ≤ before + (many + count)
read_on before many reads after into count is read = let bytes : after.bytes ≡ up_to_last (reads.bytes + count) = ap (λ (r : Reads). r.bytes) is in omega (arith, bytes, read)

-- the same if the count stays at the last value of a counter
pub read_all_on : (before many : ℕ) (reads after : Reads) (into : List ℕ) (count : ℕ) → after ≡ after_piece reads into count → up_to_last reads.bytes ≡ up_to_last (before + many)
    → up_to_last after.bytes ≡ up_to_last (before + (many + count))
read_all_on before many reads after into count is all = let bytes : after.bytes ≡ up_to_last (reads.bytes + count) = ap (λ (r : Reads). r.bytes) is in omega (arith, bytes, all)

-- ---- the last text

pub more_of_none : (texts : List (List ℕ)) → with_more texts [] ≡ texts
more_of_none [] = refl
more_of_none (text ∷ []) = ap (λ (bytes : List ℕ). bytes ∷ []) (append-nil text)
more_of_none (text ∷ other ∷ texts) = ap (λ (others : List (List ℕ)). text ∷ others) (more_of_none (other ∷ texts))

pub more_and_more : (texts : List (List ℕ)) (some others : List ℕ) → with_more (with_more texts some) others ≡ with_more texts (some ++ others)
more_and_more [] some others = refl
more_and_more (text ∷ []) some others = ap (λ (bytes : List ℕ). bytes ∷ []) (append_assoc text some others)
more_and_more (text ∷ other ∷ []) some others = ap (λ (rest : List (List ℕ)). text ∷ rest) (more_and_more (other ∷ []) some others)
more_and_more (text ∷ other ∷ third ∷ texts) some others = ap (λ (rest : List (List ℕ)). text ∷ rest) (more_and_more (other ∷ third ∷ texts) some others)

pub more_of_new : (texts : List (List ℕ)) (bytes : List ℕ) → with_more (texts ++ [] ∷ []) bytes ≡ texts ++ bytes ∷ []
more_of_new [] bytes = refl
more_of_new (text ∷ []) bytes = refl
more_of_new (text ∷ other ∷ texts) bytes = ap (λ (rest : List (List ℕ)). text ∷ rest) (more_of_new (other ∷ texts) bytes)

-- one more piece of the last text
pub texts_on : (before : List (List ℕ)) (bytes new : List ℕ) (reads after : Reads) (into : List ℕ) (count : ℕ) → after ≡ after_piece reads into count → reads.texts ≡ with_more before bytes
    → new ≡ bytes ++ take count into → after.texts ≡ with_more before new
texts_on before bytes new reads after into count is texts items =
    ap (λ (r : Reads). r.texts) is
    ∙ ap (λ (all : List (List ℕ)). with_more all (take count into)) texts
    ∙ more_and_more before bytes (take count into)
    ∙ ap (with_more before) (sym items)

-- an allocation failed
pub text-refused : {A : Type 0} (most : ℕ) (with_text : List ℕ → List (List ℕ)) (after : List (List ℕ)) (text : List ℕ) (result : Result (Vec ℕ A) ReadError)
    → after ≡ with_text text → length text ≤ most + 1
    → IsErrAnd result (λ e. e ≡ Memory) → GivesText {A = A} most with_text after result
text-refused {A} most with_text after text result texts within is =
    let at : GivesText {A = A} most with_text after (Err Memory) = record {
      text = text;
      texts = texts;
      whole = tt;
      fits = tt;
      too_many = λ e. absurd (cc);
      few = λ e. absurd (cc);
      within = within;
    } in
    subst (λ (r : Result (Vec ℕ A) ReadError). GivesText {A = A} most with_text after r) (sym (is_err_of result Memory is)) at
