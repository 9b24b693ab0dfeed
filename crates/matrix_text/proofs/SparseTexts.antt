-- Reading gives a matrix if and only if the words are its sparse text.
use Rattle.std.proofs.Common.{◌≡◌, ◌∙◌, ℕ, zero, suc, ℤ, Bool, false, eqb, List, [], ◌∷◌, ◌++◌, length, Result, Ok, Err, refl, ap, sym, subst, append_assoc, arith}
use Rattle.std.specs.Prelude.{IfOk}
use Rattle.std.specs.List.{AllByRecursion}
use Rattle.std.proofs.lemmas.List.{append-nil}
use Rattle.std.proofs.lemmas.List.Folds.{list_any-append}
use Rattle.cmr_base.specs.Matrix.{Matrix}
use Rattle.cmr_base.proofs.Booleans.{eq_swapped}
use Rattle.text_fields.specs.TextWords.{Text}
use Rattle.text_fields.specs.Result.{◌>>=◌, renamed}
use Rattle.text_fields.specs.Numbers.{count_in}
use Rattle.text_fields.specs.Spelling.{texts_of}
use Rattle.text_fields.specs.Reading.{field, times, ended, Gives}
use Rattle.text_fields.specs.declared.error.FieldError.{FieldError}
use Rattle.text_fields.proofs.Limits.{limited_again}
use Rattle.text_fields.proofs.Results.{bind_ok, ok_same, renamed_ok}
use Rattle.text_fields.proofs.Fields.{field_ok, ended_ok}
use Rattle.matrix_text.specs.declared.error.TextKind.{TextKind}
use Rattle.matrix_text.specs.declared.error.TextKind.TheVariants.{Short, Extra, TooManyRows, TooManyColumns}
use Rattle.matrix_text.specs.TextKinds.{text_kind, limit_kind}
use Rattle.matrix_text.specs.Values.{count, limited, entry_in}
use Rattle.matrix_text.specs.Sparse.{Triple, names, is_place_named, matrix_of_triples, SpellTriples, IsPlaced, NameOnce, IsSparseWithin, free_place, another_triple, matrix_by_triples, sparse_within}
use Rattle.matrix_text.proofs.Lines.{size_found}
use Rattle.matrix_text.proofs.FreePlaces.{free_place_ok, free_place_again}

names_back : (s t : Triple) → names s.row s.column t ≡ false → names t.row t.column s ≡ false
names_back s t h = let rows : eqb s.row t.row ≡ eqb t.row s.row = eq_swapped s.row t.row in let columns : eqb s.column t.column ≡ eqb t.column s.column = eq_swapped s.column t.column in rw (rows, columns) h

-- one more triple at a new position
once_more : (triples : List Triple) (t : Triple) → NameOnce triples → is_place_named triples t.row t.column ≡ false → NameOnce (triples ++ t ∷ [])
once_more [] t once new = (refl, tt)
once_more (x ∷ triples) t once new =
    let first : names t.row t.column x ≡ false = grind (arith, new) in
    let others : is_place_named triples t.row t.column ≡ false = grind (arith, new) in
    let unnamed : is_place_named (triples ++ t ∷ []) x.row x.column ≡ false = list_any-append (names x.row x.column) triples (t ∷ []) ∙ rw (once.0, names_back t x first) refl in
    (unnamed, once_more triples t once.1 others)

-- a position that is named once is new to the earlier triples
once_new : (triples : List Triple) (t : Triple) (later : List Triple) → NameOnce (triples ++ t ∷ later) → is_place_named triples t.row t.column ≡ false
once_new [] t later once = refl
once_new (x ∷ triples) t later once =
    let split = sym (list_any-append (names x.row x.column) triples (t ∷ later)) ∙ once.0 in
    let mine : names x.row x.column t ≡ false = grind (arith, split) in
    rw (names_back x t mine) (once_new triples t later once.1)

-- a triple was read after earlier triples
record IsTriple (binary : Bool) (height width : ℕ) (before : List Triple) (text : Text) (next : List Triple × Text) : Type 0 where
  row_word : ℕ × List ℕ
  column_word : ℕ × List ℕ
  value_word : ℕ × List ℕ
  triple : Triple
  words_are : text.words ≡ row_word ∷ column_word ∷ value_word ∷ (next.1).words
  triples_are : next.0 ≡ before ++ triple ∷ []
  row_is : count_in row_word.1 ≡ Ok triple.row
  column_is : count_in column_word.1 ≡ Ok triple.column
  value_is : entry_in binary value_word.1 ≡ Ok triple.value
  placed : IsPlaced height width triple
  new : is_place_named before triple.row triple.column ≡ false

another_triple_ok : (binary : Bool) (height width : ℕ) (before : List Triple) (text : Text) (next : List Triple × Text)
    → another_triple binary height width before text ≡ Ok next → IsTriple binary height width before text next
another_triple_ok binary height width before text next h =
    let b = bind_ok (free_place height width (is_place_named before) text) (λ (place : (ℕ × ℕ) × Text). field Short (entry_in binary) place.1 >>= λ value. Ok (before ++ (record { row = (place.0).0; column = (place.0).1; value = value.0 }) ∷ [], value.1)) next h in
    let d = bind_ok (field Short (entry_in binary) b.0.1) (λ (value : ℤ × Text). Ok (before ++ (record { row = (b.0.0).0; column = (b.0.0).1; value = value.0 }) ∷ [], value.1)) next b.2 in
    let e = ok_same (before ++ (record { row = (b.0.0).0; column = (b.0.0).1; value = d.0.0 }) ∷ [], d.0.1) next d.2 in
    subst (IsTriple binary height width before text) e (go b.0 d.0 b.1 d.1)
  where
    go : (place : (ℕ × ℕ) × Text) (value : ℤ × Text) → free_place height width (is_place_named before) text ≡ Ok place → field Short (entry_in binary) place.1 ≡ Ok value
        → IsTriple binary height width before text (before ++ (record { row = (place.0).0; column = (place.0).1; value = value.0 }) ∷ [], value.1)
    go place value hp hv =
        let p = free_place_ok height width (is_place_named before) text place hp in
        let v = field_ok Short (entry_in binary) place.1 value.0 value.1 hv in
        record {
          row_word = p.row_word;
          column_word = p.column_word;
          value_word = v.word;
          triple = record { row = (place.0).0; column = (place.0).1; value = value.0 };
          words_are = p.words_are ∙ ap (λ words. p.row_word ∷ p.column_word ∷ words) v.words_are;
          triples_are = refl;
          row_is = p.row_is;
          column_is = p.column_is;
          value_is = v.parsed;
          placed = record { row_above = p.row_above; row_in = p.row_in; column_above = p.column_above; column_in = p.column_in };
          new = p.free;
        }

-- n triples were read after earlier triples
record AreTriples (binary : Bool) (height width n : ℕ) (text : Text) (before triples : List Triple) (rest : Text) : Type 0 where
  prefix : List (ℕ × List ℕ)
  read : List Triple
  words_are : text.words ≡ prefix ++ rest.words
  triples_are : triples ≡ before ++ read
  spell : SpellTriples binary (texts_of prefix) read
  count : length read ≡ n
  placed : AllByRecursion (IsPlaced height width) read
  once : NameOnce before → NameOnce triples

triples_ok : (binary : Bool) (height width n : ℕ) (before : List Triple) (text : Text) (triples : List Triple) (rest : Text)
    → times (another_triple binary height width) n before text ≡ Ok (triples, rest) → AreTriples binary height width n text before triples rest
triples_ok binary height width zero before text triples rest h =
    let e = ok_same (before, text) (triples, rest) h in
    let same : before ≡ triples = ap (λ (p : List Triple × Text). p.0) e in
    record {
      prefix = [];
      read = [];
      words_are = ap (λ (p : List Triple × Text). (p.1).words) e;
      triples_are = sym same ∙ sym (append-nil before);
      spell = tt;
      count = refl;
      placed = tt;
      once = λ once. subst NameOnce same once;
    }
triples_ok binary height width (suc n) before text triples rest h =
    let b = bind_ok (another_triple binary height width before text) (λ (next : List Triple × Text). times (another_triple binary height width) n next.0 next.1) (triples, rest) h in
    let one = another_triple_ok binary height width before text b.0 b.1 in
    let later = triples_ok binary height width n b.0.0 b.0.1 triples rest b.2 in
    record {
      prefix = one.row_word ∷ one.column_word ∷ one.value_word ∷ later.prefix;
      read = one.triple ∷ later.read;
      words_are = one.words_are ∙ ap (λ words. one.row_word ∷ one.column_word ∷ one.value_word ∷ words) later.words_are;
      triples_are = later.triples_are ∙ ap (λ prefix. prefix ++ later.read) one.triples_are ∙ append_assoc before (one.triple ∷ []) later.read;
      spell = (one.row_is, one.column_is, one.value_is, later.spell);
      count = ap suc later.count;
      placed = (one.placed, later.placed);
      once = λ once. later.once (subst NameOnce (sym one.triples_are) (once_more before one.triple once one.new));
    }

triples_again : (binary : Bool) (height width size : ℕ) (words later : List (ℕ × List ℕ)) (before triples : List Triple)
    → SpellTriples binary (texts_of words) triples → AllByRecursion (IsPlaced height width) triples → NameOnce (before ++ triples)
    → times (another_triple binary height width) (length triples) before (record { size = size; words = words ++ later }) ≡ Ok (before ++ triples, record { size = size; words = later })
triples_again binary height width size [] later before [] spell placed once = ap (λ triples. Ok (triples, record { size = size; words = later })) (sym (append-nil before))
triples_again binary height width size [] later before (t ∷ triples) spell placed once = absurd spell
triples_again binary height width size (r ∷ []) later before [] spell placed once = absurd spell
triples_again binary height width size (r ∷ []) later before (t ∷ triples) spell placed once = absurd spell
triples_again binary height width size (r ∷ c ∷ []) later before [] spell placed once = absurd spell
triples_again binary height width size (r ∷ c ∷ []) later before (t ∷ triples) spell placed once = absurd spell
triples_again binary height width size (r ∷ c ∷ v ∷ words) later before [] spell placed once = absurd spell
triples_again binary height width size (r ∷ c ∷ v ∷ words) later before (t ∷ triples) spell placed once =
    let new = once_new before t triples once in
    let p = placed.0 in
    let place = free_place_again height width (is_place_named before) size r c (v ∷ words ++ later) t.row t.column spell.0 spell.1 p.row_above p.row_in p.column_above p.column_in new in
    let moved = sym (append_assoc before (t ∷ []) triples) in
    rw (place, spell.2) (triples_again binary height width size words later (before ++ t ∷ []) triples spell.3 placed.1 (subst NameOnce moved once) ∙ ap (λ ts. Ok (ts, record { size = size; words = later })) (append_assoc before (t ∷ []) triples))

count_found : (text : Text) (n : ℕ × Text) → field Short count text ≡ Ok n → (word : ℕ × List ℕ) × (text.words ≡ word ∷ (n.1).words) × (count_in word.1 ≡ Ok n.0)
count_found text n h =
    let f = field_ok Short count text n.0 n.1 h in
    (f.word, f.words_are, renamed_ok text_kind (count_in f.word.1) n.0 f.parsed)

record IsList (binary : Bool) (height width n : ℕ) (words : List (List ℕ)) (m : Matrix) : Type 0 where
  triples : List Triple
  spell : SpellTriples binary words triples
  count : length triples ≡ n
  placed : AllByRecursion (IsPlaced height width) triples
  once : NameOnce triples
  matrix : m ≡ matrix_of_triples height width triples

list_found : (binary : Bool) (height width n : ℕ) (text : Text) (m : Matrix)
    → (matrix_by_triples binary height width n text >>= λ matrix. ended Extra matrix.0 matrix.1) ≡ Ok m → IsList binary height width n (texts_of text.words) m
list_found binary height width n text m h =
    let a = bind_ok (matrix_by_triples binary height width n text) (λ (matrix : Matrix × Text). ended Extra matrix.0 matrix.1) m h in
    let b = bind_ok (times (another_triple binary height width) n [] text) (λ (triples : List Triple × Text). Ok (matrix_of_triples height width triples.0, triples.1)) a.0 a.1 in
    go a.0 b.0 (ok_same (matrix_of_triples height width b.0.0, b.0.1) a.0 b.2) b.1 a.2
  where
    go : (made : Matrix × Text) (read : List Triple × Text) → ◌≡◌ {A = Matrix × Text} (matrix_of_triples height width read.0, read.1) made → times (another_triple binary height width) n [] text ≡ Ok read → ended Extra made.0 made.1 ≡ Ok m → IsList binary height width n (texts_of text.words) m
    go made read e hr he =
        let end = ended_ok Extra made.0 made.1 m he in
        let all = triples_ok binary height width n [] text read.0 read.1 hr in
        let none : (read.1).words ≡ [] = ap (λ (p : Matrix × Text). (p.1).words) e ∙ end.0 in
        let words : text.words ≡ all.prefix = all.words_are ∙ ap (λ ws. all.prefix ++ ws) none ∙ append-nil all.prefix in
        record {
          triples = read.0;
          spell = subst (λ ws. SpellTriples binary (texts_of ws) read.0) (sym words) (subst (SpellTriples binary (texts_of all.prefix)) (sym all.triples_are) all.spell);
          count = ap length all.triples_are ∙ all.count;
          placed = subst (AllByRecursion (IsPlaced height width)) (sym all.triples_are) all.placed;
          once = all.once tt;
          matrix = sym (ap (λ (p : Matrix × Text). p.0) e ∙ end.1);
        }

three_words : (a b c : ℕ × List ℕ) (words x y rest : List (ℕ × List ℕ)) → words ≡ a ∷ x → x ≡ b ∷ y → y ≡ c ∷ rest → texts_of words ≡ a.1 ∷ b.1 ∷ c.1 ∷ texts_of rest
three_words a b c words x y rest e f g = rw (e, f, g) refl

module _ (most_rows most_columns : ℕ) (binary : Bool) where
  -- a text that is read is a sparse text
  pub sparse_found : (text : Text) (m : Matrix) → sparse_within most_rows most_columns binary text ≡ Ok m → IsSparseWithin most_rows most_columns binary (texts_of text.words) m
  sparse_found text m h =
      let a = bind_ok (field Short (limited most_rows TooManyRows) text) (λ (height : ℕ × Text). field Short (limited most_columns TooManyColumns) height.1 >>= λ width. field Short count width.1 >>= λ n. matrix_by_triples binary height.0 width.0 n.0 n.1 >>= λ matrix. ended Extra matrix.0 matrix.1) m h in
      let b = bind_ok (field Short (limited most_columns TooManyColumns) a.0.1) (λ (width : ℕ × Text). field Short count width.1 >>= λ n. matrix_by_triples binary a.0.0 width.0 n.0 n.1 >>= λ matrix. ended Extra matrix.0 matrix.1) m a.2 in
      let d = bind_ok (field Short count b.0.1) (λ (n : ℕ × Text). matrix_by_triples binary a.0.0 b.0.0 n.0 n.1 >>= λ matrix. ended Extra matrix.0 matrix.1) m b.2 in
      go a.0 b.0 d.0 a.1 b.1 d.1 d.2
    where
      go : (a b d : ℕ × Text) → field Short (limited most_rows TooManyRows) text ≡ Ok a → field Short (limited most_columns TooManyColumns) a.1 ≡ Ok b
          → field Short count b.1 ≡ Ok d → (matrix_by_triples binary a.0 b.0 d.0 d.1 >>= λ matrix. ended Extra matrix.0 matrix.1) ≡ Ok m
          → IsSparseWithin most_rows most_columns binary (texts_of text.words) m
      go a b d ha hb hd h =
          let height = size_found most_rows TooManyRows text a ha in
          let width = size_found most_columns TooManyColumns a.1 b hb in
          let n = count_found b.1 d hd in
          let all = list_found binary a.0 b.0 d.0 d.1 m h in
          record {
            height = a.0;
            width = b.0;
            triples = all.triples;
            height_word = height.0.1;
            width_word = width.0.1;
            count_word = n.0.1;
            triple_words = texts_of (d.1).words;
            words_are = three_words height.0 width.0 n.0 text.words (a.1).words (b.1).words (d.1).words height.1 width.1 n.1;
            height_is = height.2;
            width_is = width.2;
            height_in = height.3;
            width_in = width.3;
            count_is = n.2 ∙ ap Ok (sym all.count);
            triples_are = all.spell;
            placed = all.placed;
            once = all.once;
            matrix = all.matrix;
          }

  -- a sparse text is read
  pub sparse_only : (size : ℕ) (words : List (ℕ × List ℕ)) (m : Matrix) → IsSparseWithin most_rows most_columns binary (texts_of words) m
      → sparse_within most_rows most_columns binary (record { size = size; words = words }) ≡ Ok m
  sparse_only size [] m is = absurd (let e = is.words_are in cc)
  sparse_only size (h ∷ []) m is = absurd (let e = is.words_are in cc)
  sparse_only size (h ∷ w ∷ []) m is = absurd (let e = is.words_are in cc)
  sparse_only size (h ∷ w ∷ n ∷ words) m is =
      let e = is.words_are in
      let hw : h.1 ≡ is.height_word = cc in
      let ww : w.1 ≡ is.width_word = cc in
      let nw : n.1 ≡ is.count_word = cc in
      let tw : texts_of words ≡ is.triple_words = cc in
      let height : limited most_rows TooManyRows h.1 ≡ Ok is.height = limited_again (limit_kind TooManyRows) most_rows h.1 is.height (ap count_in hw ∙ is.height_is) is.height_in in
      let width : limited most_columns TooManyColumns w.1 ≡ Ok is.width = limited_again (limit_kind TooManyColumns) most_columns w.1 is.width (ap count_in ww ∙ is.width_is) is.width_in in
      let number : count n.1 ≡ Ok (length is.triples) = ap (renamed text_kind) (ap count_in nw ∙ is.count_is) in
      let all : times (another_triple binary is.height is.width) (length is.triples) [] (record { size = size; words = words }) ≡ Ok (is.triples, record { size = size; words = [] }) =
      ap (λ ws. times (another_triple binary is.height is.width) (length is.triples) [] (record { size = size; words = ws })) (sym (append-nil words))
      ∙ triples_again binary is.height is.width size words [] [] is.triples (subst (λ ws. SpellTriples binary ws is.triples) (sym tw) is.triples_are) is.placed is.once in
      rw (height, width, number, all) (ap Ok (sym is.matrix))

  -- the same for the result of a function
  pub found : (text : Text) (r : Result Matrix (FieldError TextKind))
      → Gives (λ m. m) r (sparse_within most_rows most_columns binary text) → IfOk r (IsSparseWithin most_rows most_columns binary (texts_of text.words))
  found text (Ok m) gives = sparse_found text m gives
  found text (Err e) gives = tt

  pub only : (text : Text) (r : Result Matrix (FieldError TextKind)) → Gives (λ m. m) r (sparse_within most_rows most_columns binary text) → (m : Matrix)
      → IsSparseWithin most_rows most_columns binary (texts_of text.words) m → Gives (λ m. m) r (Ok m)
  only text r gives m is = subst (Gives (λ m. m) r) (sparse_only text.size text.words m is) gives
