-- A sparse text that was written is read back as the same matrix.
use Rattle.std.proofs.Common.{◌≡◌, ◌≢◌, ◌<◌, ◌≤◌, ◌*◌, ◌+◌, ◌^◌, ◌∙◌, ◌&&◌, cond, eqb, ℕ, zero, suc, ℤ, pos, negsuc, Bool, true, false, List, [], ◌∷◌, ◌++◌, length, get_or, map, Ok, refl, ap, sym, arith}
use Rattle.std.specs.Prelude.{IsTrue, count_by}
use Rattle.std.specs.Fmt.{decimal, signed_decimal}
use Rattle.std.specs.List.{AllByRecursion, flat_map}
use Rattle.std.proofs.Math.Nat.{suc-mul, zero-mul, mul-le-mul}
use Rattle.std.proofs.lemmas.Bool.Decides.{nat_tests}
use Rattle.std.proofs.lemmas.List.{length-append}
use Rattle.std.proofs.lemmas.List.Folds.{list_any-append}
use Rattle.std.proofs.lemmas.List.Sums.{count_by-le-length, sum_by-cons}
use Rattle.cmr_base.specs.declared.limits.TheConstants.{MAX_COLUMNS, MAX_ROWS}
use Rattle.cmr_base.specs.Matrix.{Matrix, height, entry, IsMatrix, is_nonzero, nonzeros_of}
use Rattle.text_fields.specs.TextWords.{text_of, words_from}
use Rattle.text_fields.proofs.LineWords.{IsWord, words_in_lines}
use Rattle.text_fields.proofs.Decimals.{decimal_word, count_of_decimal}
use Rattle.text_fields.proofs.Entries.{entry_word}
use Rattle.matrix_text.specs.Values.{entry_in}
use Rattle.matrix_text.specs.Sparse.{Triple, names, is_place_named, value_at, SpellTriples, IsPlaced, NameOnce, sparse}
use Rattle.matrix_text.specs.CanonicalMatrices.{row_triples, triples_from, triple_line, sparse_lines, sparse_text}
use Rattle.matrix_text.proofs.Places.{table_of, value_unnamed}
use Rattle.matrix_text.proofs.Entries.{all_entries, all_widths}
use Rattle.matrix_text.proofs.DenseAgain.{entry_in_again}
use Rattle.matrix_text.proofs.SparseTexts.{sparse_only}

-- a property of a nonzero's triple and of the later triples
kept_all : (b : Bool) (P : Triple → Type 0) (t : Triple) (triples : List Triple) → P t → AllByRecursion P triples → AllByRecursion P (cond b (t ∷ triples) triples)
kept_all true P t triples here later = (here, later)
kept_all false P t triples here later = later

all_append : (P : Triple → Type 0) (prefix back : List Triple) → AllByRecursion P prefix → AllByRecursion P back → AllByRecursion P (prefix ++ back)
all_append P [] back here later = later
all_append P (t ∷ prefix) back here later = (here.0, all_append P prefix back here.1 later)

row_placed : (height width row column : ℕ) (entries : List ℤ) → 0 < row → row ≤ height → 0 < column → column + length entries ≤ width + 1
    → AllByRecursion (IsPlaced height width) (row_triples row column entries)
row_placed height width row column [] row_above row_in column_above fits = tt
row_placed height width row column (z ∷ entries) row_above row_in column_above fits =
    kept_all (is_nonzero z) (IsPlaced height width) (record { row = row; column = column; value = z }) (row_triples row (column + 1) entries) (record { row_above = row_above; row_in = row_in; column_above = column_above; column_in = omega arith }) (row_placed height width row (column + 1) entries row_above row_in (omega arith) (omega arith))

all_placed : (height width row : ℕ) (rows : List (List ℤ)) → 0 < row → row + length rows ≤ height + 1 → AllByRecursion (λ entries. length entries ≡ width) rows
    → AllByRecursion (IsPlaced height width) (triples_from row rows)
all_placed height width row [] row_above fits wide = tt
all_placed height width row (entries ∷ rows) row_above fits wide =
    all_append (IsPlaced height width) (row_triples row 1 entries) (triples_from (row + 1) rows) (row_placed height width row 1 entries row_above (omega arith) (omega arith) (omega (arith, wide.0))) (all_placed height width (row + 1) rows (omega arith) (omega arith) wide.1)

row_values : (Q : ℤ → Type 0) (row column : ℕ) (entries : List ℤ) → AllByRecursion Q entries → AllByRecursion (λ t. Q t.value) (row_triples row column entries)
row_values Q row column [] all = tt
row_values Q row column (z ∷ entries) all = kept_all (is_nonzero z) (λ t. Q t.value) (record { row = row; column = column; value = z }) (row_triples row (column + 1) entries) all.0 (row_values Q row (column + 1) entries all.1)

all_values : (Q : ℤ → Type 0) (row : ℕ) (rows : List (List ℤ)) → AllByRecursion (AllByRecursion Q) rows → AllByRecursion (λ t. Q t.value) (triples_from row rows)
all_values Q row [] all = tt
all_values Q row (entries ∷ rows) all = all_append (λ t. Q t.value) (row_triples row 1 entries) (triples_from (row + 1) rows) (row_values Q row 1 entries all.0) (all_values Q (row + 1) rows all.1)

-- no triple of a row names an earlier position or a position in another row
differ_left : (a b c d : ℕ) → a ≢ b → (eqb a b && eqb c d) ≡ false
differ_left a b c d ne = let e : eqb a b ≡ false = grind (arith, nat_tests) in rw e refl

differ_right : (a b c d : ℕ) → c ≢ d → (eqb a b && eqb c d) ≡ false
differ_right a b c d ne = go (eqb a b) (let e : eqb c d ≡ false = grind (arith, nat_tests) in e)
  where
    go : (t : Bool) → eqb c d ≡ false → (t && eqb c d) ≡ false
    go true e = e
    go false e = refl

unnamed_kept : (b : Bool) (t : Triple) (triples : List Triple) (r c : ℕ) → names r c t ≡ false → is_place_named triples r c ≡ false → is_place_named (cond b (t ∷ triples) triples) r c ≡ false
unnamed_kept true t triples r c here later = rw here later
unnamed_kept false t triples r c here later = later

row_unnamed_before : (row column : ℕ) (entries : List ℤ) (r c : ℕ) → c < column → is_place_named (row_triples row column entries) r c ≡ false
row_unnamed_before row column [] r c lt = refl
row_unnamed_before row column (z ∷ entries) r c lt = unnamed_kept (is_nonzero z) (record { row = row; column = column; value = z }) (row_triples row (column + 1) entries) r c (differ_right row r column c (omega arith)) (row_unnamed_before row (column + 1) entries r c (omega arith))

row_unnamed_other : (row column : ℕ) (entries : List ℤ) (r c : ℕ) → row ≢ r → is_place_named (row_triples row column entries) r c ≡ false
row_unnamed_other row column [] r c ne = refl
row_unnamed_other row column (z ∷ entries) r c ne = unnamed_kept (is_nonzero z) (record { row = row; column = column; value = z }) (row_triples row (column + 1) entries) r c (differ_left row r column c ne) (row_unnamed_other row (column + 1) entries r c ne)

unnamed_append : (prefix back : List Triple) (r c : ℕ) → is_place_named prefix r c ≡ false → is_place_named back r c ≡ false → is_place_named (prefix ++ back) r c ≡ false
unnamed_append prefix back r c here later = list_any-append (names r c) prefix back ∙ rw (here, later) refl

rows_unnamed_before : (row : ℕ) (rows : List (List ℤ)) (r c : ℕ) → r < row → is_place_named (triples_from row rows) r c ≡ false
rows_unnamed_before row [] r c lt = refl
rows_unnamed_before row (entries ∷ rows) r c lt = unnamed_append (row_triples row 1 entries) (triples_from (row + 1) rows) r c (row_unnamed_other row 1 entries r c (omega arith)) (rows_unnamed_before (row + 1) rows r c (omega arith))

once_kept : (b : Bool) (t : Triple) (triples : List Triple) → is_place_named triples t.row t.column ≡ false → NameOnce triples → NameOnce (cond b (t ∷ triples) triples)
once_kept true t triples here later = (here, later)
once_kept false t triples here later = later

row_once : (row column : ℕ) (entries : List ℤ) → NameOnce (row_triples row column entries)
row_once row column [] = tt
row_once row column (z ∷ entries) = once_kept (is_nonzero z) (record { row = row; column = column; value = z }) (row_triples row (column + 1) entries) (row_unnamed_before row (column + 1) entries row column (omega arith)) (row_once row (column + 1) entries)

once_append : (prefix back : List Triple) → NameOnce prefix → AllByRecursion (λ t. is_place_named back t.row t.column ≡ false) prefix → NameOnce back → NameOnce (prefix ++ back)
once_append [] back here apart later = later
once_append (t ∷ prefix) back here apart later = (unnamed_append prefix back t.row t.column here.0 apart.0, once_append prefix back here.1 apart.1 later)

row_apart : (row column : ℕ) (entries : List ℤ) (back : List Triple) → ((c : ℕ) → is_place_named back row c ≡ false)
    → AllByRecursion (λ t. is_place_named back t.row t.column ≡ false) (row_triples row column entries)
row_apart row column [] back apart = tt
row_apart row column (z ∷ entries) back apart = kept_all (is_nonzero z) (λ t. is_place_named back t.row t.column ≡ false) (record { row = row; column = column; value = z }) (row_triples row (column + 1) entries) (apart column) (row_apart row (column + 1) entries back apart)

all_once : (row : ℕ) (rows : List (List ℤ)) → NameOnce (triples_from row rows)
all_once row [] = tt
all_once row (entries ∷ rows) = once_append (row_triples row 1 entries) (triples_from (row + 1) rows) (row_once row 1 entries) (row_apart row 1 entries (triples_from (row + 1) rows) (λ c. rows_unnamed_before (row + 1) rows row c (omega arith))) (all_once (row + 1) rows)

-- the number of triples
length_kept : (b : Bool) (t : Triple) (triples : List Triple) → length (cond b (t ∷ triples) triples) ≡ cond b 1 0 + length triples
length_kept true t triples = omega arith
length_kept false t triples = omega arith

row_count : (row column : ℕ) (entries : List ℤ) → length (row_triples row column entries) ≡ count_by is_nonzero entries
row_count row column [] = refl
row_count row column (z ∷ entries) = length_kept (is_nonzero z) (record { row = row; column = column; value = z }) (row_triples row (column + 1) entries) ∙ omega (arith, row_count row (column + 1) entries, sum_by-cons (λ (z : ℤ). cond (is_nonzero z) 1 0) z entries)

all_count : (row : ℕ) (rows : List (List ℤ)) → length (triples_from row rows) ≡ nonzeros_of rows
all_count row [] = refl
all_count row (entries ∷ rows) = length-append (row_triples row 1 entries) (triples_from (row + 1) rows) ∙ omega (arith, row_count row 1 entries, all_count (row + 1) rows)

few_nonzeros : (width : ℕ) (rows : List (List ℤ)) → AllByRecursion (λ entries. length entries ≡ width) rows → nonzeros_of rows ≤ length rows * width
few_nonzeros width [] wide = omega (arith, zero-mul width)
few_nonzeros width (entries ∷ rows) wide = omega (arith, count_by-le-length is_nonzero entries, wide.0, few_nonzeros width rows wide.1, suc-mul (length rows) width)

-- the values are the entries
value_prefix : (prefix back : List Triple) (r c : ℕ) → is_place_named back r c ≡ false → value_at (prefix ++ back) r c ≡ value_at prefix r c
value_prefix [] back r c none = value_unnamed back r c none
value_prefix (t ∷ prefix) back r c none = ap (λ (z : ℤ). cond (names r c t) t.value z) (value_prefix prefix back r c none)

value_back : (prefix back : List Triple) (r c : ℕ) → is_place_named prefix r c ≡ false → value_at (prefix ++ back) r c ≡ value_at back r c
value_back [] back r c none = refl
value_back (t ∷ prefix) back r c none =
    let first : names r c t ≡ false = grind (arith, none) in
    let others : is_place_named prefix r c ≡ false = grind (arith, none) in
    rw first (value_back prefix back r c others)

kept_skip : (b : Bool) (t : Triple) (triples : List Triple) (r c : ℕ) → names r c t ≡ false → value_at (cond b (t ∷ triples) triples) r c ≡ value_at triples r c
kept_skip true t triples r c other = rw other refl
kept_skip false t triples r c other = refl

kept_here : (z : ℤ) (row column : ℕ) (triples : List Triple) → is_place_named triples row column ≡ false
    → value_at (cond (is_nonzero z) ((record { row = row; column = column; value = z }) ∷ triples) triples) row column ≡ z
kept_here (pos zero) row column triples none = value_unnamed triples row column none
kept_here (pos (suc n)) row column triples none = let rows : eqb row row ≡ true = grind (arith, nat_tests) in let columns : eqb column column ≡ true = grind (arith, nat_tests) in rw (rows, columns) refl
kept_here (negsuc n) row column triples none = let rows : eqb row row ≡ true = grind (arith, nat_tests) in let columns : eqb column column ≡ true = grind (arith, nat_tests) in rw (rows, columns) refl

row_value : (row column : ℕ) (entries : List ℤ) (k : ℕ) → value_at (row_triples row column entries) row (column + k) ≡ get_or entries k (pos 0)
row_value row column [] k = refl
row_value row column (z ∷ entries) zero =
    let here : column + 0 ≡ column = omega arith in
    rw here (kept_here z row column (row_triples row (column + 1) entries) (row_unnamed_before row (column + 1) entries row column (omega arith)))
row_value row column (z ∷ entries) (suc k) =
    let after : column + suc k ≡ column + 1 + k = omega arith in
    kept_skip (is_nonzero z) (record { row = row; column = column; value = z }) (row_triples row (column + 1) entries) row (column + suc k) (differ_right row row column (column + suc k) (omega arith))
    ∙ ap (value_at (row_triples row (column + 1) entries) row) after
    ∙ row_value row (column + 1) entries k

all_value : (row : ℕ) (rows : List (List ℤ)) (r c : ℕ) → value_at (triples_from row rows) (row + r) (1 + c) ≡ get_or (get_or rows r []) c (pos 0)
all_value row [] r c = refl
all_value row (entries ∷ rows) zero c =
    let here : row + 0 ≡ row = omega arith in
    value_prefix (row_triples row 1 entries) (triples_from (row + 1) rows) (row + 0) (1 + c) (rows_unnamed_before (row + 1) rows (row + 0) (1 + c) (omega arith))
    ∙ ap (λ r. value_at (row_triples row 1 entries) r (1 + c)) here
    ∙ row_value row 1 entries c
all_value row (entries ∷ rows) (suc r) c =
    let after : row + suc r ≡ row + 1 + r = omega arith in
    value_back (row_triples row 1 entries) (triples_from (row + 1) rows) (row + suc r) (1 + c) (row_unnamed_other row 1 entries (row + suc r) (1 + c) (omega arith))
    ∙ ap (λ r. value_at (triples_from (row + 1) rows) r (1 + c)) after
    ∙ all_value (row + 1) rows r c

-- the text of an entry is a word that represents it
record IsSpelled (binary : Bool) (z : ℤ) : Type 0 where
  word : IsWord (signed_decimal z)
  value : entry_in binary (signed_decimal z) ≡ Ok z

triples_words : (binary : Bool) (height width : ℕ) (triples : List Triple) → height ≤ MAX_ROWS → width ≤ MAX_COLUMNS
    → AllByRecursion (IsPlaced height width) triples → AllByRecursion (λ t. IsSpelled binary t.value) triples
    → AllByRecursion (AllByRecursion IsWord) (map triple_line triples)
triples_words binary height width [] few_rows few_columns placed spelled = tt
triples_words binary height width (t ∷ triples) few_rows few_columns placed spelled =
    let p = placed.0 in
    let row : t.row < 2 ^ 64 = let h = p.row_in in omega arith in
    let column : t.column < 2 ^ 64 = let h = p.column_in in omega arith in
    ((decimal_word t.row row, (decimal_word t.column column, (spelled.0.word, tt))), triples_words binary height width triples few_rows few_columns placed.1 spelled.1)

triples_spelled : (binary : Bool) (height width : ℕ) (triples : List Triple) → height ≤ MAX_ROWS → width ≤ MAX_COLUMNS
    → AllByRecursion (IsPlaced height width) triples → AllByRecursion (λ t. IsSpelled binary t.value) triples
    → SpellTriples binary (flat_map (λ line. line) (map triple_line triples)) triples
triples_spelled binary height width [] few_rows few_columns placed spelled = tt
triples_spelled binary height width (t ∷ triples) few_rows few_columns placed spelled =
    let p = placed.0 in
    let row : t.row < 2 ^ 31 = let h = p.row_in in omega arith in
    let column : t.column < 2 ^ 31 = let h = p.column_in in omega arith in
    (count_of_decimal t.row row, count_of_decimal t.column column, spelled.0.value, triples_spelled binary height width triples few_rows few_columns placed.1 spelled.1)

pub sparse_again : (binary : Bool) (m : Matrix) → IsMatrix m → (IsTrue binary → (row column : ℕ) → entry m row column ≢ negsuc 0) → sparse binary (text_of (sparse_text m)) ≡ Ok m
sparse_again binary m shape may =
    let triples = triples_from 1 m.rows in
    let wide = all_widths m.width m.rows shape.rectangular in
    let few_rows = shape.height_in in
    let few_columns = shape.width_in in
    let placed = all_placed (height m) m.width 1 m.rows (omega arith) (omega arith) wide in
    let spelled = all_values (IsSpelled binary) 1 m.rows (all_entries (IsSpelled binary) m.rows (λ r k. record { word = entry_word (entry m r k) (shape.small r k); value = entry_in_again binary (entry m r k) (shape.small r k) (λ b. may b r k) })) in
    let few : nonzeros_of m.rows ≤ MAX_ROWS * MAX_COLUMNS = omega (arith, few_nonzeros m.width m.rows wide, mul-le-mul few_rows few_columns) in
    sparse_only MAX_ROWS MAX_COLUMNS binary (length (sparse_text m)) (words_from 0 (sparse_text m)) m (record {
      height = height m;
      width = m.width;
      triples = triples;
      height_word = decimal (height m);
      width_word = decimal m.width;
      count_word = decimal (nonzeros_of m.rows);
      triple_words = flat_map (λ line. line) (map triple_line triples);
      words_are = words_in_lines (sparse_lines m) ((decimal_word (height m) (omega arith), (decimal_word m.width (omega arith), (decimal_word (nonzeros_of m.rows) (omega arith), tt))), triples_words binary (height m) m.width triples few_rows few_columns placed spelled);
      height_is = count_of_decimal (height m) (omega arith);
      width_is = count_of_decimal m.width (omega arith);
      height_in = few_rows;
      width_in = few_columns;
      count_is = count_of_decimal (nonzeros_of m.rows) (omega arith) ∙ ap Ok (sym (all_count 1 m.rows));
      triples_are = triples_spelled binary (height m) m.width triples few_rows few_columns placed spelled;
      placed = placed;
      once = all_once 1 m.rows;
      matrix = ap (λ rows. record { rows = rows; width = m.width }) (table_of (height m) m.width m.rows (value_at triples) refl shape.rectangular (λ row column hr hc. let r : row + 1 ≡ 1 + row = omega arith in let c : column + 1 ≡ 1 + column = omega arith in rw (r, c) (sym (all_value 1 m.rows row column))));
    })
