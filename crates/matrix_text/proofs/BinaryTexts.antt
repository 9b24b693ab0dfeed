-- A text that is read as 0/1 represents a matrix of zeros and ones.
use Rattle.std.proofs.Common.{◌≡◌, ◌⊎◌, ℕ, ℤ, pos, negsuc, zero, suc, Bool, true, List, [], ◌∷◌, map, Result, Ok, Err, sym, subst, inl, inr, refl}
use Rattle.std.specs.Prelude.{IfOk}
use Rattle.std.specs.List.{AllByRecursion, range_with_len, slice_index_or}
use Rattle.cmr_base.specs.declared.limits.TheConstants.{MAX_COLUMNS, MAX_ROWS}
use Rattle.cmr_base.specs.Matrix.{Matrix}
use Rattle.cmr_base.specs.Trees.{IsBinary}
use Rattle.cmr_base.proofs.Rows.{each-rows_of}
use Rattle.text_fields.specs.Numbers.{signed_in}
use Rattle.text_fields.specs.Reading.{Gives}
use Rattle.text_fields.specs.Result.{renamed}
use Rattle.text_fields.specs.TextWords.{Text}
use Rattle.text_fields.specs.declared.error.FieldError.{FieldError}
use Rattle.text_fields.proofs.Results.{bind_ok}
use Rattle.matrix_text.specs.declared.error.TextKind.{TextKind}
use Rattle.matrix_text.specs.TextKinds.{text_kind}
use Rattle.matrix_text.specs.Values.{allowed, entry_in}
use Rattle.matrix_text.specs.Dense.{dense}
use Rattle.matrix_text.specs.Sparse.{value_at, matrix_of_triples, sparse}
use Rattle.matrix_text.proofs.DenseTexts as dense_texts
use Rattle.matrix_text.proofs.SparseTexts as sparse_texts
use Rattle.matrix_text.proofs.SpelledEntries.{spelled_cells, spelled_values}

abbrev pub IsZeroOrOne : ℤ → Type 0
IsZeroOrOne z = (z ≡ pos 0) ⊎ (z ≡ pos 1)

allowed_binary : (y z : ℤ) → allowed true y ≡ Ok z → IsZeroOrOne z
allowed_binary (pos zero) z e = let same : z ≡ pos 0 = cc in inl same
allowed_binary (pos (suc zero)) z e = let same : z ≡ pos 1 = cc in inr same
allowed_binary (pos (suc (suc n))) z e = cc
allowed_binary (negsuc zero) z e = cc
allowed_binary (negsuc (suc n)) z e = cc

word_binary : (word : List ℕ) (z : ℤ) → entry_in true word ≡ Ok z → IsZeroOrOne z
word_binary word z e =
    let b = bind_ok (renamed text_kind (signed_in word)) (allowed true) z e in
    allowed_binary b.0 z b.2

-- ---- zeros and ones in lists

pub list_binary : (cells : List ℤ) → AllByRecursion IsZeroOrOne cells → (k : ℕ) → IsZeroOrOne (slice_index_or cells k (pos 0))
list_binary [] all k = inl refl
list_binary (z ∷ cells) all zero = all.0
list_binary (z ∷ cells) all (suc k) = list_binary cells all.1 k

pub rows_binary : (rows : List (List ℤ)) → AllByRecursion (AllByRecursion IsZeroOrOne) rows → (row column : ℕ) → IsZeroOrOne (slice_index_or (slice_index_or rows row []) column (pos 0))
rows_binary [] all row column = inl refl
rows_binary (r ∷ rows) all zero column = list_binary r all.0 column
rows_binary (r ∷ rows) all (suc row) column = rows_binary rows all.1 row column

-- a property of all values of a function is a property of all items of a mapped list
pub all-map : {A B : Type 0} (P : B → Type 0) (f : A → B) (xs : List A) → ((x : A) → P (f x)) → AllByRecursion P (map f xs)
all-map P f [] each = tt
all-map P f (x ∷ xs) each = (each x, all-map P f xs each)

-- ---- texts

pub dense_binary : (binary : Bool) (text : Text) (r : Result Matrix (FieldError TextKind)) → Gives (λ m. m) r (dense binary text) → binary ≡ true → IfOk r IsBinary
dense_binary binary text (Err e) read is_binary = tt
dense_binary binary text (Ok m) read is_binary =
    let is = dense_texts.found MAX_ROWS MAX_COLUMNS true text (Ok m) (subst (λ (b : Bool). Gives (λ m. m) (Ok m) (dense b text)) is_binary read) in
    subst IsBinary (sym is.matrix) (each-rows_of IsZeroOrOne is.height is.width is.cells (inl refl) (spelled_cells IsZeroOrOne true (inl refl) word_binary is.entry_words is.cells is.entries_are))

pub sparse_binary : (binary : Bool) (text : Text) (r : Result Matrix (FieldError TextKind)) → Gives (λ m. m) r (sparse binary text) → binary ≡ true → IfOk r IsBinary
sparse_binary binary text (Err e) read is_binary = tt
sparse_binary binary text (Ok m) read is_binary =
    let is = sparse_texts.found MAX_ROWS MAX_COLUMNS true text (Ok m) (subst (λ (b : Bool). Gives (λ m. m) (Ok m) (sparse b text)) is_binary read) in
    subst IsBinary (sym is.matrix) (rows_binary (matrix_of_triples is.height is.width is.triples).rows
    (all-map (AllByRecursion IsZeroOrOne) (λ row. map (value_at is.triples row) (range_with_len 1 is.width)) (range_with_len 1 is.height)
    (λ row. all-map IsZeroOrOne (value_at is.triples row) (range_with_len 1 is.width) (spelled_values IsZeroOrOne true (inl refl) word_binary is.triple_words is.triples is.triples_are row))))
