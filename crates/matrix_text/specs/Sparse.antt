-- Sparse texts: the sizes and a count, and then as many triples as the count says.
use Rattle.std.specs.Prelude.{◌≡◌, ◌<◌, ◌≤◌, false, length, ◌==◌, ◌&&◌, ◌++◌, if◌then◌else◌, ℕ, ℤ, pos, Bool, List, [], ◌∷◌, map, Result, Ok}
use Rattle.std.specs.List.{AllByRecursion, list_any, range_with_len}
use Rattle.cmr_base.specs.declared.limits.TheConstants.{MAX_COLUMNS, MAX_ROWS}
use Rattle.cmr_base.specs.Matrix.{Matrix}
use Rattle.text_fields.specs.TextWords.{Text}
use Rattle.text_fields.specs.Result.{◌>>=◌}
use Rattle.text_fields.specs.Numbers.{count_in}
use Rattle.text_fields.specs.Reading.{Fault, field, times, ended}
use Rattle.matrix_text.specs.declared.error.TextKind.{TextKind}
use Rattle.matrix_text.specs.declared.error.TextKind.TheVariants.{Short, Extra, TooManyRows, TooManyColumns, RowOutOfRange}
use Rattle.matrix_text.specs.Values.{limited, count, line_in, free_column_in, entry_in}

-- the value in a row and a column, counted from 1
pub record Triple : Type 0 where
  pub row : ℕ
  pub column : ℕ
  pub value : ℤ

abbrev pub names : ℕ → ℕ → Triple → Bool
names row column triple = (triple.row == row) && (triple.column == column)

-- a triple names this position
abbrev pub is_place_named : List Triple → ℕ → ℕ → Bool
is_place_named triples row column = list_any (names row column) triples

-- the value of the triple that names a position, or 0 if there is none
abbrev pub value_at : List Triple → ℕ → ℕ → ℤ
value_at [] row column = pos 0
value_at (triple ∷ triples) row column = if names row column triple then triple.value else value_at triples row column

-- the matrix of these sizes with the triples' values at their positions
abbrev pub matrix_of_triples : ℕ → ℕ → List Triple → Matrix
matrix_of_triples height width triples = record {
  rows = map (λ row. map (value_at triples row) (range_with_len 1 width)) (range_with_len 1 height);
  width = width;
}

-- each three words represent a triple
abbrev pub SpellTriples : Bool → List (List ℕ) → List Triple → Type 0
SpellTriples binary [] [] = Unit {0}
SpellTriples binary (row ∷ column ∷ value ∷ words) (triple ∷ triples) =
    (count_in row ≡ Ok triple.row) × (count_in column ≡ Ok triple.column) × (entry_in binary value ≡ Ok triple.value) × SpellTriples binary words triples
SpellTriples binary _ _ = ⊥

-- the position is in a matrix of these sizes
pub record IsPlaced (height width : ℕ) (triple : Triple) : Type 0 where
  pub row_above : 0 < triple.row
  pub row_in : triple.row ≤ height
  pub column_above : 0 < triple.column
  pub column_in : triple.column ≤ width

-- no position is named twice
abbrev pub NameOnce : List Triple → Type 0
NameOnce [] = Unit {0}
NameOnce (triple ∷ triples) = (is_place_named triples triple.row triple.column ≡ false) × NameOnce triples

-- these words are a sparse text of the matrix, with sizes within limits
pub record IsSparseWithin (most_rows most_columns : ℕ) (binary : Bool) (words : List (List ℕ)) (m : Matrix) : Type 0 where
  pub height : ℕ
  pub width : ℕ
  pub triples : List Triple
  pub height_word : List ℕ
  pub width_word : List ℕ
  pub count_word : List ℕ
  pub triple_words : List (List ℕ)
  pub words_are : words ≡ height_word ∷ width_word ∷ count_word ∷ triple_words
  pub height_is : count_in height_word ≡ Ok height
  pub width_is : count_in width_word ≡ Ok width
  pub height_in : height ≤ most_rows
  pub width_in : width ≤ most_columns
  pub count_is : count_in count_word ≡ Ok (length triples)
  pub triples_are : SpellTriples binary triple_words triples
  pub placed : AllByRecursion (IsPlaced height width) triples
  pub once : NameOnce triples
  pub matrix : m ≡ matrix_of_triples height width triples

-- the row and the column of a position that is not taken
abbrev pub free_place : ℕ → ℕ → (ℕ → ℕ → Bool) → Text → Result ((ℕ × ℕ) × Text) (Fault TextKind)
free_place height width is_taken text = do
  row ← field Short (line_in height RowOutOfRange) text
  column ← field Short (free_column_in width (is_taken row.0)) row.1
  Ok ((row.0, column.0), column.1)

-- one more triple, whose position the earlier triples do not name
abbrev pub another_triple : Bool → ℕ → ℕ → List Triple → Text → Result (List Triple × Text) (Fault TextKind)
another_triple binary height width triples text = do
  place ← free_place height width (is_place_named triples) text
  value ← field Short (entry_in binary) place.1
  Ok (triples ++ (record { row = (place.0).0; column = (place.0).1; value = value.0 }) ∷ [], value.1)

-- the matrix that n triples represent
abbrev pub matrix_by_triples : Bool → ℕ → ℕ → ℕ → Text → Result (Matrix × Text) (Fault TextKind)
matrix_by_triples binary height width n text = do
  triples ← times (another_triple binary height width) n [] text
  Ok (matrix_of_triples height width triples.0, triples.1)

module _ (most_rows most_columns : ℕ) (binary : Bool) where
  -- reading: the matrix that a sparse text represents, or its first fault
  abbrev pub sparse_within : Text → Result Matrix (Fault TextKind)
  sparse_within text = do
    height ← field Short (limited most_rows TooManyRows) text
    width ← field Short (limited most_columns TooManyColumns) height.1
    n ← field Short count width.1
    matrix ← matrix_by_triples binary height.0 width.0 n.0 n.1
    ended Extra matrix.0 matrix.1

-- the same within the limits of `Matrix`
module _ (binary : Bool) where
  abbrev pub IsSparse : List (List ℕ) → Matrix → Type 0
  IsSparse words m = IsSparseWithin MAX_ROWS MAX_COLUMNS binary words m

  abbrev pub sparse : Text → Result Matrix (Fault TextKind)
  sparse text = sparse_within MAX_ROWS MAX_COLUMNS binary text
