-- Positions that are not taken.
use Rattle.std.proofs.Common.{◌≡◌, ◌<◌, ◌≤◌, ◌∙◌, ℕ, Bool, false, cond, List, ◌∷◌, Result, Ok, Err, refl, ap, subst, arith}
use Rattle.text_fields.specs.TextWords.{Text}
use Rattle.text_fields.specs.Result.{◌>>=◌}
use Rattle.text_fields.specs.Numbers.{count_in}
use Rattle.text_fields.specs.Reading.{Fault, field}
use Rattle.text_fields.proofs.Results.{bind-same, bind_ok, bar_ok, ok_same}
use Rattle.text_fields.proofs.Limits.{line_in_ok, line_in_again}
use Rattle.text_fields.proofs.Fields.{field_ok, field-same}
use Rattle.matrix_text.specs.declared.error.TextKind.{TextKind}
use Rattle.matrix_text.specs.declared.error.TextKind.TheVariants.{Short, RowOutOfRange, ColumnOutOfRange, TwiceNamed}
use Rattle.matrix_text.specs.TextKinds.{limit_kind}
use Rattle.matrix_text.specs.Values.{line_in, free_column_in}
use Rattle.matrix_text.specs.Sparse.{free_place}
use Rattle.matrix_text.proofs.Lines.{free_column_in-same}

row_range : (height : ℕ) (text : Text) (row : ℕ × Text) → field Short (line_in height RowOutOfRange) text ≡ Ok row → (0 < row.0) × (row.0 ≤ height)
row_range height text row h =
    let f = field_ok Short (line_in height RowOutOfRange) text row.0 row.1 h in
    let ok = line_in_ok (limit_kind RowOutOfRange) height f.word.1 row.0 f.parsed in
    (ok.1, ok.2)

-- only the positions of the matrix matter
pub free_place-same : (height width : ℕ) (f g : ℕ → ℕ → Bool)
    → ((row column : ℕ) → 0 < row → row ≤ height → 0 < column → column ≤ width → f row column ≡ g row column) → (text : Text)
    → free_place height width f text ≡ free_place height width g text
free_place-same height width f g same text = bind-same (field Short (line_in height RowOutOfRange) text) (λ (row : ℕ × Text). field Short (free_column_in width (f row.0)) row.1 >>= λ column. Ok ((row.0, column.0), column.1)) (λ (row : ℕ × Text). field Short (free_column_in width (g row.0)) row.1 >>= λ column. Ok ((row.0, column.0), column.1)) (λ row is. let range = row_range height text row is in ap (λ (r : Result (ℕ × Text) (Fault TextKind)). r >>= λ column. Ok ((row.0, column.0), column.1)) (field-same Short (free_column_in width (f row.0)) (free_column_in width (g row.0)) row.1 (free_column_in-same width (f row.0) (g row.0) (λ n. same row.0 n range.0 range.1))))

free_column_in_ok : (most : ℕ) (f : ℕ → Bool) (word : List ℕ) (n : ℕ) → free_column_in most f word ≡ Ok n → (count_in word ≡ Ok n) × (0 < n) × (n ≤ most) × (f n ≡ false)
free_column_in_ok most f word n h =
    let p = bind_ok (line_in most ColumnOutOfRange word) (λ k. cond (f k) (Err TwiceNamed) (Ok k)) n h in
    let g = bar_ok (f p.0) p.0 n TwiceNamed p.2 in
    let l = line_in_ok (limit_kind ColumnOutOfRange) most word p.0 p.1 in
    (l.0 ∙ ap Ok g.1, omega (arith, g.1, l.1), omega (arith, g.1, l.2), subst (λ k. f k ≡ false) g.1 g.0)

free_column_in_again : (most : ℕ) (f : ℕ → Bool) (word : List ℕ) (n : ℕ) → count_in word ≡ Ok n → 0 < n → n ≤ most → f n ≡ false → free_column_in most f word ≡ Ok n
free_column_in_again most f word n h above within free = rw (line_in_again (limit_kind ColumnOutOfRange) most word n h above within, free) refl

-- a position that is not taken was read
pub record IsFreePlace (height width : ℕ) (f : ℕ → ℕ → Bool) (text : Text) (row column : ℕ) (rest : Text) : Type 0 where
  pub row_word : ℕ × List ℕ
  pub column_word : ℕ × List ℕ
  pub words_are : text.words ≡ row_word ∷ column_word ∷ rest.words
  pub row_is : count_in row_word.1 ≡ Ok row
  pub column_is : count_in column_word.1 ≡ Ok column
  pub row_above : 0 < row
  pub row_in : row ≤ height
  pub column_above : 0 < column
  pub column_in : column ≤ width
  pub free : f row column ≡ false

pub free_place_ok : (height width : ℕ) (f : ℕ → ℕ → Bool) (text : Text) (place : (ℕ × ℕ) × Text) → free_place height width f text ≡ Ok place
    → IsFreePlace height width f text (place.0).0 (place.0).1 place.1
free_place_ok height width f text place h =
    let b = bind_ok (field Short (line_in height RowOutOfRange) text) (λ (row : ℕ × Text). field Short (free_column_in width (f row.0)) row.1 >>= λ column. Ok ((row.0, column.0), column.1)) place h in
    let d = bind_ok (field Short (free_column_in width (f b.0.0)) b.0.1) (λ (column : ℕ × Text). Ok ((b.0.0, column.0), column.1)) place b.2 in
    let e = ok_same ((b.0.0, d.0.0), d.0.1) place d.2 in
    subst (λ (q : (ℕ × ℕ) × Text). IsFreePlace height width f text (q.0).0 (q.0).1 q.1) e (go b.0 d.0 b.1 d.1)
  where
    go : (row column : ℕ × Text) → field Short (line_in height RowOutOfRange) text ≡ Ok row → field Short (free_column_in width (f row.0)) row.1 ≡ Ok column
        → IsFreePlace height width f text row.0 column.0 column.1
    go row column hr hc =
        let r = field_ok Short (line_in height RowOutOfRange) text row.0 row.1 hr in
        let c = field_ok Short (free_column_in width (f row.0)) row.1 column.0 column.1 hc in
        let l = line_in_ok (limit_kind RowOutOfRange) height r.word.1 row.0 r.parsed in
        let k = free_column_in_ok width (f row.0) c.word.1 column.0 c.parsed in
        record {
          row_word = r.word;
          column_word = c.word;
          words_are = r.words_are ∙ ap (λ words. r.word ∷ words) c.words_are;
          row_is = l.0;
          column_is = k.0;
          row_above = l.1;
          row_in = l.2;
          column_above = k.1;
          column_in = k.2;
          free = k.3;
        }

-- words that represent a position that is not taken are read as this position
pub free_place_again : (height width : ℕ) (f : ℕ → ℕ → Bool) (size : ℕ) (row_word column_word : ℕ × List ℕ) (words : List (ℕ × List ℕ)) (row column : ℕ)
    → count_in row_word.1 ≡ Ok row → count_in column_word.1 ≡ Ok column → 0 < row → row ≤ height → 0 < column → column ≤ width → f row column ≡ false
    → free_place height width f (record { size = size; words = row_word ∷ column_word ∷ words }) ≡ Ok ((row, column), record { size = size; words = words })
free_place_again height width f size row_word column_word words row column row_is column_is row_above row_in column_above column_in free =
    rw (line_in_again (limit_kind RowOutOfRange) height row_word.1 row row_is row_above row_in, free_column_in_again width (f row) column_word.1 column column_is column_above column_in free) refl
