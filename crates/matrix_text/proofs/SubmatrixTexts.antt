-- Reading gives lines if and only if the words are their submatrix text.
use Rattle.std.proofs.Common.{◌≡◌, ◌∙◌, ℕ, List, [], ◌∷◌, ◌++◌, length, cond, eqb, true, Result, Ok, Err, refl, ap, sym, subst, arith, zero-le}
use Rattle.std.specs.Prelude.{IfOk}
use Rattle.std.proofs.lemmas.List.{append-nil, map-append}
use Rattle.std.proofs.lemmas.Bool.Decides.{nat_tests}
use Rattle.cmr_base.specs.declared.line_set.LineSet.{LineSet}
use Rattle.cmr_base.proofs.IncreasingLists.{increasing_count, IncreasesIn, increases_in, increasing_in_range, increases_along}
use Rattle.text_fields.specs.TextWords.{Text}
use Rattle.text_fields.specs.Result.{◌>>=◌}
use Rattle.text_fields.specs.Numbers.{count_in}
use Rattle.text_fields.specs.Spelling.{texts_of, Spell}
use Rattle.text_fields.specs.Reading.{Fault, field, ended, Gives}
use Rattle.text_fields.specs.declared.error.FieldError.{FieldError}
use Rattle.text_fields.proofs.Limits.{limited_again}
use Rattle.text_fields.proofs.Results.{bind_ok, guard_ok, renamed_ok}
use Rattle.text_fields.proofs.Fields.{field_ok, ended_ok}
use Rattle.text_fields.proofs.LineWords.{split_texts}
use Rattle.matrix_text.specs.declared.error.TextKind.{TextKind}
use Rattle.matrix_text.specs.declared.error.TextKind.TheVariants.{Short, Extra, RowOutOfRange, ColumnOutOfRange, OtherSize}
use Rattle.matrix_text.specs.TextKinds.{text_kind, limit_kind}
use Rattle.matrix_text.specs.Values.{count, limited, own_size}
use Rattle.matrix_text.specs.Submatrix.{IsSubmatrix, numbers_of, increasing_lines, named_lines}
use Rattle.matrix_text.proofs.Lines.{size_found}
use Rattle.matrix_text.proofs.Increasing.{lines_ok, lines_again}

own_size_found : (size : ℕ) (text : Text) (n : ℕ) (rest : Text) → field Short (own_size size) text ≡ Ok (n, rest) → (word : ℕ × List ℕ) × (text.words ≡ word ∷ rest.words) × (count_in word.1 ≡ Ok size)
own_size_found size text n rest h =
    let f = field_ok Short (own_size size) text n rest h in
    let b = bind_ok (count f.word.1) (λ k. cond (eqb k size) (Ok k) (Err OtherSize)) n f.parsed in
    let g = guard_ok (eqb b.0 size) b.0 n OtherSize b.2 in
    let same : b.0 ≡ size = grind (arith, nat_tests, g.0) in
    (f.word, f.words_are, renamed_ok text_kind (count_in f.word.1) b.0 b.1 ∙ ap Ok same)

-- the two lists and the end
abbrev lines_after : ℕ → ℕ → ℕ → ℕ → Text → Result LineSet (Fault TextKind)
lines_after height width p q text = increasing_lines height RowOutOfRange p text >>= λ rows. increasing_lines width ColumnOutOfRange q rows.1 >>= λ columns. ended Extra (record { rows = rows.0; columns = columns.0 }) columns.1

abbrev counts_after : Text → ℕ → ℕ → Result LineSet (Fault TextKind)
counts_after text height width = field Short (limited height RowOutOfRange) text >>= λ p. field Short (limited width ColumnOutOfRange) p.1 >>= λ q. lines_after height width p.0 q.0 q.1

record AreLists (height width p q : ℕ) (words : List (List ℕ)) (lines : LineSet) : Type 0 where
  row_words : List (List ℕ)
  column_words : List (List ℕ)
  words_are : words ≡ row_words ++ column_words
  rows_are : Spell count_in row_words (numbers_of lines.rows)
  columns_are : Spell count_in column_words (numbers_of lines.columns)
  row_count : length lines.rows ≡ p
  column_count : length lines.columns ≡ q
  rows_increase : IncreasesIn 0 height lines.rows
  columns_increase : IncreasesIn 0 width lines.columns

lists_found : (height width p q : ℕ) (text : Text) (lines : LineSet) → lines_after height width p q text ≡ Ok lines → AreLists height width p q (texts_of text.words) lines
lists_found height width p q text lines h =
    let a = bind_ok (increasing_lines height RowOutOfRange p text) (λ (rows : List ℕ × Text). increasing_lines width ColumnOutOfRange q rows.1 >>= λ columns. ended Extra (record { rows = rows.0; columns = columns.0 }) columns.1) lines h in
    let b = bind_ok (increasing_lines width ColumnOutOfRange q a.0.1) (λ (columns : List ℕ × Text). ended Extra (record { rows = a.0.0; columns = columns.0 }) columns.1) lines a.2 in
    go a.0 b.0 a.1 b.1 b.2
  where
    both : (prefix next words later rest : List (ℕ × List ℕ)) → words ≡ prefix ++ later → later ≡ next ++ rest → rest ≡ [] → texts_of words ≡ texts_of prefix ++ texts_of next
    both prefix next words later rest e g none = ap texts_of (e ∙ ap (λ ws. prefix ++ ws) (g ∙ ap (λ ws. next ++ ws) none ∙ append-nil next)) ∙ map-append (λ (word : ℕ × List ℕ). word.1) prefix next

    go : (a b : List ℕ × Text) → increasing_lines height RowOutOfRange p text ≡ Ok a → increasing_lines width ColumnOutOfRange q a.1 ≡ Ok b
        → ended Extra (record { rows = a.0; columns = b.0 }) b.1 ≡ Ok lines → AreLists height width p q (texts_of text.words) lines
    go a b ha hb he =
        let rows = lines_ok height RowOutOfRange p [] text a.0 a.1 ha in
        let columns = lines_ok width ColumnOutOfRange q [] a.1 b.0 b.1 hb in
        let end = ended_ok Extra (record { rows = a.0; columns = b.0 }) b.1 lines he in
        let rows_are : rows.read ≡ lines.rows = sym rows.lines_are ∙ ap (λ (l : LineSet). l.rows) end.1 in
        let columns_are : columns.read ≡ lines.columns = sym columns.lines_are ∙ ap (λ (l : LineSet). l.columns) end.1 in
        record {
          row_words = texts_of rows.prefix;
          column_words = texts_of columns.prefix;
          words_are = both rows.prefix columns.prefix text.words (a.1).words (b.1).words rows.words_are columns.words_are end.0;
          rows_are = subst (λ ls. Spell count_in (texts_of rows.prefix) (numbers_of ls)) rows_are rows.spell;
          columns_are = subst (λ ls. Spell count_in (texts_of columns.prefix) (numbers_of ls)) columns_are columns.spell;
          row_count = ap length (sym rows_are) ∙ rows.count;
          column_count = ap length (sym columns_are) ∙ columns.count;
          rows_increase = subst (IncreasesIn 0 height) rows_are rows.increases;
          columns_increase = subst (IncreasesIn 0 width) columns_are columns.increases;
        }

four_words : (a b c d : ℕ × List ℕ) (words x y z rest : List (ℕ × List ℕ)) → words ≡ a ∷ x → x ≡ b ∷ y → y ≡ c ∷ z → z ≡ d ∷ rest → texts_of words ≡ a.1 ∷ b.1 ∷ c.1 ∷ d.1 ∷ texts_of rest
four_words a b c d words x y z rest e f g h = rw (e, f, g, h) refl

-- a text that is read is a submatrix text
submatrix_found : (height width : ℕ) (text : Text) (lines : LineSet) → named_lines height width text ≡ Ok lines → IsSubmatrix height width (texts_of text.words) lines
submatrix_found height width text lines h =
    let a = bind_ok (field Short (own_size height) text) (λ (same : ℕ × Text). field Short (own_size width) same.1 >>= λ same. counts_after same.1 height width) lines h in
    let b = bind_ok (field Short (own_size width) a.0.1) (λ (same : ℕ × Text). counts_after same.1 height width) lines a.2 in
    let d = bind_ok (field Short (limited height RowOutOfRange) b.0.1) (λ (p : ℕ × Text). field Short (limited width ColumnOutOfRange) p.1 >>= λ q. lines_after height width p.0 q.0 q.1) lines b.2 in
    let e = bind_ok (field Short (limited width ColumnOutOfRange) d.0.1) (λ (q : ℕ × Text). lines_after height width d.0.0 q.0 q.1) lines d.2 in
    go a.0 b.0 d.0 e.0 a.1 b.1 d.1 e.1 e.2
  where
    go : (a b d e : ℕ × Text) → field Short (own_size height) text ≡ Ok a → field Short (own_size width) a.1 ≡ Ok b
        → field Short (limited height RowOutOfRange) b.1 ≡ Ok d → field Short (limited width ColumnOutOfRange) d.1 ≡ Ok e
        → lines_after height width d.0 e.0 e.1 ≡ Ok lines → IsSubmatrix height width (texts_of text.words) lines
    go a b d e ha hb hd he h =
        let same_height = own_size_found height text a.0 a.1 ha in
        let same_width = own_size_found width a.1 b.0 b.1 hb in
        let rows = size_found height RowOutOfRange b.1 d hd in
        let columns = size_found width ColumnOutOfRange d.1 e he in
        let lists = lists_found height width d.0 e.0 e.1 lines h in
        record {
          height_word = same_height.0.1;
          width_word = same_width.0.1;
          row_count_word = rows.0.1;
          column_count_word = columns.0.1;
          row_words = lists.row_words;
          column_words = lists.column_words;
          words_are = four_words same_height.0 same_width.0 rows.0 columns.0 text.words (a.1).words (b.1).words (d.1).words (e.1).words same_height.1 same_width.1 rows.1 columns.1 ∙ ap (λ ws. same_height.0.1 ∷ same_width.0.1 ∷ rows.0.1 ∷ columns.0.1 ∷ ws) lists.words_are;
          height_is = same_height.2;
          width_is = same_width.2;
          row_count = rows.2 ∙ ap Ok (sym lists.row_count);
          column_count = columns.2 ∙ ap Ok (sym lists.column_count);
          rows_are = lists.rows_are;
          columns_are = lists.columns_are;
          rows_increase = increases_along 0 height lines.rows lists.rows_increase;
          columns_increase = increases_along 0 width lines.columns lists.columns_increase;
          rows_in = increasing_in_range 0 height lines.rows lists.rows_increase;
          columns_in = increasing_in_range 0 width lines.columns lists.columns_increase;
        }

own_size_again : (size : ℕ) (word : List ℕ) → count_in word ≡ Ok size → own_size size word ≡ Ok size
own_size_again size word h = let same : eqb size size ≡ true = grind (arith, nat_tests) in rw (h, same) refl

lists_again : (height width size : ℕ) (words : List (ℕ × List ℕ)) (lines : LineSet) → AreLists height width (length lines.rows) (length lines.columns) (texts_of words) lines
    → lines_after height width (length lines.rows) (length lines.columns) (record { size = size; words = words }) ≡ Ok lines
lists_again height width size words lines are =
    let s = split_texts words are.row_words are.column_words are.words_are in
    let rows : increasing_lines height RowOutOfRange (length lines.rows) (record { size = size; words = words }) ≡ Ok (lines.rows, record { size = size; words = s.second }) =
    ap (λ ws. increasing_lines height RowOutOfRange (length lines.rows) (record { size = size; words = ws })) s.words_are
    ∙ lines_again height RowOutOfRange size s.first s.second [] lines.rows (subst (λ ws. Spell count_in ws (numbers_of lines.rows)) (sym s.prefix_is) are.rows_are) are.rows_increase in
    let columns : increasing_lines width ColumnOutOfRange (length lines.columns) (record { size = size; words = s.second }) ≡ Ok (lines.columns, record { size = size; words = [] }) =
    ap (λ ws. increasing_lines width ColumnOutOfRange (length lines.columns) (record { size = size; words = ws })) (sym (append-nil s.second))
    ∙ lines_again width ColumnOutOfRange size s.second [] [] lines.columns (subst (λ ws. Spell count_in ws (numbers_of lines.columns)) (sym s.back_is) are.columns_are) are.columns_increase in
    rw (rows, columns) refl

-- a submatrix text is read
pub submatrix_only : (height width size : ℕ) (words : List (ℕ × List ℕ)) (lines : LineSet) → IsSubmatrix height width (texts_of words) lines
    → named_lines height width (record { size = size; words = words }) ≡ Ok lines
submatrix_only height width size [] lines is = absurd (let e = is.words_are in cc)
submatrix_only height width size (h ∷ []) lines is = absurd (let e = is.words_are in cc)
submatrix_only height width size (h ∷ w ∷ []) lines is = absurd (let e = is.words_are in cc)
submatrix_only height width size (h ∷ w ∷ p ∷ []) lines is = absurd (let e = is.words_are in cc)
submatrix_only height width size (h ∷ w ∷ p ∷ q ∷ words) lines is =
    let e = is.words_are in
    let hw : h.1 ≡ is.height_word = cc in
    let ww : w.1 ≡ is.width_word = cc in
    let pw : p.1 ≡ is.row_count_word = cc in
    let qw : q.1 ≡ is.column_count_word = cc in
    let lw : texts_of words ≡ is.row_words ++ is.column_words = cc in
    let same_height = own_size_again height h.1 (ap count_in hw ∙ is.height_is) in
    let same_width = own_size_again width w.1 (ap count_in ww ∙ is.width_is) in
    let row_count = limited_again (limit_kind RowOutOfRange) height p.1 (length lines.rows) (ap count_in pw ∙ is.row_count) (increasing_count height lines.rows is.rows_increase is.rows_in) in
    let column_count = limited_again (limit_kind ColumnOutOfRange) width q.1 (length lines.columns) (ap count_in qw ∙ is.column_count) (increasing_count width lines.columns is.columns_increase is.columns_in) in
    rw (same_height, same_width, row_count, column_count) (lists_again height width size words lines (record {
      row_words = is.row_words;
      column_words = is.column_words;
      words_are = lw;
      rows_are = is.rows_are;
      columns_are = is.columns_are;
      row_count = refl;
      column_count = refl;
      rows_increase = increases_in 0 height lines.rows is.rows_increase is.rows_in (λ h. zero-le);
      columns_increase = increases_in 0 width lines.columns is.columns_increase is.columns_in (λ h. zero-le);
    }))

-- the same for the result of a function
pub found : (height width : ℕ) (text : Text) (r : Result LineSet (FieldError TextKind)) → Gives (λ lines. lines) r (named_lines height width text)
    → IfOk r (IsSubmatrix height width (texts_of text.words))
found height width text (Ok lines) gives = submatrix_found height width text lines gives
found height width text (Err e) gives = tt

pub only : (height width : ℕ) (text : Text) (r : Result LineSet (FieldError TextKind)) → Gives (λ lines. lines) r (named_lines height width text)
    → (lines : LineSet) → IsSubmatrix height width (texts_of text.words) lines → Gives (λ lines. lines) r (Ok lines)
only height width text r gives lines is = subst (Gives (λ lines. lines) r) (submatrix_only height width text.size text.words lines is) gives
