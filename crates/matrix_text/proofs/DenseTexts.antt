-- Reading gives a matrix if and only if the words are its dense text.
use Rattle.std.proofs.Common.{◌≡◌, ◌*◌, ◌∙◌, ℕ, ℤ, Bool, List, [], ◌∷◌, ◌++◌, length, Result, Ok, Err, refl, ap, sym, subst}
use Rattle.std.specs.Prelude.{IfOk}
use Rattle.std.proofs.lemmas.List.{append-nil}
use Rattle.cmr_base.specs.Matrix.{Matrix, rows_of}
use Rattle.text_fields.specs.TextWords.{Text}
use Rattle.text_fields.specs.Result.{◌>>=◌}
use Rattle.text_fields.specs.Numbers.{count_in}
use Rattle.text_fields.specs.Spelling.{texts_of, Spell}
use Rattle.text_fields.specs.Reading.{field, fields, ended, Gives}
use Rattle.text_fields.specs.declared.error.FieldError.{FieldError}
use Rattle.text_fields.proofs.Limits.{limited_again}
use Rattle.text_fields.proofs.Results.{bind_ok}
use Rattle.text_fields.proofs.Fields.{fields_ok, fields_again, ended_ok}
use Rattle.matrix_text.specs.declared.error.TextKind.{TextKind}
use Rattle.matrix_text.specs.declared.error.TextKind.TheVariants.{Short, Extra, TooManyRows, TooManyColumns}
use Rattle.matrix_text.specs.TextKinds.{limit_kind}
use Rattle.matrix_text.specs.Values.{limited, entry_in}
use Rattle.matrix_text.specs.Dense.{IsDenseWithin, dense_within}
use Rattle.matrix_text.proofs.Lines.{size_found}

entries_found : (binary : Bool) (height width : ℕ) (text : Text) (m : Matrix) → (fields Short (entry_in binary) (height * width) text >>= λ cells. ended Extra (record { rows = rows_of height width cells.0; width = width }) cells.1) ≡ Ok m
    → (cells : List ℤ) × Spell (entry_in binary) (texts_of text.words) cells × (length cells ≡ height * width) × (m ≡ record { rows = rows_of height width cells; width = width })
entries_found binary height width text m h =
    let b = bind_ok (fields Short (entry_in binary) (height * width) text) (λ (cells : List ℤ × Text). ended Extra (record { rows = rows_of height width cells.0; width = width }) cells.1) m h in
    let all = fields_ok Short (entry_in binary) (height * width) [] text b.0.0 b.0.1 b.1 in
    let end = ended_ok Extra (record { rows = rows_of height width b.0.0; width = width }) b.0.1 m b.2 in
    let words : text.words ≡ all.prefix = all.words_are ∙ ap (λ ws. all.prefix ++ ws) end.0 ∙ append-nil all.prefix in
    (b.0.0, subst (λ ws. Spell (entry_in binary) (texts_of ws) b.0.0) (sym words) (subst (Spell (entry_in binary) (texts_of all.prefix)) (sym all.values_are) all.spell), ap length all.values_are ∙ all.count, sym end.1)

two_words : (first second : ℕ × List ℕ) (words later rest : List (ℕ × List ℕ)) → words ≡ first ∷ later → later ≡ second ∷ rest → texts_of words ≡ first.1 ∷ second.1 ∷ texts_of rest
two_words first second words later rest e h = rw (e, h) refl

module _ (most_rows most_columns : ℕ) (binary : Bool) where
  -- a text that is read is a dense text
  pub dense_found : (text : Text) (m : Matrix) → dense_within most_rows most_columns binary text ≡ Ok m → IsDenseWithin most_rows most_columns binary (texts_of text.words) m
  dense_found text m h =
      let b = bind_ok (field Short (limited most_rows TooManyRows) text) (λ (height : ℕ × Text). field Short (limited most_columns TooManyColumns) height.1 >>= λ width. fields Short (entry_in binary) (height.0 * width.0) width.1 >>= λ cells. ended Extra (record { rows = rows_of height.0 width.0 cells.0; width = width.0 }) cells.1) m h in
      let d = bind_ok (field Short (limited most_columns TooManyColumns) b.0.1) (λ (width : ℕ × Text). fields Short (entry_in binary) (b.0.0 * width.0) width.1 >>= λ cells. ended Extra (record { rows = rows_of b.0.0 width.0 cells.0; width = width.0 }) cells.1) m b.2 in
      let rows = size_found most_rows TooManyRows text b.0 b.1 in
      let columns = size_found most_columns TooManyColumns b.0.1 d.0 d.1 in
      let all = entries_found binary b.0.0 d.0.0 d.0.1 m d.2 in
      record {
        height = b.0.0;
        width = d.0.0;
        cells = all.0;
        height_word = rows.0.1;
        width_word = columns.0.1;
        entry_words = texts_of (d.0.1).words;
        words_are = two_words rows.0 columns.0 text.words (b.0.1).words (d.0.1).words rows.1 columns.1;
        height_is = rows.2;
        width_is = columns.2;
        height_in = rows.3;
        width_in = columns.3;
        entries_are = all.1;
        count = all.2;
        matrix = all.3;
      }

  -- a dense text is read
  pub dense_only : (size : ℕ) (words : List (ℕ × List ℕ)) (m : Matrix) → IsDenseWithin most_rows most_columns binary (texts_of words) m
      → dense_within most_rows most_columns binary (record { size = size; words = words }) ≡ Ok m
  dense_only size [] m is = absurd (let e = is.words_are in cc)
  dense_only size (h ∷ []) m is = absurd (let e = is.words_are in cc)
  dense_only size (h ∷ w ∷ words) m is =
      let e = is.words_are in
      let hw : h.1 ≡ is.height_word = cc in
      let ww : w.1 ≡ is.width_word = cc in
      let ew : texts_of words ≡ is.entry_words = cc in
      let height : limited most_rows TooManyRows h.1 ≡ Ok is.height = limited_again (limit_kind TooManyRows) most_rows h.1 is.height (ap count_in hw ∙ is.height_is) is.height_in in
      let width : limited most_columns TooManyColumns w.1 ≡ Ok is.width = limited_again (limit_kind TooManyColumns) most_columns w.1 is.width (ap count_in ww ∙ is.width_is) is.width_in in
      let spell : Spell (entry_in binary) (texts_of words) is.cells = subst (λ ws. Spell (entry_in binary) ws is.cells) (sym ew) is.entries_are in
      let all : fields Short (entry_in binary) (is.height * is.width) (record { size = size; words = words }) ≡ Ok (is.cells, record { size = size; words = [] }) =
      ap (λ n. fields Short (entry_in binary) n (record { size = size; words = words })) (sym is.count)
      ∙ ap (λ ws. fields Short (entry_in binary) (length is.cells) (record { size = size; words = ws })) (sym (append-nil words))
      ∙ fields_again Short (entry_in binary) size words [] [] is.cells spell in
      rw (height, width, all) (ap Ok (sym is.matrix))

  -- the same for the result of a function
  pub found : (text : Text) (r : Result Matrix (FieldError TextKind))
      → Gives (λ m. m) r (dense_within most_rows most_columns binary text) → IfOk r (IsDenseWithin most_rows most_columns binary (texts_of text.words))
  found text (Ok m) gives = dense_found text m gives
  found text (Err e) gives = tt

  pub only : (text : Text) (r : Result Matrix (FieldError TextKind)) → Gives (λ m. m) r (dense_within most_rows most_columns binary text) → (m : Matrix)
      → IsDenseWithin most_rows most_columns binary (texts_of text.words) m → Gives (λ m. m) r (Ok m)
  only text r gives m is = subst (Gives (λ m. m) r) (dense_only text.size text.words m is) gives
