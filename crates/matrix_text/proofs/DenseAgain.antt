-- A dense text that was written is read back as the same matrix.
use Rattle.std.proofs.Common.{◌≡◌, ◌≢◌, ◌*◌, ◌∙◌, ℕ, ℤ, negsuc, Bool, true, false, List, [], ◌∷◌, length, map, Ok, refl, ap, sym, subst, inl, inr, arith}
use Rattle.std.specs.Prelude.{IsTrue}
use Rattle.std.specs.Fmt.{decimal, signed_decimal}
use Rattle.std.specs.List.{AllByRecursion, flat_map}
use Rattle.std.proofs.Math.Nat.{suc-mul, zero-mul}
use Rattle.std.proofs.lemmas.List.{take_at, drop_at, length-append}
use Rattle.cmr_base.specs.declared.limits.TheConstants.{MAX_COLUMNS, MAX_ROWS}
use Rattle.cmr_base.specs.Matrix.{Matrix, height, entry, IsMatrix, IsEntry, rows_of}
use Rattle.text_fields.specs.TextWords.{text_of, words_from}
use Rattle.text_fields.proofs.LineWords.{IsWord, words_in_lines}
use Rattle.text_fields.proofs.Decimals.{decimal_word, count_of_decimal}
use Rattle.text_fields.proofs.Entries.{entry_cases, entry_word, entry_again}
use Rattle.text_fields.proofs.Spelled.{Spell-rows, words-rows}
use Rattle.matrix_text.specs.Values.{allowed, entry_in}
use Rattle.matrix_text.specs.Dense.{dense}
use Rattle.matrix_text.specs.CanonicalMatrices.{dense_lines, dense_text}
use Rattle.matrix_text.proofs.Entries.{all_entries, all_widths}
use Rattle.matrix_text.proofs.DenseTexts.{dense_only}

-- the concatenated rows are cut into the same rows
rows_again : (width : ℕ) (rows : List (List ℤ)) → AllByRecursion (λ row. length row ≡ width) rows → rows_of (length rows) width (flat_map (λ row. row) rows) ≡ rows
rows_again width [] all = refl
rows_again width (row ∷ rows) all =
    rw (take_at row (flat_map (λ row. row) rows) width all.0, drop_at row (flat_map (λ row. row) rows) width all.0) (ap (λ rs. row ∷ rs) (rows_again width rows all.1))

cells_count : (width : ℕ) (rows : List (List ℤ)) → AllByRecursion (λ row. length row ≡ width) rows → length (flat_map (λ row. row) rows) ≡ length rows * width
cells_count width [] all = sym (zero-mul width)
cells_count width (row ∷ rows) all = length-append row (flat_map (λ row. row) rows) ∙ omega (arith, all.0, cells_count width rows all.1, suc-mul (length rows) width)

-- an entry that the matrix may contain is read as it was written
pub entry_in_again : (binary : Bool) (z : ℤ) → IsEntry z → (IsTrue binary → z ≢ negsuc 0) → entry_in binary (signed_decimal z) ≡ Ok z
entry_in_again binary z small may = rw (entry_again z small) (elim (entry_cases z small) [
  | inl e ↦ subst (λ y. allowed binary y ≡ Ok y) (sym e) (minus binary (λ is. may is e))
  | inr (inl e) ↦ rw e refl
  | inr (inr e) ↦ rw e refl
])
  where
    minus : (b : Bool) → (IsTrue b → ⊥) → allowed b (negsuc 0) ≡ Ok (negsuc 0)
    minus true no_minus = absurd (no_minus refl)
    minus false no_minus = refl

pub dense_again : (binary : Bool) (m : Matrix) → IsMatrix m → (IsTrue binary → (row column : ℕ) → entry m row column ≢ negsuc 0) → dense binary (text_of (dense_text m)) ≡ Ok m
dense_again binary m shape may = dense_only MAX_ROWS MAX_COLUMNS binary (length (dense_text m)) (words_from 0 (dense_text m)) m (record {
  height = height m;
  width = m.width;
  cells = flat_map (λ row. row) m.rows;
  height_word = decimal (height m);
  width_word = decimal m.width;
  entry_words = flat_map (λ line. line) (map (map signed_decimal) m.rows);
  words_are = words_in_lines (dense_lines m) ((decimal_word (height m) (let h = shape.height_in in omega arith), (decimal_word m.width (let h = shape.width_in in omega arith), tt)), words-rows IsWord signed_decimal m.rows (all_entries (λ z. IsWord (signed_decimal z)) m.rows (λ r k. entry_word (entry m r k) (shape.small r k))));
  height_is = count_of_decimal (height m) (let h = shape.height_in in omega arith);
  width_is = count_of_decimal m.width (let h = shape.width_in in omega arith);
  height_in = shape.height_in;
  width_in = shape.width_in;
  entries_are = Spell-rows (entry_in binary) signed_decimal m.rows (all_entries (λ z. entry_in binary (signed_decimal z) ≡ Ok z) m.rows (λ r k. entry_in_again binary (entry m r k) (shape.small r k) (λ b. may b r k)));
  count = cells_count m.width m.rows (all_widths m.width m.rows shape.rectangular);
  matrix = ap (λ rows. record { rows = rows; width = m.width }) (sym (rows_again m.width m.rows (all_widths m.width m.rows shape.rectangular)));
})
