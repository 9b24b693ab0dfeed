-- A bound on the length of the dense text of a matrix.
use Rattle.std.proofs.Common.{◌≡◌, ◌≤◌, ◌*◌, ◌∙◌, ◌++◌, inl, inr, ℕ, ℤ, List, [], ◌∷◌, map, length, ap, arith, length-append}
use Rattle.std.specs.Fmt.{decimal, signed_decimal}
use Rattle.std.specs.List.{AllByRecursion, join_with_byte}
use Rattle.std.proofs.lemmas.Fmt.{length-decimal-le_succ}
use Rattle.cmr_base.specs.Matrix.{Matrix, IsEntry, IsMatrix, entry, height}
use Rattle.text_fields.specs.Written.{text_line, text_of_lines}
use Rattle.text_fields.proofs.Entries.{entry_cases, minus_one_text, one_text, zero_text}
use Rattle.matrix_text.specs.CanonicalMatrices.{dense_text}
use Rattle.matrix_text.proofs.Entries.{all_entries, all_widths}

-- at most two bytes
abbrev IsShort : ℤ → Type 0
IsShort z = length (signed_decimal z) ≤ 2

entry_short : (z : ℤ) → IsEntry z → IsShort z
entry_short z small = elim (entry_cases z small) [
  | inl e ↦ let f = ap length (ap signed_decimal e ∙ minus_one_text) in omega arith
  | inr (inl e) ↦ let f = ap length (ap signed_decimal e ∙ zero_text) in omega arith
  | inr (inr e) ↦ let f = ap length (ap signed_decimal e ∙ one_text) in omega arith
]

joined_short : (row : List ℤ) → AllByRecursion IsShort row → length (join_with_byte 32 (map signed_decimal row)) ≤ 3 * length row
joined_short [] h = omega arith
joined_short (z ∷ []) h = let a = h.0 in omega arith
joined_short (z ∷ w ∷ zs) h =
    let a = h.0 in
    let r = joined_short (w ∷ zs) h.1 in
    let l = length-append (signed_decimal z) (32 ∷ join_with_byte 32 (map signed_decimal (w ∷ zs))) in
    omega arith

rows_short : (rows : List (List ℤ)) → AllByRecursion (AllByRecursion IsShort) rows → AllByRecursion (λ row. length row ≤ 1000) rows
    → length (text_of_lines (map (map signed_decimal) rows)) ≤ 3001 * length rows
rows_short [] h narrow = omega arith
rows_short (row ∷ rows) h narrow =
    let a = joined_short row h.0 in
    let n = narrow.0 in
    let r = rows_short rows h.1 narrow.1 in
    let line = length-append (join_with_byte 32 (map signed_decimal row)) (10 ∷ []) in
    let l = length-append (text_line (map signed_decimal row)) (text_of_lines (map (map signed_decimal) rows)) in
    omega arith

narrow_rows : (width : ℕ) (rows : List (List ℤ)) → width ≤ 1000 → AllByRecursion (λ row. length row ≡ width) rows → AllByRecursion (λ row. length row ≤ 1000) rows
narrow_rows width [] w h = tt
narrow_rows width (row ∷ rows) w h = ((let e = h.0 in omega arith), narrow_rows width rows w h.1)

-- a dense text is at most as long as a file of a matrix may be
pub dense_text_within : (m : Matrix) → IsMatrix m → length (dense_text m) ≤ 16777216
dense_text_within m is =
    let tall = is.height_in in
    let wide = is.width_in in
    let h = length-decimal-le_succ (height m) (omega arith) in
    let w = length-decimal-le_succ m.width (omega arith) in
    let rows = rows_short m.rows (all_entries IsShort m.rows (λ r k. entry_short (entry m r k) (is.small r k))) (narrow_rows m.width m.rows wide (all_widths m.width m.rows is.rectangular)) in
    let sizes = length-append (decimal (height m)) (32 ∷ decimal m.width) in
    let line = length-append (decimal (height m) ++ (32 ∷ decimal m.width)) (10 ∷ []) in
    let all = length-append (text_line (decimal (height m) ∷ decimal m.width ∷ [])) (text_of_lines (map (map signed_decimal) m.rows)) in
    omega arith
