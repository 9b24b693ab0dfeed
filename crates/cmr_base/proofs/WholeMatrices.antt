-- Matrices within the limits, the submatrix on all lines, and matrices with the same entries.
use Rattle.std.proofs.Common.{◌≡◌, ◌<◌, ◌∙◌, ℕ, ℤ, pos, List, [], length, map, refl, ap, ap₂, sym, arith}
use Rattle.std.proofs.lemmas.List.{ext_get_or}
use Rattle.std.proofs.lemmas.List.FromFn.{fill_by_all, length-range_with_len}
use Rattle.cmr_base.specs.Matrix.{Matrix, height, row_of, entry, IsMatrix, IsRectangular, IsTernary}
use Rattle.cmr_base.specs.LineSets.{first_lines, submatrix}

pub is_ternary : (m : Matrix) → IsMatrix m → IsTernary m
is_ternary m is = record { rectangular = is.rectangular; small = is.small }

pub whole_submatrix : (m : Matrix) → IsMatrix m → submatrix m (first_lines (height m)) (first_lines m.width) ≡ m
whole_submatrix m is = ap (λ rows. record { rows = rows; width = length (first_lines m.width) }) (sym rows_again) ∙ ap (λ width. record { rows = m.rows; width = width }) (length-range_with_len 0 m.width)
  where
    rows_again : m.rows ≡ map (λ row. map (entry m row) (first_lines m.width)) (first_lines (height m))
    rows_again = fill_by_all (λ row. map (entry m row) (first_lines m.width)) m.rows (height m) [] refl
        (λ row l. fill_by_all (entry m row) (row_of m row) m.width (pos 0) (is.rectangular row l) (λ column k. refl))

pub all_lines_make : (m : Matrix) (R C : List ℕ) → IsMatrix m → R ≡ first_lines (height m) → C ≡ first_lines m.width → submatrix m R C ≡ m
all_lines_make m R C is r c = ap₂ (submatrix m) r c ∙ whole_submatrix m is

-- matrices of one size with the same entries
pub same_matrix : (m n : Matrix) → IsRectangular m → IsRectangular n → height m ≡ height n → m.width ≡ n.width
    → ((row column : ℕ) → row < height m → column < m.width → entry m row column ≡ entry n row column) → m ≡ n
same_matrix m n long_m long_n high wide entries = ap₂ (λ (rows : List (List ℤ)) (width : ℕ). let x : Matrix = record { rows = rows; width = width } in x) rows wide
  where
    long : (row : ℕ) → row < height m → length (row_of m row) ≡ length (row_of n row)
    long row l = long_m row l ∙ wide ∙ sym (long_n row (omega arith))

    rows : m.rows ≡ n.rows
    rows = ext_get_or [] m.rows n.rows high (λ row l. ext_get_or (pos 0) (row_of m row) (row_of n row) (long row l) (λ column k. let w = long_m row l in entries row column l (omega arith)))
