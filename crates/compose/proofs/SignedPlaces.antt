-- Positions in lists of signed lines, and the entries of the matrices on such lines.
use Rattle.std.proofs.Common.{◌≡◌, ◌<◌, ◌+◌, ◌∙◌, ◌++◌, ◌*ℤ◌, ℕ, zero, suc, ℤ, pos, List, [], ◌∷◌, map, length, get_or, ap, ap₂, sym, refl, arith, length-append}
use Rattle.std.proofs.lemmas.List.{length-map}
use Rattle.cmr_base.specs.Matrix.{Matrix, height, entry}
use Rattle.cmr_base.specs.LineSets.{submatrix}
use Rattle.cmr_base.proofs.Integers.{products, zero-mul}
use Rattle.compose.specs.declared.signed_line.SignedLine.{SignedLine}
use Rattle.compose.specs.Arrangements.{signed, plain, framed, signed_entry, signed_submatrix}

-- the line at a position; past the end, a line that gives zeros
abbrev pub at : List SignedLine → ℕ → SignedLine
at lines a = get_or lines a (signed 0 (pos 0))

pub at_plain : (xs : List ℕ) (ys : List SignedLine) (i : ℕ) → i < length xs → at (map plain xs ++ ys) i ≡ plain (get_or xs i 0)
at_plain [] ys i l = absurd (omega arith)
at_plain (x ∷ xs) ys zero l = refl
at_plain (x ∷ xs) ys (suc i) l = at_plain xs ys i (omega arith)

pub at_after : (xs : List ℕ) (ys : List SignedLine) (i t : ℕ) → i ≡ length xs + t → at (map plain xs ++ ys) i ≡ at ys t
at_after [] ys i t e = ap (at ys) (plainly i t e)
  where
    plainly : (i t : ℕ) → i ≡ 0 + t → i ≡ t
    plainly i t e = omega arith
at_after (x ∷ xs) ys zero t e = absurd (omega arith)
at_after (x ∷ xs) ys (suc i) t e = at_after xs ys i t (omega arith)

pub at_next : (x : SignedLine) (ys : List SignedLine) (i t : ℕ) → i ≡ suc t → at (x ∷ ys) i ≡ at ys t
at_next x ys i t e = ap (at (x ∷ ys)) e

pub length-framed : (first : List SignedLine) (lines : List ℕ) (last : List SignedLine) → length (framed first lines last) ≡ length first + (length lines + length last)
length-framed first lines last =
    let a = length-append first (map plain lines ++ last) in
    let b = length-append (map plain lines) last in
    let c = length-map lines plain in
    omega arith

pub height-signed : (m : Matrix) (rows columns : List SignedLine) → height (signed_submatrix m rows columns) ≡ length rows
height-signed m rows columns = length-map rows (λ row. map (signed_entry (entry m) row) columns)

none_right : (s z : ℤ) → s *ℤ (pos 0 *ℤ z) ≡ pos 0
none_right s z = simp products

entry_in_row : (M : ℕ → ℕ → ℤ) (row : SignedLine) (columns : List SignedLine) (b : ℕ) → get_or (map (signed_entry M row) columns) b (pos 0) ≡ signed_entry M row (at columns b)
entry_in_row M row [] b = sym (none_right row.sign (M row.line 0))
entry_in_row M row (c ∷ cs) zero = refl
entry_in_row M row (c ∷ cs) (suc b) = entry_in_row M row cs b

entry_at : (m : Matrix) (rows columns : List SignedLine) (a b : ℕ) → entry (signed_submatrix m rows columns) a b ≡ signed_entry (entry m) (at rows a) (at columns b)
entry_at m [] columns a b = sym (zero-mul ((at columns b).sign *ℤ entry m 0 (at columns b).line))
entry_at m (r ∷ rs) columns zero b = entry_in_row (entry m) r columns b
entry_at m (r ∷ rs) columns (suc a) b = entry_at m rs columns a b

-- the entry, by the lines at its positions
pub entry_of : (m : Matrix) (rows columns : List SignedLine) (a b r c : ℕ) (s t : ℤ) → at rows a ≡ signed r s → at columns b ≡ signed c t
    → entry (signed_submatrix m rows columns) a b ≡ s *ℤ (t *ℤ entry m r c)
entry_of m rows columns a b r c s t e f = entry_at m rows columns a b ∙ ap₂ (λ (x y : SignedLine). signed_entry (entry m) x y) e f

pub factors_swapped : (x u y : ℤ) → x *ℤ (u *ℤ y) ≡ x *ℤ (y *ℤ u)
factors_swapped x u y = simp products

pub ones : (z : ℤ) → pos 1 *ℤ (pos 1 *ℤ z) ≡ z
ones z = simp products

pub one_left : (s z : ℤ) → s *ℤ (pos 1 *ℤ z) ≡ s *ℤ z
one_left s z = simp products

pub one_right : (s z : ℤ) → pos 1 *ℤ (s *ℤ z) ≡ s *ℤ z
one_right s z = simp products

-- ---- lines without signs

plain_row : (M : ℕ → ℕ → ℤ) (r : ℕ) (columns : List ℕ) → map (signed_entry M (plain r)) (map plain columns) ≡ map (M r) columns
plain_row M r [] = refl
plain_row M r (c ∷ cs) = ap₂ (λ (z : ℤ) (zs : List ℤ). z ∷ zs) (ones (M r c)) (plain_row M r cs)

plain_rows : (M : ℕ → ℕ → ℤ) (rows columns : List ℕ) → map (λ row. map (signed_entry M row) (map plain columns)) (map plain rows) ≡ map (λ row. map (M row) columns) rows
plain_rows M [] columns = refl
plain_rows M (r ∷ rs) columns = ap₂ (λ (x : List ℤ) (xs : List (List ℤ)). x ∷ xs) (plain_row M r columns) (plain_rows M rs columns)

pub plain_submatrix : (m : Matrix) (rows columns : List ℕ) → signed_submatrix m (map plain rows) (map plain columns) ≡ submatrix m rows columns
plain_submatrix m rows columns = ap₂ (λ (rs : List (List ℤ)) (w : ℕ). record { rows = rs; width = w }) (plain_rows (entry m) rows columns) (length-map columns plain)

pub plain_before : (xs ys : List ℕ) → map plain xs ++ map plain ys ≡ map plain (xs ++ ys)
plain_before [] ys = refl
plain_before (x ∷ xs) ys = ap (λ zs. plain x ∷ zs) (plain_before xs ys)
