-- Rows and columns without one line.
use Rattle.std.proofs.Common.{◌≡◌, ◌<◌, ◌≤◌, ◌+◌, ◌⊎◌, inl, inr, ℕ, zero, suc, List, [], ◌∷◌, ◌++◌, map, length, get_or, refl, ap, sym, subst, arith}
use Rattle.std.specs.List.{range_with_len}
use Rattle.std.specs.List.Sorted.{IsStrictlyIncreasing}
use Rattle.std.proofs.lemmas.Bool.{cases_eq}
use Rattle.std.proofs.lemmas.List.FromFn.{length-range_with_len, get_or-range_with_len}
use Rattle.cmr_base.specs.declared.line.Line.{Line}
use Rattle.cmr_base.specs.declared.line.Line.TheVariants.{Row, Column}
use Rattle.cmr_base.specs.Matrix.{Matrix, height}
use Rattle.cmr_base.specs.LineSets.{IsRowSet, IsColumnSet, first_lines}
use Rattle.cmr_base.specs.Reductions.{HasLine, rows_without, columns_without, lines_of}
use Rattle.cmr_base.specs.Members.{IsIn}
use Rattle.cmr_base.proofs.Members.{IsWithin}
use Rattle.cmr_base.proofs.ListsWithout.{in_from_contains, contains_from_in, in-get_or, without_in, within-without, without-within, without_increases, without_shorter}

pub rows_increase : (line : Line) (rows : List ℕ) → IsStrictlyIncreasing rows → IsStrictlyIncreasing (rows_without rows line)
rows_increase (Row i) rows h = without_increases i rows h
rows_increase (Column j) rows h = h

pub columns_increase : (line : Line) (columns : List ℕ) → IsStrictlyIncreasing columns → IsStrictlyIncreasing (columns_without columns line)
columns_increase (Row i) columns h = h
columns_increase (Column j) columns h = without_increases j columns h

pub rows_within : (line : Line) (rows : List ℕ) → IsWithin (rows_without rows line) rows
rows_within (Row i) rows x h = within-without i rows x h
rows_within (Column j) rows x h = h

pub columns_within : (line : Line) (columns : List ℕ) → IsWithin (columns_without columns line) columns
columns_within (Row i) columns x h = h
columns_within (Column j) columns x h = within-without j columns x h

pub rows_without-within : (line : Line) (A R : List ℕ) → IsWithin A R → IsWithin (rows_without A line) (rows_without R line)
rows_without-within (Row i) A R h = without-within i A R h
rows_without-within (Column j) A R h = h

pub columns_without-within : (line : Line) (B C : List ℕ) → IsWithin B C → IsWithin (columns_without B line) (columns_without C line)
columns_without-within (Row i) B C h = h
columns_without-within (Column j) B C h = without-within j B C h

pub has_line-within : (line : Line) (R C A B : List ℕ) → IsWithin A R → IsWithin B C → HasLine A B line → HasLine R C line
has_line-within (Row i) R C A B a b h = contains_from_in R i (a i (in_from_contains A i h))
has_line-within (Column j) R C A B a b h = contains_from_in C j (b j (in_from_contains B j h))

-- a removed line is not in the remaining lists
pub line_gone : (line : Line) (A B R C : List ℕ) → IsWithin A (rows_without R line) → IsWithin B (columns_without C line) → HasLine A B line → ⊥
line_gone (Row i) A B R C a b h = (without_in i i R (a i (in_from_contains A i h))).1 refl
line_gone (Column j) A B R C a b h = (without_in j j C (b j (in_from_contains B j h))).1 refl

pub fewer_lines : (line : Line) (R C : List ℕ) → HasLine R C line → length (rows_without R line) + length (columns_without C line) < length R + length C
fewer_lines (Row i) R C h = let s = without_shorter i R (in_from_contains R i h) in omega (arith, s)
fewer_lines (Column j) R C h = let s = without_shorter j C (in_from_contains C j h) in omega (arith, s)

-- ---- lists of lines

abbrev pub IsAmong : Line → List Line → Type 0
IsAmong line [] = ⊥
IsAmong line (x ∷ xs) = (line ≡ x) ⊎ IsAmong line xs

row_among : (i : ℕ) (R : List ℕ) (lines : List Line) → IsIn i R → IsAmong (Row i) (map Row R ++ lines)
row_among i [] lines h = absurd h
row_among i (x ∷ R) lines (inl e) = inl (ap Row e)
row_among i (x ∷ R) lines (inr h) = inr (row_among i R lines h)

column_among : (j : ℕ) (R C : List ℕ) → IsIn j C → IsAmong (Column j) (map Row R ++ map Column C)
column_among j [] [] h = absurd h
column_among j [] (y ∷ C) (inl e) = inl (ap Column e)
column_among j [] (y ∷ C) (inr h) = inr (column_among j [] C h)
column_among j (x ∷ R) C h = inr (column_among j R C h)

pub among_from_has_line : (line : Line) (R C : List ℕ) → HasLine R C line → IsAmong line (lines_of R C)
among_from_has_line (Row i) R C h = row_among i R (map Column C) (in_from_contains R i h)
among_from_has_line (Column j) R C h = column_among j R C (in_from_contains C j h)

column_there : (line : Line) (R C' C : List ℕ) → IsWithin C' C → IsAmong line (map Column C') → HasLine R C line
column_there line R [] C w h = absurd h
column_there line R (y ∷ C') C w (inl e) = subst (λ (x : Line). HasLine R C x) (sym e) (contains_from_in C y (w y (inl refl)))
column_there line R (y ∷ C') C w (inr h) = column_there line R C' C (λ x g. w x (inr g)) h

line_there : (line : Line) (R' R C : List ℕ) → IsWithin R' R → IsAmong line (map Row R' ++ map Column C) → HasLine R C line
line_there line [] R C w h = column_there line R C C (λ x g. g) h
line_there line (x ∷ R') R C w (inl e) = subst (λ (y : Line). HasLine R C y) (sym e) (contains_from_in R x (w x (inl refl)))
line_there line (x ∷ R') R C w (inr h) = line_there line R' R C (λ y g. w y (inr g)) h

pub has_line_from_among : (line : Line) (R C : List ℕ) → IsAmong line (lines_of R C) → HasLine R C line
has_line_from_among line R C h = line_there line R R C (λ x g. g) h

-- ---- all lines

pub first_lines_increase : (count : ℕ) → IsStrictlyIncreasing (first_lines count)
first_lines_increase count k h =
    let long = length-range_with_len 0 count in
    let inside : k + 1 < count = omega (arith, long) in
    let here : k < count = omega (arith, long) in
    omega (arith, get_or-range_with_len 0 count k 0 here, get_or-range_with_len 0 count (k + 1) 0 inside)

range_below : (from count x : ℕ) → IsIn x (range_with_len from count) → x < from + count
range_below from zero x h = absurd h
range_below from (suc count) x (inl e) = omega (arith, e)
range_below from (suc count) x (inr h) = let l = range_below (from + 1) count x h in omega (arith, l)

below_range : (from count x : ℕ) → from ≤ x → x < from + count → IsIn x (range_with_len from count)
below_range from zero x low high = absurd (omega arith)
below_range from (suc count) x low high = elim (first from x low) [ inl e ↦ inl e | inr later ↦ inr (below_range (from + 1) count x later (omega arith)) ]
  where
    first : (a b : ℕ) → a ≤ b → (b ≡ a) ⊎ (a + 1 ≤ b)
    first a b h = elim (cases_eq b a) [ inl e ↦ inl e | inr d ↦ inr (omega arith) ]

pub in_first_lines : (count x : ℕ) → x < count → IsIn x (first_lines count)
in_first_lines count x h = below_range 0 count x (omega arith) (omega arith)

pub first_lines_in : (count x : ℕ) → IsIn x (first_lines count) → x < count
first_lines_in count x h = let l = range_below 0 count x h in omega (arith, l)

below_from_within : (count : ℕ) (lines : List ℕ) → IsWithin lines (first_lines count) → (k : ℕ) → k < length lines → get_or lines k 0 < count
below_from_within count lines w k h = first_lines_in count (get_or lines k 0) (w (get_or lines k 0) (in-get_or lines k h))

pub row_set_from_within : (m : Matrix) (rows : List ℕ) → IsStrictlyIncreasing rows → IsWithin rows (first_lines (height m)) → IsRowSet m rows
row_set_from_within m rows increases w = record { increasing = increases; in_range = below_from_within (height m) rows w }

pub column_set_from_within : (m : Matrix) (columns : List ℕ) → IsStrictlyIncreasing columns → IsWithin columns (first_lines m.width) → IsColumnSet m columns
column_set_from_within m columns increases w = record { increasing = increases; in_range = below_from_within m.width columns w }
