-- A run of lines, removed at once or one after another.
use Rattle.std.proofs.Common.{◌≡◌, ◌<◌, ◌≤◌, ◌+◌, ◌-◌, ◌++◌, ◌&&◌, ◌∙◌, ◌⊎◌, inl, inr, ℕ, zero, suc, Bool, true, false, cond, not, eqb, nat_lt, List, [], ◌∷◌, filter, map, refl, ap, ap₂, sym, arith}
use Rattle.std.specs.List.{range_with_len}
use Rattle.std.proofs.lemmas.Bool.{cases_lt}
use Rattle.std.proofs.lemmas.Bool.Decides.{nat_tests}
use Rattle.std.proofs.lemmas.List.{map-append}
use Rattle.cmr_base.specs.declared.line.Line.{Line}
use Rattle.cmr_base.specs.declared.line.Line.TheVariants.{Row, Column}
use Rattle.cmr_base.specs.LineSets.{first_lines, without}
use Rattle.cmr_base.specs.Members.{IsIn}
use Rattle.cmr_base.specs.Reductions.{lines_of}
use Rattle.minimal_sets.specs.LeftOut.{line_numbered, lines_between, rows_left, columns_left, is_outside}

filter-filter : (p q : ℕ → Bool) (xs : List ℕ) → filter p (filter q xs) ≡ filter (λ x. q x && p x) xs
filter-filter p q [] = refl
filter-filter p q (x ∷ xs) = go (q x) (filter-filter p q xs)
  where
    go : (b : Bool) → filter p (filter q xs) ≡ filter (λ x. q x && p x) xs
        → filter p (cond b (x ∷ filter q xs) (filter q xs)) ≡ cond (b && p x) (x ∷ filter (λ x. q x && p x) xs) (filter (λ x. q x && p x) xs)
    go true e = ap (λ (ys : List ℕ). cond (p x) (x ∷ ys) ys) e
    go false e = e

filter_members : (p q : ℕ → Bool) (xs : List ℕ) → ((x : ℕ) → IsIn x xs → p x ≡ q x) → filter p xs ≡ filter q xs
filter_members p q [] same = refl
filter_members p q (x ∷ xs) same = rw (same x (inl refl), filter_members p q xs (λ y h. same y (inr h))) refl

filter_all : (p : ℕ → Bool) (xs : List ℕ) → ((x : ℕ) → p x ≡ true) → filter p xs ≡ xs
filter_all p [] all = refl
filter_all p (x ∷ xs) all = rw (all x, filter_all p xs all) refl

-- a row, or a column, is not among these lines
abbrev pub row_stays : List Line → ℕ → Bool
row_stays [] row = true
row_stays (Row gone ∷ lines) row = not (eqb row gone) && row_stays lines row
row_stays (Column gone ∷ lines) row = row_stays lines row

abbrev pub column_stays : List Line → ℕ → Bool
column_stays [] column = true
column_stays (Row gone ∷ lines) column = column_stays lines column
column_stays (Column gone ∷ lines) column = not (eqb column gone) && column_stays lines column

rows_left_are : (lines : List Line) (rows : List ℕ) → rows_left rows lines ≡ filter (row_stays lines) rows
rows_left_are [] rows = sym (filter_all (λ row. true) rows (λ row. refl))
rows_left_are (Row gone ∷ lines) rows = rows_left_are lines (without rows gone) ∙ filter-filter (row_stays lines) (λ row. not (eqb row gone)) rows
rows_left_are (Column gone ∷ lines) rows = rows_left_are lines rows

columns_left_are : (lines : List Line) (columns : List ℕ) → columns_left columns lines ≡ filter (column_stays lines) columns
columns_left_are [] columns = sym (filter_all (λ column. true) columns (λ column. refl))
columns_left_are (Row gone ∷ lines) columns = columns_left_are lines columns
columns_left_are (Column gone ∷ lines) columns = columns_left_are lines (without columns gone) ∙ filter-filter (column_stays lines) (λ column. not (eqb column gone)) columns

is_row : (height number : ℕ) → number < height → line_numbered height number ≡ Row number
is_row height number l = let t : nat_lt number height ≡ true = grind (arith, nat_tests) in rw t refl

is_column : (height number : ℕ) → height ≤ number → line_numbered height number ≡ Column (number - height)
is_column height number l = let t : nat_lt number height ≡ false = grind (arith, nat_tests) in rw t refl

outside_none : (before from number : ℕ) → is_outside before from 0 number ≡ true
outside_none before from number = grind (arith, nat_tests)

row_outside : (height from count row : ℕ) → row < height → row_stays (lines_between height from count) row ≡ is_outside 0 from count row
row_outside height from zero row l = sym (outside_none 0 from row)
row_outside height from (suc count) row l = go (cases_lt from height) (row_outside height (from + 1) count row l)
  where
    one : (line : Line) → line_numbered height from ≡ line → row_stays (lines_between height from (suc count)) row ≡ row_stays (line ∷ lines_between height (from + 1) count) row
    one line e = ap (λ first. row_stays (first ∷ lines_between height (from + 1) count) row) e

    gone : (not (eqb row from) && is_outside 0 (from + 1) count row) ≡ is_outside 0 from (suc count) row
    gone = grind (arith, nat_tests)

    past : height ≤ from → is_outside 0 (from + 1) count row ≡ is_outside 0 from (suc count) row
    past h = grind (arith, nat_tests)

    go : (from < height) ⊎ (height ≤ from) → row_stays (lines_between height (from + 1) count) row ≡ is_outside 0 (from + 1) count row
        → row_stays (lines_between height from (suc count)) row ≡ is_outside 0 from (suc count) row
    go (inl k) e = one (Row from) (is_row height from k) ∙ ap (λ b. not (eqb row from) && b) e ∙ gone
    go (inr k) e = one (Column (from - height)) (is_column height from k) ∙ e ∙ past k

column_outside : (height from count column : ℕ) → column_stays (lines_between height from count) column ≡ is_outside height from count column
column_outside height from zero column = sym (outside_none height from column)
column_outside height from (suc count) column = go (cases_lt from height) (column_outside height (from + 1) count column)
  where
    one : (line : Line) → line_numbered height from ≡ line → column_stays (lines_between height from (suc count)) column ≡ column_stays (line ∷ lines_between height (from + 1) count) column
    one line e = ap (λ first. column_stays (first ∷ lines_between height (from + 1) count) column) e

    before : from < height → is_outside height (from + 1) count column ≡ is_outside height from (suc count) column
    before h = grind (arith, nat_tests)

    gone : height ≤ from → (not (eqb column (from - height)) && is_outside height (from + 1) count column) ≡ is_outside height from (suc count) column
    gone h = grind (arith, nat_tests)

    go : (from < height) ⊎ (height ≤ from) → column_stays (lines_between height (from + 1) count) column ≡ is_outside height (from + 1) count column
        → column_stays (lines_between height from (suc count)) column ≡ is_outside height from (suc count) column
    go (inl k) e = one (Row from) (is_row height from k) ∙ e ∙ before k
    go (inr k) e = one (Column (from - height)) (is_column height from k) ∙ ap (λ b. not (eqb column (from - height)) && b) e ∙ gone k

pub rows_outside : (height from count : ℕ) (rows : List ℕ) → ((row : ℕ) → IsIn row rows → row < height) → filter (is_outside 0 from count) rows ≡ rows_left rows (lines_between height from count)
rows_outside height from count rows low =
    sym (rows_left_are (lines_between height from count) rows
    ∙ filter_members (row_stays (lines_between height from count)) (is_outside 0 from count) rows (λ row h. row_outside height from count row (low row h)))

pub columns_outside : (height from count : ℕ) (columns : List ℕ) → filter (is_outside height from count) columns ≡ columns_left columns (lines_between height from count)
columns_outside height from count columns =
    sym (columns_left_are (lines_between height from count) columns
    ∙ filter_members (column_stays (lines_between height from count)) (is_outside height from count) columns (λ column h. column_outside height from count column))

-- ---- all lines

range-append : (from count more middle : ℕ) → from + count ≡ middle → range_with_len from (count + more) ≡ range_with_len from count ++ range_with_len middle more
range-append from zero more middle e =
    let none : 0 + more ≡ more = omega arith in
    let start : from ≡ middle = omega (arith, e) in
    rw none (ap (λ (first : ℕ). range_with_len first more) start)
range-append from (suc count) more middle e =
    let one : suc count + more ≡ suc (count + more) = omega arith in
    rw one (ap (λ (xs : List ℕ). from ∷ xs) (range-append (from + 1) count more middle (omega (arith, e))))

pub lines_between-append : (height from count : ℕ) → lines_between height 0 (from + count) ≡ lines_between height 0 from ++ lines_between height from count
lines_between-append height from count =
    ap (map (line_numbered height)) (range-append 0 from count from (omega arith)) ∙ map-append (line_numbered height) (range_with_len 0 from) (range_with_len from count)

row_lines : (height from count : ℕ) → from + count ≤ height → lines_between height from count ≡ map Row (range_with_len from count)
row_lines height from zero l = refl
row_lines height from (suc count) l = ap₂ (λ x xs. x ∷ xs) (is_row height from (omega arith)) (row_lines height (from + 1) count (omega arith))

column_lines : (height from start count : ℕ) → height + start ≡ from → lines_between height from count ≡ map Column (range_with_len start count)
column_lines height from start zero e = refl
column_lines height from start (suc count) e =
    let same : from - height ≡ start = omega (arith, e) in
    ap₂ (λ x xs. x ∷ xs) (is_column height from (omega (arith, e)) ∙ ap Column same) (column_lines height (from + 1) (start + 1) count (omega (arith, e)))

pub all_lines : (height width : ℕ) → lines_between height 0 (height + width) ≡ lines_of (first_lines height) (first_lines width)
all_lines height width = lines_between-append height height width ∙ ap₂ (λ xs ys. xs ++ ys) (row_lines height 0 height (omega arith)) (column_lines height height 0 width (omega arith))
