-- The values in runs of nonzeros, and one more nonzero of a matrix that is transposed.
use Rattle.std.proofs.Common.{◌≡◌, ◌≢◌, ◌<◌, ◌≤◌, ◌+◌, ◌++◌, take, to_z, of_z, w8, ◌∙◌, inl, inr, ℕ, zero, suc, ℤ, pos, negsuc, Bool, true, false, nat_eq, if◌then◌else◌, List, [], ◌∷◌, length, get_or, set, refl, ap, ap₂, sym, subst, arith}
use Rattle.std.proofs.lemmas.List.{get_or-set_same, get_or-set_other, length-set, take_more}
use Rattle.std.specs.List.{AllByRecursion}
use Rattle.cmr_base.specs.Matrix.{is_nonzero}
use Rattle.cmr_base.specs.Signing.{IsSign}
use Rattle.cmr_base.proofs.Booleans.{two_cases, eq_of, eq_test, is_ne, ne_of}
use Rattle.cmr_base.proofs.Lists.{all_at, all-append, all-take, all_weaker}
use Rattle.cmr_base.proofs.SignEntries.{sign_is_nonzero, sign_nonzero}
use Rattle.sparse_matrix.specs.declared.nonzero.Nonzero.{Nonzero}
use Rattle.sparse_matrix.specs.declared.nonzero.TheConstants.{MAX_SPARSE_LINES}
use Rattle.sparse_matrix.specs.SparseRows.{SparseRows, AreInDistinctLines, run_of, value_in, sparse_entry, IsNonzeroWithin, AreSparseRows, with_nonzero}
use Rattle.sparse_matrix.proofs.MarkedLines.{no_nonzero}
use Rattle.sparse_matrix.specs.PartTransposed.{IsTransposedTo}

abbrev pub AreSigns : List Nonzero → Type 0
AreSigns run = AllByRecursion (λ x. IsSign x.value) run

pub signs_within : (width : ℕ) (run : List Nonzero) → AllByRecursion (IsNonzeroWithin width) run → AreSigns run
signs_within width run all = all_weaker (IsNonzeroWithin width) (λ x. IsSign x.value) (λ x h. h.sign) run all

-- the first, and if it is 0 the second
abbrev pub first_nonzero : ℤ → ℤ → ℤ
first_nonzero a b = if is_nonzero a then a else b

pub first_nonzero_zero : (a : ℤ) → first_nonzero a (pos 0) ≡ a
first_nonzero_zero (pos zero) = refl
first_nonzero_zero (pos (suc n)) = refl
first_nonzero_zero (negsuc n) = refl

-- one more nonzero at the end of a run
pub value_in-more : (run : List Nonzero) (x : Nonzero) (column : ℕ) → AreSigns run → value_in (run ++ x ∷ []) column ≡ first_nonzero (value_in run column) (value_in (x ∷ []) column)
value_in-more [] x column signs = refl
value_in-more (y ∷ run) x column signs =
    ap (λ (z : ℤ). if nat_eq y.line column then y.value else z) (value_in-more run x column signs.1)
    ∙ step (nat_eq y.line column) y.value (value_in run column) (value_in (x ∷ []) column) signs.0
  where
    step : (b : Bool) (v p q : ℤ) → IsSign v → (if b then v else first_nonzero p q) ≡ first_nonzero (if b then v else p) q
    step true v p q s = sym (ap (λ (t : Bool). if t then v else q) (sign_is_nonzero v s))
    step false v p q s = refl

-- the value of one nonzero
pub value_same : (x : Nonzero) (column : ℕ) → x.line ≡ column → value_in (x ∷ []) column ≡ x.value
value_same x column e = ap (λ (b : Bool). if b then x.value else pos 0) ((eq_test x.line column).1 e)

pub value_other : (x : Nonzero) (column : ℕ) → x.line ≢ column → value_in (x ∷ []) column ≡ pos 0
value_other x column n = ap (λ (b : Bool). if b then x.value else pos 0) (is_ne x.line column n)

-- ---- distinct lines

-- a nonzero in a line without a value
pub distinct_more : (run : List Nonzero) (x : Nonzero) → AreSigns run → AreInDistinctLines run → value_in run x.line ≡ pos 0 → AreInDistinctLines (run ++ x ∷ [])
distinct_more [] x signs distinct e = (tt, tt)
distinct_more (y ∷ run) x signs distinct e = elim (two_cases (nat_eq y.line x.line)) [
  | inl h ↦ absurd (sign_nonzero y.value signs.0 (sym (ap (λ (b : Bool). if b then y.value else value_in run x.line) h) ∙ e))
  | inr h ↦ (
    all-append (λ z. y.line ≢ z.line) run (x ∷ []) distinct.0 (ne_of y.line x.line h, tt),
    distinct_more run x signs.1 distinct.1 (sym (ap (λ (b : Bool). if b then y.value else value_in run x.line) h) ∙ e),
  )
]

all_distinct_more : (runs : List (List Nonzero)) (row width : ℕ) (x : Nonzero) → AllByRecursion (AllByRecursion (IsNonzeroWithin width)) runs → AllByRecursion AreInDistinctLines runs
    → value_in (get_or runs row []) x.line ≡ pos 0 → AllByRecursion AreInDistinctLines (set runs row (get_or runs row [] ++ x ∷ []))
all_distinct_more [] row width x within distinct e = tt
all_distinct_more (run ∷ runs) zero width x within distinct e = (distinct_more run x (signs_within width run within.0) distinct.0 e, distinct.1)
all_distinct_more (run ∷ runs) (suc row) width x within distinct e = (distinct.0, all_distinct_more runs row width x within.1 distinct.1 e)

all_within_more : (P : List Nonzero → Type 0) (runs : List (List Nonzero)) (row : ℕ) (run : List Nonzero) → AllByRecursion P runs → P run → AllByRecursion P (set runs row run)
all_within_more P [] row run all h = tt
all_within_more P (r ∷ runs) zero run all h = (h, all.1)
all_within_more P (r ∷ runs) (suc row) run all h = (all.0, all_within_more P runs row run all.1 h)

-- a nonzero is written where the entry is 0
pub pushed_shape : (m : SparseRows) (row : ℕ) (x : Nonzero) → AreSparseRows m → row < length m.runs → x.line < m.width → IsSign x.value → sparse_entry m row x.line ≡ pos 0
    → AreSparseRows (with_nonzero m row x)
pushed_shape m row x shape inside within sign e = record {
  rows_in = subst (λ (n : ℕ). n ≤ MAX_SPARSE_LINES) (sym (length-set m.runs row (run_of m row ++ x ∷ []))) shape.rows_in;
  columns_in = shape.columns_in;
  runs_in = all_within_more (AllByRecursion (IsNonzeroWithin m.width)) m.runs row (run_of m row ++ x ∷ []) shape.runs_in
      (all-append (IsNonzeroWithin m.width) (run_of m row) (x ∷ []) (all_at (AllByRecursion (IsNonzeroWithin m.width)) m.runs row [] shape.runs_in inside) (record { inside = within; sign = sign }, tt));
  distinct = all_distinct_more m.runs row m.width x shape.runs_in shape.distinct e;
}

-- a nonzero of a run is in none of the lines before
pub free_line : (run : List Nonzero) (k : ℕ) (d : Nonzero) → k < length run → AreInDistinctLines run → value_in (take k run) (get_or run k d).line ≡ pos 0
free_line [] k d l distinct = absurd (omega arith)
free_line (x ∷ run) zero d l distinct = refl
free_line (x ∷ run) (suc k) d l distinct =
    ap (λ (b : Bool). if b then x.value else value_in (take k run) (get_or run k d).line)
    (is_ne x.line (get_or run k d).line (all_at (λ y. x.line ≢ y.line) run k d distinct.0 (omega (arith, l))))
    ∙ free_line run k d (omega (arith, l)) distinct.1

-- ---- one more nonzero of a matrix that is transposed

module _ (t : SparseRows) (row : ℕ) (run : List Nonzero) (x : Nonzero) (shape : AreSparseRows t) (inside : x.line < length t.runs) (signs : AreSigns run)
    (here : (column : ℕ) → sparse_entry t column row ≡ value_in run column) where
  abbrev pub crossing : Nonzero
  crossing = record { line = row; value = x.value }

  -- the entry in the column of x
  entry_there : (other : ℕ) → sparse_entry (with_nonzero t x.line crossing) x.line other ≡ first_nonzero (sparse_entry t x.line other) (value_in (crossing ∷ []) other)
  entry_there other =
      ap (λ (r : List Nonzero). value_in r other) (get_or-set_same t.runs x.line (run_of t x.line ++ crossing ∷ []) [] inside)
      ∙ value_in-more (run_of t x.line) crossing other (signs_within t.width (run_of t x.line) (all_at _ t.runs x.line [] shape.runs_in inside))

  entry_elsewhere : (column other : ℕ) → column ≢ x.line → sparse_entry (with_nonzero t x.line crossing) column other ≡ sparse_entry t column other
  entry_elsewhere column other n = ap (λ (r : List Nonzero). value_in r other) (get_or-set_other t.runs x.line column (run_of t x.line ++ crossing ∷ []) [] n)

  -- an entry of another row stays
  pub entry_stays : (column other : ℕ) → row ≢ other → sparse_entry (with_nonzero t x.line crossing) column other ≡ sparse_entry t column other
  entry_stays column other n = elim (two_cases (nat_eq column x.line)) [
    | inl e ↦ subst (λ (c : ℕ). sparse_entry (with_nonzero t x.line crossing) c other ≡ sparse_entry t c other) (sym (eq_of column x.line e))
        (entry_there other ∙ ap (λ (z : ℤ). first_nonzero (sparse_entry t x.line other) z) (value_other crossing other n) ∙ first_nonzero_zero (sparse_entry t x.line other))
    | inr f ↦ entry_elsewhere column other (ne_of column x.line f)
  ]

  pub entry_here : (column : ℕ) → sparse_entry (with_nonzero t x.line crossing) column row ≡ value_in (run ++ x ∷ []) column
  entry_here column = elim (two_cases (nat_eq column x.line)) [
    | inl e ↦ subst (λ (c : ℕ). sparse_entry (with_nonzero t x.line crossing) c row ≡ value_in (run ++ x ∷ []) c) (sym (eq_of column x.line e))
        (entry_there row ∙ ap₂ first_nonzero (here x.line) (value_same crossing row refl ∙ sym (value_same x x.line refl)) ∙ sym (value_in-more run x x.line signs))
    | inr f ↦ entry_elsewhere column row (ne_of column x.line f) ∙ here column
        ∙ sym (value_in-more run x column signs ∙ ap (λ (z : ℤ). first_nonzero (value_in run column) z) (value_other x column (λ e. ne_of column x.line f (sym e))) ∙ first_nonzero_zero (value_in run column))
  ]

module _ (m t : SparseRows) (row : ℕ) (run : List Nonzero) (x : Nonzero) (shape : AreSparseRows t) (inside : x.line < length t.runs) (signs : AreSigns run) (is : IsTransposedTo m row run t) where
  pub transposed_more : IsTransposedTo m row (run ++ x ∷ []) (with_nonzero t x.line (record { line = row; value = x.value }))
  transposed_more = record {
    rows = length-set t.runs x.line (run_of t x.line ++ record { line = row; value = x.value } ∷ []) ∙ is.rows;
    columns = is.columns;
    before = λ column other l. entry_stays t row run x shape inside signs is.here column other (omega (arith, l)) ∙ is.before column other l;
    here = entry_here t row run x shape inside signs is.here;
    after = λ column other l. entry_stays t row run x shape inside signs is.here column other (omega (arith, l)) ∙ is.after column other l;
  }

-- ---- a row that is written as a column

pub byte_sign : (z : ℤ) → IsSign z → to_z w8 (of_z w8 z) ≡ z
byte_sign z (inl e) = rw e refl
byte_sign z (inr e) = rw e refl

abbrev pub IsWritten : SparseRows → ℕ → List Nonzero → SparseRows → Type 0
IsWritten old row run t =
    (length t.runs ≡ length old.runs) × (t.width ≡ old.width) × ((m : SparseRows) → IsTransposedTo m row [] old → IsTransposedTo m row run t)
    × ((column : ℕ) → sparse_entry t column row ≡ value_in run column)

pub written_more : (old t next : SparseRows) (row k : ℕ) (run : List Nonzero) → k < length run → AllByRecursion (IsNonzeroWithin (length old.runs)) run → AreSparseRows t
    → IsWritten old row (take k run) t
    → next ≡ with_nonzero t (get_or run k no_nonzero).line (record { line = row; value = to_z w8 (of_z w8 (get_or run k no_nonzero).value) })
    → IsWritten old row (take (k + 1) run) next
written_more old t next row k run l within shape written e =
    let nonzero : Nonzero = get_or run k no_nonzero in
    let at : IsNonzeroWithin (length old.runs) nonzero = all_at (IsNonzeroWithin (length old.runs)) run k no_nonzero within l in
    let next_is : next ≡ with_nonzero t nonzero.line (record { line = row; value = nonzero.value }) =
    e ∙ ap (λ (z : ℤ). with_nonzero t nonzero.line (record { line = row; value = z })) (byte_sign nonzero.value at.sign) in
    subst (λ (n : SparseRows). IsWritten old row (take (k + 1) run) n) (sym next_is) (
      length-set t.runs nonzero.line (run_of t nonzero.line ++ record { line = row; value = nonzero.value } ∷ []) ∙ written.0,
      written.1,
      λ m is. subst (λ (r : List Nonzero). IsTransposedTo m row r (with_nonzero t nonzero.line (record { line = row; value = nonzero.value }))) (sym (take_more run k no_nonzero l))
          (transposed_more m t row (take k run) nonzero shape (subst (λ (n : ℕ). nonzero.line < n) (sym written.0) at.inside)
          (signs_within (length old.runs) (take k run) (all-take (IsNonzeroWithin (length old.runs)) k run within)) (written.2 m is)),
      λ column. subst (λ (r : List Nonzero). sparse_entry (with_nonzero t nonzero.line (record { line = row; value = nonzero.value })) column row ≡ value_in r column)
          (sym (take_more run k no_nonzero l))
          (entry_here t row (take k run) nonzero shape (subst (λ (n : ℕ). nonzero.line < n) (sym written.0) at.inside)
          (signs_within (length old.runs) (take k run) (all-take (IsNonzeroWithin (length old.runs)) k run within)) written.3 column),
    )
