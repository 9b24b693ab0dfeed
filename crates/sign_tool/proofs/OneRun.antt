-- A run on a set of rows has one end: signs and a violator exclude each other.
use Rattle.std.proofs.Common.{◌≡◌, ◌<◌, ◌∙◌, inl, inr, ℕ, ℤ, pos, ◌*ℤ◌, neg_ℤ, cond, nat_eq, Option, Some, None, List, [], ◌∷◌, length, get_or, refl, ap, ap₂, sym, subst, arith}
use Rattle.std.specs.List.{AllByRecursion, remove}
use Rattle.cmr_base.specs.Matrix.{Matrix, entry, IsEntry}
use Rattle.cmr_base.specs.Signing.{IsSign}
use Rattle.cmr_base.specs.Sums.{sum_over, IsEven, IsOdd}
use Rattle.cmr_base.proofs.Lists.{all_at, all_both, all_weaker, all_without}
use Rattle.cmr_base.proofs.SignEntries.{sign_nonzero}
use Rattle.cmr_base.proofs.SumLaws.{sum_over_same}
use Rattle.cmr_base.proofs.Booleans.{neither}
use Rattle.ghouila.specs.declared.by_pivots.Pivot.{Pivot}
use Rattle.cmr_base.specs.PlacedPivots.{reduced, pivoted}
use Rattle.ghouila.specs.Pivot.{HasNoPivot, IsTernaryRow, IsFirstPivot, IsFirstTwoEntry}
use Rattle.ghouila.specs.SignRuns.{IsPivotNext, IsPutAside, IsPivotMade, SignsBySteps, ViolatesBySteps}
use Rattle.ghouila.proofs.LeftRows.{one_more-remove}
use Rattle.ghouila.proofs.PivotSearch.{pivot_there}

-- two matrices of one width are equal in these rows
pub record AreSame (rows : List ℕ) (m m' : Matrix) : Type 0 where
  pub width : m'.width ≡ m.width
  pub entries : AllByRecursion (λ i. (j : ℕ) → j < m.width → entry m' i j ≡ entry m i j) rows

pub same_self : (rows : List ℕ) (m : Matrix) → AreSame rows m m
same_self rows m = record { width = refl; entries = each rows }
  where
    each : (rows : List ℕ) → AllByRecursion (λ i. (j : ℕ) → j < m.width → entry m i j ≡ entry m i j) rows
    each [] = tt
    each (row ∷ rows) = (λ j h. refl, each rows)

pub same_back : (rows : List ℕ) (m m' : Matrix) → AreSame rows m m' → AreSame rows m' m
same_back rows m m' same = record {
  width = sym same.width;
  entries = all_weaker (λ i. (j : ℕ) → j < m.width → entry m' i j ≡ entry m i j) (λ i. (j : ℕ) → j < m'.width → entry m i j ≡ entry m' i j) (λ i e j h. sym (e j (subst (λ n. j < n) same.width h))) rows same.entries;
}

-- ---- the next step

module _ (rows : List ℕ) (m m' : Matrix) (same : AreSame rows m m') where
  at : (place column : ℕ) → place < length rows → column < m.width → entry m' (get_or rows place 0) column ≡ entry m (get_or rows place 0) column
  at place column within inside = all_at (λ i. (j : ℕ) → j < m.width → entry m' i j ≡ entry m i j) rows place 0 same.entries within column inside

  in_column : (column : ℕ) → column < m.width → AllByRecursion (λ i. entry m' i column ≡ entry m i column) rows
  in_column column inside = all_weaker (λ i. (j : ℕ) → j < m.width → entry m' i j ≡ entry m i j) (λ i. entry m' i column ≡ entry m i column) (λ i e. e column inside) rows same.entries

  sum_same : (column : ℕ) → column < m.width → sum_over rows (λ i. entry m' i column) ≡ sum_over rows (λ i. entry m i column)
  sum_same column inside = sum_over_same rows (λ i. entry m' i column) (λ i. entry m i column) (in_column column inside)

  pub no_pivot_same : (column : ℕ) → column < m.width → HasNoPivot m' rows column → HasNoPivot m rows column
  no_pivot_same column inside (inl zeros) =
      inl (all_both (λ i. entry m' i column ≡ entry m i column) (λ i. entry m' i column ≡ pos 0) (λ i. entry m i column ≡ pos 0) (λ i e z. sym e ∙ z) rows (in_column column inside) zeros)
  no_pivot_same column inside (inr odd) = inr (subst IsOdd (sum_same column inside) odd)

  pub inside_too : (column : ℕ) → column < m'.width → column < m.width
  inside_too column h = subst (λ n. column < n) same.width h

  -- a pivot of one matrix is a pivot of the other matrix
  pivot_same : (place column : ℕ) → IsFirstPivot m' rows place column → IsFirstPivot m rows place column
  pivot_same place column is =
      let inside = inside_too column is.pivot.column_in in
      record {
        pivot = record {
          within = is.pivot.within;
          column_in = inside;
          nonzero = subst IsSign (at place column is.pivot.within inside) is.pivot.nonzero;
          even = subst IsEven (sum_same column inside) is.pivot.even;
        };
        first_column = λ j h. no_pivot_same j (before j h inside) (is.first_column j h);
        first_row = λ k h. sym (at k column (before k h is.pivot.within) inside) ∙ is.first_row k h;
      }
    where
      before : (a : ℕ) {b c : ℕ} → a < b → b < c → a < c
      before a f g = omega arith

  pub next_same : (row column : ℕ) (left : List ℕ) → IsPivotNext m' rows row column left → IsPivotNext m rows row column left
  next_same row column left next = record { place = next.place; first = pivot_same next.place column next.first; row_is = next.row_is; left_is = next.left_is }

-- the next pivot is unique
one_column : (m : Matrix) (rows : List ℕ) (place column place' column' : ℕ) → IsFirstPivot m rows place column → IsFirstPivot m rows place' column' → column ≡ column'
one_column m rows place column place' column' f g = neither column column'
    (λ h. pivot_there m rows place column f.pivot (g.first_column column h))
    (λ h. pivot_there m rows place' column' g.pivot (f.first_column column' h))

one_place : (m : Matrix) (rows : List ℕ) (place column place' : ℕ) → IsFirstPivot m rows place column → IsFirstPivot m rows place' column → place ≡ place'
one_place m rows place column place' f g = neither place place'
    (λ h. sign_nonzero (entry m (get_or rows place 0) column) f.pivot.nonzero (g.first_row place h))
    (λ h. sign_nonzero (entry m (get_or rows place' 0) column) g.pivot.nonzero (f.first_row place' h))

pub record AreOneNext (row row' column column' : ℕ) (left left' : List ℕ) : Type 0 where
  pub one_row : row' ≡ row
  pub one_column : column' ≡ column
  pub one_left : left' ≡ left

pub one_next : (m : Matrix) (rows : List ℕ) (row column row' column' : ℕ) (left left' : List ℕ) → IsPivotNext m rows row column left
    → IsPivotNext m rows row' column' left' → AreOneNext row row' column column' left left'
one_next m rows row column row' column' left left' f g =
    let columns : column' ≡ column = sym (one_column m rows f.place column g.place column' f.first g.first) in
    let places : g.place ≡ f.place = sym (one_place m rows f.place column g.place f.first (subst (IsFirstPivot m rows g.place) columns g.first)) in
    record {
      one_row = g.row_is ∙ ap (λ place. get_or rows place 0) places ∙ sym f.row_is;
      one_column = columns;
      one_left = g.left_is ∙ ap (remove rows) places ∙ sym f.left_is;
    }

-- a row is put aside only if no pivot is next
pub aside_or_next : (m : Matrix) (rows : List ℕ) (row row' column : ℕ) (left left' : List ℕ) → IsPutAside m rows row left → IsPivotNext m rows row' column left' → ⊥
aside_or_next m rows row row' column left left' aside next = pivot_there m rows next.place column next.first.pivot (aside.no_pivot column next.first.pivot.column_in)

-- ---- the matrix after a pivot

module _ (rows : List ℕ) (m m' : Matrix) (same : AreSame rows m m') (row column : ℕ) (left : List ℕ) (next : IsPivotNext m rows row column left) where
  pub row_same : (j : ℕ) → j < m.width → entry m' row j ≡ entry m row j
  row_same j inside = subst (λ i. entry m' i j ≡ entry m i j) (sym next.row_is) (at rows m m' same next.place j next.first.pivot.within inside)

  pub left_same : AllByRecursion (λ i. (j : ℕ) → j < m.width → entry m' i j ≡ entry m i j) left
  left_same = subst (AllByRecursion (λ i. (j : ℕ) → j < m.width → entry m' i j ≡ entry m i j)) (sym next.left_is)
      (all_without (λ i. (j : ℕ) → j < m.width → entry m' i j ≡ entry m i j) (get_or rows next.place 0) (remove rows next.place) rows (one_more-remove rows next.place next.first.pivot.within) same.entries)

  pub reduced_same : (i : ℕ) → ((j : ℕ) → j < m.width → entry m' i j ≡ entry m i j) → (j : ℕ) → j < m.width → reduced (entry m') row column i j ≡ reduced (entry m) row column i j
  reduced_same i e j inside = rw (e j inside, row_same column next.first.pivot.column_in, e column next.first.pivot.column_in, row_same j inside) refl

  pivoted_same : (i : ℕ) → ((j : ℕ) → j < m.width → entry m' i j ≡ entry m i j) → (j : ℕ) → j < m.width → pivoted (entry m') row column i j ≡ pivoted (entry m) row column i j
  pivoted_same i e j inside = ap₂ (cond (nat_eq j column)) (ap₂ (λ (a b : ℤ). neg_ℤ (a *ℤ b)) (row_same column next.first.pivot.column_in) (e column next.first.pivot.column_in)) (reduced_same i e j inside)

  pub after_same : (after after' : Matrix) → IsPivotMade m after row column left → IsPivotMade m' after' row column left → AreSame left after after'
  after_same after after' made made' = record {
    width = made'.same_width ∙ same.width ∙ sym made.same_width;
    entries = all_both (λ i. (j : ℕ) → j < m.width → entry m' i j ≡ entry m i j)
        (λ i. ((j : ℕ) → j < m.width → entry after i j ≡ pivoted (entry m) row column i j) × ((j : ℕ) → j < m'.width → entry after' i j ≡ pivoted (entry m') row column i j))
        (λ i. (j : ℕ) → j < after.width → entry after' i j ≡ entry after i j)
        (λ i e both j inside.
        let here : j < m.width = subst (λ n. j < n) made.same_width inside in
        both.1 j (subst (λ n. j < n) (sym same.width) here) ∙ pivoted_same i e j here ∙ sym (both.0 j here))
        left left_same
        (all_both (λ i. (j : ℕ) → j < m.width → entry after i j ≡ pivoted (entry m) row column i j) (λ i. (j : ℕ) → j < m'.width → entry after' i j ≡ pivoted (entry m') row column i j)
        (λ i. ((j : ℕ) → j < m.width → entry after i j ≡ pivoted (entry m) row column i j) × ((j : ℕ) → j < m'.width → entry after' i j ≡ pivoted (entry m') row column i j))
        (λ i a b. (a, b)) left made.made made'.made);
  }

  -- a pivot that gives a 2 or a -2 is not made
  pub made_or_two : (after : Matrix) (place last : ℕ) → IsPivotMade m after row column left → IsFirstTwoEntry m' left row column place last → ⊥
  made_or_two after place last made two =
      let inside = inside_too rows m m' same last two.column_in in
      let is = all_at (λ i. (j : ℕ) → j < m.width → entry m' i j ≡ entry m i j) left place 0 left_same two.within in
      two.two (subst IsEntry (sym (reduced_same (get_or left place 0) is last inside)) (all_at (λ i. IsTernaryRow m.width (reduced (entry m) row column i)) left place 0 made.small two.within last inside))

-- ---- the ends exclude each other

pub none_next : (m : Matrix) (row column : ℕ) (left : List ℕ) → IsPivotNext m [] row column left → ⊥
none_next m row column left next = let h = next.first.pivot.within in omega arith

abbrev Excludes : List Pivot → Type 0
Excludes steps = (sign : ℕ → ℤ) (rows : List ℕ) (m m' : Matrix) (steps' : List Pivot) (violator_rows violator_columns : List ℕ) → AreSame rows m m' → SignsBySteps m rows steps sign → ViolatesBySteps m' rows steps' violator_rows violator_columns → ⊥

without_rows : (m' : Matrix) (steps' : List Pivot) (violator_rows violator_columns : List ℕ) → ViolatesBySteps m' [] steps' violator_rows violator_columns → ⊥
without_rows m' [] violator_rows violator_columns square = none_next m' square.row square.column square.left square.next
without_rows m' (step ∷ steps') violator_rows violator_columns run = first step.row step.column run
  where
    first : (row : ℕ) (column : Option ℕ) → ViolatesBySteps m' [] (record { row = row; column = column } ∷ steps') violator_rows violator_columns → ⊥
    first row None (left, (aside, rest)) = let e = ap length aside.rows_are in omega arith
    first row (Some column) (left, (next, rest)) = none_next m' row column left next

-- after a row that is put aside
after_aside : (steps : List Pivot) → Excludes steps
    → (sign : ℕ → ℤ) (rows : List ℕ) (m m' : Matrix) (row : ℕ) (left : List ℕ) (steps' : List Pivot) (violator_rows violator_columns : List ℕ)
    → AreSame rows m m'
    → IsPutAside m rows row left → SignsBySteps m left steps sign → ViolatesBySteps m' rows steps' violator_rows violator_columns → ⊥
after_aside steps excludes sign rows m m' row left [] violator_rows violator_columns same aside run square =
    aside_or_next m rows row square.row square.column left square.left aside (next_same rows m m' same square.row square.column square.left square.next)
after_aside steps excludes sign rows m m' row left (step ∷ steps') violator_rows violator_columns same aside run run' = first step.row step.column run'
  where
    left_is : (row' : ℕ) (left' : List ℕ) → rows ≡ row' ∷ left' → left' ≡ left
    left_is row' left' e = let f : row' ∷ left' ≡ row ∷ left = sym e ∙ aside.rows_are in cc

    left_same : AreSame left m m'
    left_same = record { width = same.width; entries = (subst (AllByRecursion (λ i. (j : ℕ) → j < m.width → entry m' i j ≡ entry m i j)) aside.rows_are same.entries).1 }

    first : (row' : ℕ) (column' : Option ℕ) → ViolatesBySteps m' rows (record { row = row'; column = column' } ∷ steps') violator_rows violator_columns → ⊥
    first row' None (left', (aside', rest)) =
        excludes sign left m m' steps' violator_rows violator_columns left_same run (subst (λ l. ViolatesBySteps m' l steps' violator_rows violator_columns) (left_is row' left' aside'.rows_are) rest)
    first row' (Some column') (left', (next', rest)) = aside_or_next m rows row row' column' left left' aside (next_same rows m m' same row' column' left' next')

-- after a pivot
after_pivot : (steps : List Pivot) → Excludes steps
    → (sign : ℕ → ℤ) (rows : List ℕ) (m m' after : Matrix) (row column : ℕ) (left : List ℕ) (steps' : List Pivot) (violator_rows violator_columns : List ℕ)
    → AreSame rows m m'
    → IsPivotNext m rows row column left → IsPivotMade m after row column left → SignsBySteps after left steps sign → ViolatesBySteps m' rows steps' violator_rows violator_columns → ⊥
after_pivot steps excludes sign rows m m' after row column left [] violator_rows violator_columns same next made run square =
    let one = one_next m rows row column square.row square.column left square.left next (next_same rows m m' same square.row square.column square.left square.next) in
    made_or_two rows m m' same row column left next after square.place square.last made
    (subst (λ l. IsFirstTwoEntry m' l row column square.place square.last) one.one_left
    (subst (λ c. IsFirstTwoEntry m' square.left row c square.place square.last) one.one_column
    (subst (λ r. IsFirstTwoEntry m' square.left r square.column square.place square.last) one.one_row square.two)))
after_pivot steps excludes sign rows m m' after row column left (step ∷ steps') violator_rows violator_columns same next made run run' = first step.row step.column run'
  where
    first : (row' : ℕ) (column' : Option ℕ) → ViolatesBySteps m' rows (record { row = row'; column = column' } ∷ steps') violator_rows violator_columns → ⊥
    first row' None (left', (aside', rest)) = pivot_there m rows next.place column next.first.pivot (no_pivot_same rows m m' same column next.first.pivot.column_in (aside'.no_pivot column (subst (λ n. column < n) (sym same.width) next.first.pivot.column_in)))
    first row' (Some column') (left', (next', (after', made', (after_rows, after_columns, rest, back)))) =
        let one = one_next m rows row column row' column' left left' next (next_same rows m m' same row' column' left' next') in
        let moved : IsPivotMade m' after' row column left =
        subst (λ l. IsPivotMade m' after' row column l) one.one_left
        (subst (λ c. IsPivotMade m' after' row c left') one.one_column
        (subst (λ r. IsPivotMade m' after' r column' left') one.one_row made')) in
        excludes sign left after after' steps' after_rows after_columns (after_same rows m m' same row column left next after after' made moved) run
        (subst (λ l. ViolatesBySteps after' l steps' after_rows after_columns) one.one_left rest)

excluded_first : (steps : List Pivot) → Excludes steps → (row : ℕ) (column : Option ℕ) → Excludes (record { row = row; column = column } ∷ steps)
excluded_first steps excludes row None sign rows m m' steps' violator_rows violator_columns same (left, (aside, one, rest)) run =
    after_aside steps excludes sign rows m m' row left steps' violator_rows violator_columns same aside rest run
excluded_first steps excludes row (Some column) sign rows m m' steps' violator_rows violator_columns same (left, (next, value, (after, made, rest))) run =
    after_pivot steps excludes sign rows m m' after row column left steps' violator_rows violator_columns same next made rest run

excluded_last : Excludes []
excluded_last sign rows m m' steps' violator_rows violator_columns same none run = without_rows m' steps' violator_rows violator_columns (subst (λ r. ViolatesBySteps m' r steps' violator_rows violator_columns) none run)

excluded : (steps : List Pivot) → Excludes steps
excluded [] = excluded_last
excluded (step ∷ steps) = excluded_first steps (excluded steps) step.row step.column

pub signs_or_violates : (m : Matrix) (rows : List ℕ) (steps steps' : List Pivot) (sign : ℕ → ℤ) (violator_rows violator_columns : List ℕ)
    → SignsBySteps m rows steps sign → ViolatesBySteps m rows steps' violator_rows violator_columns → ⊥
signs_or_violates m rows steps steps' sign violator_rows violator_columns = excluded steps sign rows m m steps' violator_rows violator_columns (same_self rows m)
