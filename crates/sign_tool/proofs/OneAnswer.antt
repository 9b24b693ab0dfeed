-- A run on a set of rows has one answer: its steps, its signs and the lines of its violator.
use Rattle.std.proofs.Common.{◌≡◌, ◌<◌, ◌∙◌, inl, inr, ℕ, ℤ, pos, ◌*ℤ◌, neg_ℤ, Option, Some, None, List, [], ◌∷◌, length, get_or, map, refl, ap, ap₂, sym, subst, arith}
use Rattle.std.specs.Prelude.{◌↔◌, ◌==◌, if◌then◌else◌}
use Rattle.std.specs.List.{AllByRecursion}
use Rattle.std.proofs.lemmas.Bool.{cases_eq}
use Rattle.cmr_base.specs.Matrix.{Matrix, entry, IsEntry}
use Rattle.cmr_base.specs.Members.{IsIn}
use Rattle.cmr_base.specs.Sums.{sum_over, IsOdd}
use Rattle.cmr_base.proofs.Lists.{all_at, all_both, all-one_more}
use Rattle.cmr_base.proofs.Members.{all_in, all_of_members, in_at}
use Rattle.cmr_base.proofs.Places.{increasing_same}
use Rattle.cmr_base.proofs.SumLaws.{sum_over_same}
use Rattle.cmr_base.proofs.Booleans.{neither}
use Rattle.ghouila.specs.declared.by_pivots.Pivot.{Pivot}
use Rattle.cmr_base.specs.PlacedPivots.{reduced}
use Rattle.ghouila.specs.Pivot.{IsFirstTwoEntry}
use Rattle.ghouila.specs.SignRuns.{IsPivotNext, IsPutAside, IsPivotMade, IsFirstSquare, IsPulledBack, pivot_sign, SignsBySteps, ViolatesBySteps}
use Rattle.ghouila.proofs.PivotSearch.{pivot_there}
use Rattle.sign_tool.specs.declared.signing.SetSigning.{SetSigning}
use Rattle.sign_tool.specs.declared.signing.SetSigning.TheVariants.{Signed, Violated}
use Rattle.sign_tool.specs.SetSignings.{SignsSetOrViolates, IsEndOfRun}
use Rattle.sign_tool.proofs.OneRun.{AreSame, AreOneNext, same_self, same_back, next_same, one_next, aside_or_next, no_pivot_same, inside_too, row_same, left_same, reduced_same, after_same, made_or_two, none_next, signs_or_violates}
use Rattle.sign_tool.proofs.StepRows.{in_left, in_rows, one_more_next}

abbrev step_at : ℕ → Option ℕ → Pivot
step_at row column = record { row = row; column = column }

-- a row that is put aside is the first row
first_is : (rows : List ℕ) (row row' : ℕ) (left left' : List ℕ) → rows ≡ row ∷ left → rows ≡ row' ∷ left' → (row' ≡ row) × (left' ≡ left)
first_is rows row row' left left' e f = let g : row' ∷ left' ≡ row ∷ left = sym f ∙ e in (cc, cc)

-- a run on no rows makes no step
no_rows : (rows : List ℕ) (row : ℕ) (left : List ℕ) → rows ≡ [] → rows ≡ row ∷ left → ⊥
no_rows rows row left none e = let f = ap length (sym none ∙ e) in omega arith

no_pivot_left : (m : Matrix) (rows : List ℕ) (row column : ℕ) (left : List ℕ) → rows ≡ [] → IsPivotNext m rows row column left → ⊥
no_pivot_left m rows row column left none next = none_next m row column left (subst (λ r. IsPivotNext m r row column left) none next)

same_left : (rows left : List ℕ) (row : ℕ) (m m' : Matrix) → rows ≡ row ∷ left → AreSame rows m m' → AreSame left m m'
same_left rows left row m m' are same = record { width = same.width; entries = (subst (AllByRecursion (λ i. (j : ℕ) → j < m.width → entry m' i j ≡ entry m i j)) are same.entries).1 }

pivot_steps : (row row' column column' : ℕ) (steps steps' : List Pivot) → row' ≡ row → column' ≡ column → steps' ≡ steps → step_at row' (Some column') ∷ steps' ≡ step_at row (Some column) ∷ steps
pivot_steps row row' column column' steps steps' e f g = rw (e, f, g) refl

-- a pivot is next in one matrix, so no row is put aside in the other matrix
next_or_aside : (rows : List ℕ) (m m' : Matrix) (row row' column : ℕ) (left left' : List ℕ) → AreSame rows m m' → IsPivotNext m rows row column left → IsPutAside m' rows row' left' → ⊥
next_or_aside rows m m' row row' column left left' same next aside =
    pivot_there m rows next.place column next.first.pivot (no_pivot_same rows m m' same column next.first.pivot.column_in (aside.no_pivot column (subst (λ n. column < n) (sym same.width) next.first.pivot.column_in)))

-- the matrices after a pivot that is next in both matrices
module _ (rows : List ℕ) (m m' after after' : Matrix) (row row' column column' : ℕ) (left left' : List ℕ) (same : AreSame rows m m') (next : IsPivotNext m rows row column left) (next' : IsPivotNext m' rows row' column' left') where
  next_is : AreOneNext row row' column column' left left'
  next_is = one_next m rows row column row' column' left left' next (next_same rows m m' same row' column' left' next')

  same_after : IsPivotMade m after row column left → IsPivotMade m' after' row' column' left' → AreSame left after after'
  same_after made made' = after_same rows m m' same row column left next after after' made
      (subst (λ l. IsPivotMade m' after' row column l) next_is.one_left
      (subst (λ c. IsPivotMade m' after' row c left') next_is.one_column
      (subst (λ r. IsPivotMade m' after' r column' left') next_is.one_row made')))

-- ---- signs

record AreOneSigning (rows : List ℕ) (steps steps' : List Pivot) (sign sign' : ℕ → ℤ) : Type 0 where
  steps_are : steps' ≡ steps
  signs_are : AllByRecursion (λ row. sign' row ≡ sign row) rows

abbrev SignsOnce : List Pivot → Type 0
SignsOnce steps = (sign sign' : ℕ → ℤ) (rows : List ℕ) (m m' : Matrix) (steps' : List Pivot) → AreSame rows m m' → SignsBySteps m rows steps sign → SignsBySteps m' rows steps' sign' → AreOneSigning rows steps steps' sign sign'

signed_last : SignsOnce []
signed_last sign sign' rows m m' [] same none none' = record { steps_are = refl; signs_are = subst (AllByRecursion (λ row. sign' row ≡ sign row)) (sym none) tt }
signed_last sign sign' rows m m' (step ∷ steps') same none run' = absurd (first step.row step.column run')
  where
    first : (row : ℕ) (column : Option ℕ) → SignsBySteps m' rows (step_at row column ∷ steps') sign' → ⊥
    first row None (left, (aside, one, rest)) = no_rows rows row left none aside.rows_are
    first row (Some column) (left, (next, value, rest)) = no_pivot_left m' rows row column left none next

signed_aside : (steps : List Pivot) → SignsOnce steps → (sign sign' : ℕ → ℤ) (rows : List ℕ) (m m' : Matrix) (row : ℕ) (left : List ℕ) (steps' : List Pivot) → AreSame rows m m'
    → IsPutAside m rows row left → sign row ≡ pos 1 → SignsBySteps m left steps sign → SignsBySteps m' rows steps' sign' → AreOneSigning rows (step_at row None ∷ steps) steps' sign sign'
signed_aside steps once sign sign' rows m m' row left [] same aside one run none = absurd (no_rows rows row left none aside.rows_are)
signed_aside steps once sign sign' rows m m' row left (step ∷ steps') same aside one run run' = first step.row step.column run'
  where
    first : (row' : ℕ) (column' : Option ℕ) → SignsBySteps m' rows (step_at row' column' ∷ steps') sign' → AreOneSigning rows (step_at row None ∷ steps) (step_at row' column' ∷ steps') sign sign'
    first row' None (left', (aside', one', rest')) =
        let are = first_is rows row row' left left' aside.rows_are aside'.rows_are in
        let there = once sign sign' left m m' steps' (same_left rows left row m m' aside.rows_are same) run (subst (λ l. SignsBySteps m' l steps' sign') are.1 rest') in
        record {
          steps_are = ap₂ (λ (r : ℕ) (ss : List Pivot). step_at r None ∷ ss) are.0 there.steps_are;
          signs_are = subst (AllByRecursion (λ r. sign' r ≡ sign r)) (sym aside.rows_are) (ap sign' (sym are.0) ∙ one' ∙ sym one, there.signs_are);
        }
    first row' (Some column') (left', (next', value', rest')) = absurd (aside_or_next m rows row row' column' left left' aside (next_same rows m m' same row' column' left' next'))

module _ (rows : List ℕ) (m m' : Matrix) (same : AreSame rows m m') (row column : ℕ) (left : List ℕ) (next : IsPivotNext m rows row column left) (sign sign' : ℕ → ℤ) (signs : AllByRecursion (λ r. sign' r ≡ sign r) left) where
  inside : column < m.width
  inside = next.first.pivot.column_in

  pivot_sign_same : pivot_sign m' row column left sign' ≡ pivot_sign m row column left sign
  pivot_sign_same = ap₂ (λ (a b : ℤ). neg_ℤ (a *ℤ b)) (row_same rows m m' same row column left next column inside)
      (sum_over_same left (λ i. sign' i *ℤ entry m' i column) (λ i. sign i *ℤ entry m i column)
      (all_both (λ r. sign' r ≡ sign r) (λ i. (j : ℕ) → j < m.width → entry m' i j ≡ entry m i j) (λ i. sign' i *ℤ entry m' i column ≡ sign i *ℤ entry m i column)
      (λ i s e. ap₂ (λ (a b : ℤ). a *ℤ b) s (e column inside)) left signs (left_same rows m m' same row column left next)))

signed_pivot : (steps : List Pivot) → SignsOnce steps → (sign sign' : ℕ → ℤ) (rows : List ℕ) (m m' after : Matrix) (row column : ℕ) (left : List ℕ) (steps' : List Pivot) → AreSame rows m m'
    → IsPivotNext m rows row column left → sign row ≡ pivot_sign m row column left sign → IsPivotMade m after row column left → SignsBySteps after left steps sign → SignsBySteps m' rows steps' sign'
    → AreOneSigning rows (step_at row (Some column) ∷ steps) steps' sign sign'
signed_pivot steps once sign sign' rows m m' after row column left [] same next value made run none = absurd (no_pivot_left m rows row column left none next)
signed_pivot steps once sign sign' rows m m' after row column left (step ∷ steps') same next value made run run' = first step.row step.column run'
  where
    first : (row' : ℕ) (column' : Option ℕ) → SignsBySteps m' rows (step_at row' column' ∷ steps') sign'
        → AreOneSigning rows (step_at row (Some column) ∷ steps) (step_at row' column' ∷ steps') sign sign'
    first row' None (left', (aside', one', rest')) = absurd (next_or_aside rows m m' row row' column left left' same next aside')
    first row' (Some column') (left', (next', value', (after', made', rest'))) =
        let are = next_is rows m m' after after' row row' column column' left left' same next next' in
        let there = once sign sign' left after after' steps' (same_after rows m m' after after' row row' column column' left left' same next next' made made') run (subst (λ l. SignsBySteps after' l steps' sign') are.one_left rest') in
        let moved : sign' row ≡ pivot_sign m' row column left sign' =
        subst (λ l. sign' row ≡ pivot_sign m' row column l sign') are.one_left
        (subst (λ c. sign' row ≡ pivot_sign m' row c left' sign') are.one_column
        (subst (λ r. sign' r ≡ pivot_sign m' r column' left' sign') are.one_row value')) in
        record {
          steps_are = pivot_steps row row' column column' steps steps' are.one_row are.one_column there.steps_are;
          signs_are = all-one_more (λ r. sign' r ≡ sign r) row left rows (one_more_next m rows row column left next)
              (moved ∙ pivot_sign_same rows m m' same row column left next sign sign' there.signs_are ∙ sym value) there.signs_are;
        }

signed_first : (steps : List Pivot) → SignsOnce steps → (row : ℕ) (column : Option ℕ) → SignsOnce (step_at row column ∷ steps)
signed_first steps once row None sign sign' rows m m' steps' same (left, (aside, one, rest)) run' = signed_aside steps once sign sign' rows m m' row left steps' same aside one rest run'
signed_first steps once row (Some column) sign sign' rows m m' steps' same (left, (next, value, (after, made, rest))) run' = signed_pivot steps once sign sign' rows m m' after row column left steps' same next value made rest run'

signed_once : (steps : List Pivot) → SignsOnce steps
signed_once [] = signed_last
signed_once (step ∷ steps) = signed_first steps (signed_once steps) step.row step.column

-- ---- the lines of a violator

-- the lines are among these rows and the matrix's columns
record AreAmong (m : Matrix) (rows violator_rows violator_columns : List ℕ) : Type 0 where
  rows_in : (i : ℕ) → IsIn i violator_rows → IsIn i rows
  columns_in : (j : ℕ) → IsIn j violator_columns → j < m.width

among_square : (m : Matrix) (rows violator_rows violator_columns : List ℕ) → IsFirstSquare m rows violator_rows violator_columns → AreAmong m rows violator_rows violator_columns
among_square m rows violator_rows violator_columns square = record {
  rows_in = λ i h. row_in i ((square.rows_are i).0 h);
  columns_in = λ j h. column_in j ((square.columns_are j).0 h);
}
  where
    row_in : (i : ℕ) → IsIn i (square.row ∷ get_or square.left square.place 0 ∷ []) → IsIn i rows
    row_in i (inl e) = subst (λ r. IsIn r rows) (sym e) (in_rows rows square.left square.row (one_more_next m rows square.row square.column square.left square.next))
    row_in i (inr (inl e)) = subst (λ r. IsIn r rows) (sym e) (in_left rows square.left square.row (get_or square.left square.place 0) (one_more_next m rows square.row square.column square.left square.next) (in_at square.left square.place square.two.within))
    row_in i (inr (inr none)) = absurd none

    column_in : (j : ℕ) → IsIn j (square.column ∷ square.last ∷ []) → j < m.width
    column_in j (inl e) = subst (λ c. c < m.width) (sym e) square.next.first.pivot.column_in
    column_in j (inr (inl e)) = subst (λ c. c < m.width) (sym e) square.two.column_in
    column_in j (inr (inr none)) = absurd none

among_first : (steps : List Pivot)
    → ((m : Matrix) (rows violator_rows violator_columns : List ℕ) → ViolatesBySteps m rows steps violator_rows violator_columns → AreAmong m rows violator_rows violator_columns)
    → (row : ℕ) (column : Option ℕ) (m : Matrix) (rows violator_rows violator_columns : List ℕ)
    → ViolatesBySteps m rows (step_at row column ∷ steps) violator_rows violator_columns → AreAmong m rows violator_rows violator_columns
among_first steps others row None m rows violator_rows violator_columns (left, (aside, rest)) =
    let among = others m left violator_rows violator_columns rest in
    record { rows_in = λ i h. subst (IsIn i) (sym aside.rows_are) (inr (among.rows_in i h)); columns_in = among.columns_in }
among_first steps others row (Some column) m rows violator_rows violator_columns (left, (next, (after, made, (after_rows, after_columns, rest, back)))) =
    let among = others after left after_rows after_columns rest in
    let more = one_more_next m rows row column left next in
    record {
      rows_in = λ i h. elim (cases_eq i row) [
        | inl e ↦ subst (λ r. IsIn r rows) (sym e) (in_rows rows left row more)
        | inr apart ↦ in_left rows left row i more (among.rows_in i ((back.other_rows i apart).0 h))
      ];
      columns_in = λ j h. elim (cases_eq j column) [
        | inl e ↦ subst (λ c. c < m.width) (sym e) next.first.pivot.column_in
        | inr apart ↦ subst (λ n. j < n) made.same_width (among.columns_in j ((back.other_columns j apart).0 h))
      ];
    }

among : (steps : List Pivot) (m : Matrix) (rows violator_rows violator_columns : List ℕ) → ViolatesBySteps m rows steps violator_rows violator_columns → AreAmong m rows violator_rows violator_columns
among [] = among_square
among (step ∷ steps) = among_first steps (among steps) step.row step.column

record AreOneViolator (steps steps' : List Pivot) (rows columns rows' columns' : List ℕ) : Type 0 where
  steps_are : steps' ≡ steps
  rows_are : (i : ℕ) → IsIn i rows' ↔ IsIn i rows
  columns_are : (j : ℕ) → IsIn j columns' ↔ IsIn j columns

both : {A B X : Type 0} → (A ↔ X) → (B ↔ X) → A ↔ B
both f g = (λ a. g.1 (f.0 a), λ b. f.1 (g.0 b))

-- the position of the first 2 or -2 of a pivot is unique
module _ (rows : List ℕ) (m m' : Matrix) (same : AreSame rows m m') (row column : ℕ) (left : List ℕ) (next : IsPivotNext m rows row column left) (place last place' last' : ℕ) (two : IsFirstTwoEntry m left row column place last) (two' : IsFirstTwoEntry m' left row column place' last') where
  left_at : (k : ℕ) → k < length left → (j : ℕ) → j < m.width → reduced (entry m') row column (get_or left k 0) j ≡ reduced (entry m) row column (get_or left k 0) j
  left_at k h = reduced_same rows m m' same row column left next (get_or left k 0) (all_at (λ i. (j : ℕ) → j < m.width → entry m' i j ≡ entry m i j) left k 0 (left_same rows m m' same row column left next) h)

  last_in : last' < m.width
  last_in = inside_too rows m m' same last' two'.column_in

  one_place : place ≡ place'
  one_place = neither place place'
      (λ h. two.two (subst IsEntry (left_at place two.within last two.column_in) (two'.first_row place h last (subst (λ n. last < n) (sym same.width) two.column_in))))
      (λ h. two'.two (subst IsEntry (sym (left_at place' two'.within last' last_in)) (two.first_row place' h last' last_in)))

  one_last : last ≡ last'
  one_last = neither last last'
      (λ h. two.two (subst IsEntry (left_at place two.within last two.column_in) (subst (λ k. IsEntry (reduced (entry m') row column (get_or left k 0) last)) (sym one_place) (two'.first_column last h))))
      (λ h. two'.two (subst IsEntry (sym (left_at place' two'.within last' last_in)) (subst (λ k. IsEntry (reduced (entry m) row column (get_or left k 0) last')) one_place (two.first_column last' h))))

square_once : (rows : List ℕ) (m m' : Matrix) (violator_rows violator_columns violator_rows' violator_columns' : List ℕ) → AreSame rows m m'
    → IsFirstSquare m rows violator_rows violator_columns → IsFirstSquare m' rows violator_rows' violator_columns'
    → AreOneViolator [] [] violator_rows violator_columns violator_rows' violator_columns'
square_once rows m m' violator_rows violator_columns violator_rows' violator_columns' same s s' =
    let are = next_is rows m m' m m' s.row s'.row s.column s'.column s.left s'.left same s.next s'.next in
    let two : IsFirstTwoEntry m' s.left s.row s.column s'.place s'.last =
    subst (λ l. IsFirstTwoEntry m' l s.row s.column s'.place s'.last) are.one_left
    (subst (λ c. IsFirstTwoEntry m' s'.left s.row c s'.place s'.last) are.one_column
    (subst (λ r. IsFirstTwoEntry m' s'.left r s'.column s'.place s'.last) are.one_row s'.two)) in
    let place = one_place rows m m' same s.row s.column s.left s.next s.place s.last s'.place s'.last s.two two in
    let last = one_last rows m m' same s.row s.column s.left s.next s.place s.last s'.place s'.last s.two two in
    record {
      steps_are = refl;
      rows_are = λ i. both (subst (λ xs. IsIn i violator_rows' ↔ IsIn i xs) (ap₂ (λ (a b : ℕ). a ∷ b ∷ []) are.one_row (ap₂ (λ (l : List ℕ) (k : ℕ). get_or l k 0) are.one_left (sym place))) (s'.rows_are i)) (s.rows_are i);
      columns_are = λ j. both (subst (λ xs. IsIn j violator_columns' ↔ IsIn j xs) (ap₂ (λ (a b : ℕ). a ∷ b ∷ []) are.one_column (sym last)) (s'.columns_are j)) (s.columns_are j);
    }

-- violators on one set of lines after a pivot are mapped back to violators on one set of lines
module _ (rows : List ℕ) (m m' after : Matrix) (same : AreSame rows m m') (row column : ℕ) (left : List ℕ) (next : IsPivotNext m rows row column left) (same_width : after.width ≡ m.width)
    (after_rows after_columns violator_rows violator_columns violator_rows' violator_columns' : List ℕ) (lines : AreAmong after left after_rows after_columns)
    (back : IsPulledBack m row column after_rows after_columns violator_rows violator_columns) (back' : IsPulledBack m' row column after_rows after_columns violator_rows' violator_columns') where
  row_sum_same : sum_over after_columns (λ j. if j == column then pos 1 else entry m' row j) ≡ sum_over after_columns (λ j. if j == column then pos 1 else entry m row j)
  row_sum_same = sum_over_same after_columns (λ j. if j == column then pos 1 else entry m' row j) (λ j. if j == column then pos 1 else entry m row j)
      (all_of_members (λ j. (if j == column then pos 1 else entry m' row j) ≡ (if j == column then pos 1 else entry m row j)) after_columns
      (λ j h. ap (λ (z : ℤ). if j == column then pos 1 else z) (row_same rows m m' same row column left next j (subst (λ n. j < n) same_width (lines.columns_in j h)))))

  column_sum_same : sum_over after_rows (λ i. entry m' i column) ≡ sum_over after_rows (λ i. entry m i column)
  column_sum_same = sum_over_same after_rows (λ i. entry m' i column) (λ i. entry m i column)
      (all_of_members (λ i. entry m' i column ≡ entry m i column) after_rows
      (λ i h. all_in (λ i. (j : ℕ) → j < m.width → entry m' i j ≡ entry m i j) left (left_same rows m m' same row column left next) i (lines.rows_in i h) column next.first.pivot.column_in))

  rows_back : (i : ℕ) → IsIn i violator_rows' ↔ IsIn i violator_rows
  rows_back i = elim (cases_eq i row) [
    | inl e ↦ subst (λ r. IsIn r violator_rows' ↔ IsIn r violator_rows) (sym e) (both (subst (λ (z : ℤ). IsIn row violator_rows' ↔ IsOdd z) column_sum_same back'.row_there) back.row_there)
    | inr apart ↦ both (back'.other_rows i apart) (back.other_rows i apart)
  ]

  columns_back : (j : ℕ) → IsIn j violator_columns' ↔ IsIn j violator_columns
  columns_back j = elim (cases_eq j column) [
    | inl e ↦ subst (λ c. IsIn c violator_columns' ↔ IsIn c violator_columns) (sym e) (both (subst (λ (z : ℤ). IsIn column violator_columns' ↔ IsOdd z) row_sum_same back'.column_there) back.column_there)
    | inr apart ↦ both (back'.other_columns j apart) (back.other_columns j apart)
  ]

abbrev ViolatesOnce : List Pivot → Type 0
ViolatesOnce steps = (rows : List ℕ) (m m' : Matrix) (steps' : List Pivot) (violator_rows violator_columns violator_rows' violator_columns' : List ℕ) → AreSame rows m m'
    → ViolatesBySteps m rows steps violator_rows violator_columns → ViolatesBySteps m' rows steps' violator_rows' violator_columns'
    → AreOneViolator steps steps' violator_rows violator_columns violator_rows' violator_columns'

-- a pivot that is not made in one matrix is not made in the other matrix
square_or_step : (rows : List ℕ) (m m' : Matrix) (row : ℕ) (column : Option ℕ) (steps : List Pivot) (violator_rows violator_columns violator_rows' violator_columns' : List ℕ) → AreSame rows m m'
    → IsFirstSquare m' rows violator_rows' violator_columns' → ViolatesBySteps m rows (step_at row column ∷ steps) violator_rows violator_columns → ⊥
square_or_step rows m m' row None steps violator_rows violator_columns violator_rows' violator_columns' same s (left, (aside, rest)) =
    aside_or_next m rows row s.row s.column left s.left aside (next_same rows m m' same s.row s.column s.left s.next)
square_or_step rows m m' row (Some column) steps violator_rows violator_columns violator_rows' violator_columns' same s (left, (next, (after, made, rest))) =
    let are = next_is rows m m' m m' row s.row column s.column left s.left same next s.next in
    made_or_two rows m m' same row column left next after s.place s.last made
    (subst (λ l. IsFirstTwoEntry m' l row column s.place s.last) are.one_left
    (subst (λ c. IsFirstTwoEntry m' s.left row c s.place s.last) are.one_column
    (subst (λ r. IsFirstTwoEntry m' s.left r s.column s.place s.last) are.one_row s.two)))

violated_last : ViolatesOnce []
violated_last rows m m' [] violator_rows violator_columns violator_rows' violator_columns' same s s' = square_once rows m m' violator_rows violator_columns violator_rows' violator_columns' same s s'
violated_last rows m m' (step ∷ steps') violator_rows violator_columns violator_rows' violator_columns' same s run' =
    absurd (square_or_step rows m' m step.row step.column steps' violator_rows' violator_columns' violator_rows violator_columns (same_back rows m m' same) s run')

violated_aside : (steps : List Pivot) → ViolatesOnce steps
    → (rows : List ℕ) (m m' : Matrix) (row : ℕ) (left : List ℕ) (steps' : List Pivot) (violator_rows violator_columns violator_rows' violator_columns' : List ℕ)
    → AreSame rows m m'
    → IsPutAside m rows row left → ViolatesBySteps m left steps violator_rows violator_columns → ViolatesBySteps m' rows steps' violator_rows' violator_columns'
    → AreOneViolator (step_at row None ∷ steps) steps' violator_rows violator_columns violator_rows' violator_columns'
violated_aside steps once rows m m' row left [] violator_rows violator_columns violator_rows' violator_columns' same aside run s' =
    absurd (square_or_step rows m m' row None steps violator_rows violator_columns violator_rows' violator_columns' same s' (left, (aside, run)))
violated_aside steps once rows m m' row left (step ∷ steps') violator_rows violator_columns violator_rows' violator_columns' same aside run run' = first step.row step.column run'
  where
    first : (row' : ℕ) (column' : Option ℕ) → ViolatesBySteps m' rows (step_at row' column' ∷ steps') violator_rows' violator_columns'
        → AreOneViolator (step_at row None ∷ steps) (step_at row' column' ∷ steps') violator_rows violator_columns violator_rows' violator_columns'
    first row' None (left', (aside', rest')) =
        let are = first_is rows row row' left left' aside.rows_are aside'.rows_are in
        let there = once left m m' steps' violator_rows violator_columns violator_rows' violator_columns' (same_left rows left row m m' aside.rows_are same) run (subst (λ l. ViolatesBySteps m' l steps' violator_rows' violator_columns') are.1 rest') in
        record { steps_are = ap₂ (λ (r : ℕ) (ss : List Pivot). step_at r None ∷ ss) are.0 there.steps_are; rows_are = there.rows_are; columns_are = there.columns_are }
    first row' (Some column') (left', (next', rest')) = absurd (aside_or_next m rows row row' column' left left' aside (next_same rows m m' same row' column' left' next'))

violated_pivot : (steps : List Pivot) → ViolatesOnce steps
    → (rows : List ℕ) (m m' after : Matrix) (row column : ℕ) (left : List ℕ) (steps' : List Pivot) (after_rows after_columns violator_rows violator_columns violator_rows' violator_columns' : List ℕ)
    → AreSame rows m m'
    → IsPivotNext m rows row column left → IsPivotMade m after row column left → ViolatesBySteps after left steps after_rows after_columns
    → IsPulledBack m row column after_rows after_columns violator_rows violator_columns
    → ViolatesBySteps m' rows steps' violator_rows' violator_columns' → AreOneViolator (step_at row (Some column) ∷ steps) steps' violator_rows violator_columns violator_rows' violator_columns'
violated_pivot steps once rows m m' after row column left [] after_rows after_columns violator_rows violator_columns violator_rows' violator_columns' same next made run back s' =
    absurd (square_or_step rows m m' row (Some column) steps violator_rows violator_columns violator_rows' violator_columns' same s' (left, (next, (after, made, (after_rows, after_columns, run, back)))))
violated_pivot steps once rows m m' after row column left (step ∷ steps') after_rows after_columns violator_rows violator_columns violator_rows' violator_columns' same next made run back run' = first step.row step.column run'
  where
    first : (row' : ℕ) (column' : Option ℕ) → ViolatesBySteps m' rows (step_at row' column' ∷ steps') violator_rows' violator_columns'
        → AreOneViolator (step_at row (Some column) ∷ steps) (step_at row' column' ∷ steps') violator_rows violator_columns violator_rows' violator_columns'
    first row' None (left', (aside', rest')) = absurd (next_or_aside rows m m' row row' column left left' same next aside')
    first row' (Some column') (left', (next', (after', made', (after_rows', after_columns', rest', back')))) =
        let are = next_is rows m m' after after' row row' column column' left left' same next next' in
        let there = once left after after' steps' after_rows after_columns after_rows' after_columns' (same_after rows m m' after after' row row' column column' left left' same next next' made made') run
        (subst (λ l. ViolatesBySteps after' l steps' after_rows' after_columns') are.one_left rest') in
        let rows_one : after_rows' ≡ after_rows = increasing_same after_rows' after_rows back'.row_set back.row_set (λ i. (there.rows_are i).0) (λ i. (there.rows_are i).1) in
        let columns_one : after_columns' ≡ after_columns = increasing_same after_columns' after_columns back'.column_set back.column_set (λ j. (there.columns_are j).0) (λ j. (there.columns_are j).1) in
        let moved : IsPulledBack m' row column after_rows after_columns violator_rows' violator_columns' =
        subst (λ xs. IsPulledBack m' row column after_rows xs violator_rows' violator_columns') columns_one
        (subst (λ xs. IsPulledBack m' row column xs after_columns' violator_rows' violator_columns') rows_one
        (subst (λ c. IsPulledBack m' row c after_rows' after_columns' violator_rows' violator_columns') are.one_column
        (subst (λ r. IsPulledBack m' r column' after_rows' after_columns' violator_rows' violator_columns') are.one_row back'))) in
        let lines = among steps after left after_rows after_columns run in
        record {
          steps_are = pivot_steps row row' column column' steps steps' are.one_row are.one_column there.steps_are;
          rows_are = rows_back rows m m' after same row column left next made.same_width after_rows after_columns violator_rows violator_columns violator_rows' violator_columns' lines back moved;
          columns_are = columns_back rows m m' after same row column left next made.same_width after_rows after_columns violator_rows violator_columns violator_rows' violator_columns' lines back moved;
        }

violated_first : (steps : List Pivot) → ViolatesOnce steps → (row : ℕ) (column : Option ℕ) → ViolatesOnce (step_at row column ∷ steps)
violated_first steps once row None rows m m' steps' violator_rows violator_columns violator_rows' violator_columns' same (left, (aside, rest)) run' =
    violated_aside steps once rows m m' row left steps' violator_rows violator_columns violator_rows' violator_columns' same aside rest run'
violated_first steps once row (Some column) rows m m' steps' violator_rows violator_columns violator_rows' violator_columns' same (left, (next, (after, made, (after_rows, after_columns, rest, back)))) run' =
    violated_pivot steps once rows m m' after row column left steps' after_rows after_columns violator_rows violator_columns violator_rows' violator_columns' same next made rest back run'

violated_once : (steps : List Pivot) → ViolatesOnce steps
violated_once [] = violated_last
violated_once (step ∷ steps) = violated_first steps (violated_once steps) step.row step.column

-- ---- the answer

signs_same : (rows : List ℕ) (sign sign' : ℕ → ℤ) → AllByRecursion (λ row. sign' row ≡ sign row) rows → map sign' rows ≡ map sign rows
signs_same [] sign sign' same = refl
signs_same (row ∷ rows) sign sign' same = ap₂ (λ (z : ℤ) (zs : List ℤ). z ∷ zs) same.0 (signs_same rows sign sign' same.1)

pub answers_are_one : (m : Matrix) (rows : List ℕ) (a b : SetSigning) → SignsSetOrViolates m rows a → SignsSetOrViolates m rows b → IsEndOfRun m rows a → IsEndOfRun m rows b → a ≡ b
answers_are_one m rows (Signed signs steps) (Signed signs' steps') right right' (sign, signs_are, run) (sign', signs_are', run') =
    let there = signed_once steps sign sign' rows m m steps' (same_self rows m) run run' in
    sym (ap₂ (λ (zs : List ℤ) (ss : List Pivot). Signed zs ss) (signs_are' ∙ signs_same rows sign sign' there.signs_are ∙ sym signs_are) there.steps_are)
answers_are_one m rows (Signed signs steps) (Violated lines) right right' (sign, signs_are, run) (steps', run') = absurd (signs_or_violates m rows steps steps' sign lines.rows lines.columns run run')
answers_are_one m rows (Violated lines) (Signed signs steps) right right' (steps', run') (sign, signs_are, run) = absurd (signs_or_violates m rows steps steps' sign lines.rows lines.columns run run')
answers_are_one m rows (Violated lines) (Violated lines') right right' (steps, run) (steps', run') =
    let there = violated_once steps rows m m steps' lines.rows lines.columns lines'.rows lines'.columns (same_self rows m) run run' in
    let rows_one : lines'.rows ≡ lines.rows = increasing_same lines'.rows lines.rows right'.row_set.increasing right.row_set.increasing (λ i. (there.rows_are i).0) (λ i. (there.rows_are i).1) in
    let columns_one : lines'.columns ≡ lines.columns = increasing_same lines'.columns lines.columns right'.column_set.increasing right.column_set.increasing (λ j. (there.columns_are j).0) (λ j. (there.columns_are j).1) in
    sym (ap₂ (λ (rs cs : List ℕ). Violated (record { rows = rs; columns = cs })) rows_one columns_one)
