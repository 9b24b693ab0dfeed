-- The run that signs a set of rows has an end.
use Rattle.std.proofs.Common.{◌≡◌, ◌≢◌, ◌<◌, ◌+ℤ◌, ◌*ℤ◌, neg_ℤ, ◌∙◌, ◌⊎◌, inl, inr, ℕ, zero, suc, ℤ, pos, Bool, true, false, cond, eqb, List, [], ◌∷◌, Contains, Some, None, length, map, get_or, set, replicate, refl, sym, subst, arith}
use Rattle.std.specs.List.{AllByRecursion, remove}
use Rattle.std.proofs.lemmas.List.{get_or-replicate, length-replicate}
use Rattle.std.proofs.lemmas.List.Edits.{length-remove}
use Rattle.std.proofs.lemmas.List.FromFn.{get_or-map-range_with_len, length-map-range_with_len}
use Rattle.cmr_base.specs.Cuts.{bit}
use Rattle.cmr_base.specs.LineSets.{IsRowSet, first_lines}
use Rattle.cmr_base.specs.Matrix.{Matrix, IsEntry, entry, height}
use Rattle.cmr_base.specs.MatrixSums.{filled}
use Rattle.cmr_base.specs.Members.{IsIn}
use Rattle.cmr_base.specs.PlacedPivots.{pivoted, reduced}
use Rattle.cmr_base.specs.Signing.{IsSign}
use Rattle.cmr_base.specs.Sums.{IsEven, IsOdd, sum_over}
use Rattle.cmr_base.proofs.FilledMatrices.{entry-filled, height-filled}
use Rattle.cmr_base.proofs.GrownSets.{int_dec}
use Rattle.cmr_base.proofs.Integers.{sums}
use Rattle.cmr_base.proofs.Lists.{HasOneMore}
use Rattle.cmr_base.proofs.ListsWithout.{contains_from_in, in_from_contains, place_is, place_of}
use Rattle.cmr_base.proofs.Members.{in_at}
use Rattle.cmr_base.proofs.Parity.{even_or_odd}
use Rattle.cmr_base.proofs.SignEntries.{sign_nonzero}
use Rattle.cmr_base.proofs.SmallEntries.{negative_is_entry, product_is_entry, zero_is_entry}
use Rattle.ghouila.specs.declared.by_pivots.Pivot.{Pivot}
use Rattle.ghouila.specs.Found.{HasParity, MarksAgain, MarksViolator, SignsRows, marked}
use Rattle.ghouila.specs.Pivot.{HasNoPivot, HasSquareViolator, IsFirstPivot, IsFirstTwoEntry, IsOutside, IsPivot, IsTernaryRow, PivotsRows}
use Rattle.ghouila.specs.SignRuns.{IsPivotMade, IsPivotNext, SignsBySteps, ViolatesBySteps}
use Rattle.ghouila.proofs.LeftRows.{aside_quiet, one_more-remove, outside-remove, pivot_odd, row_set-remove}
use Rattle.ghouila.proofs.MarkedMembers.{in_two_marks}
use Rattle.ghouila.proofs.MarksBack.{marks_among_more, marks_before_pivot, pulled_back}
use Rattle.ghouila.proofs.RunSteps.{signs_set_aside, signs_set_pivot}
use Rattle.ghouila.proofs.SignedSums.{zero_or_sign}
use Rattle.ghouila.proofs.SignsBack.{signs_before_pivot, signs_reordered, signs_with_aside}
use Rattle.ghouila.proofs.Square.{small_or_square}
use Rattle.ghouila.proofs.SquareMarks.{square_marks}
use Rattle.sign_tool.proofs.StepRows.{in_left, in_rows}
use Rattle.decompositions_exist.proofs.LeastKeys.{IsFirstBy, IsLeast, first_key, least_number}
use Rattle.decompositions_exist.proofs.NotExcluded.{NotExcluded, one_of_two}
use Rattle.decompositions_exist.proofs.PivotsExist.{entry_unless}
use Rattle.pivots.proofs.PartLaws.{parity as parity_of}

-- rows with entries -1, 0 and 1
abbrev pub AreSmall : Matrix → List ℕ → Type 0
AreSmall m rows = (row : ℕ) → IsIn row rows → IsTernaryRow m.width (entry m row)

-- the run on these rows ends, with signs or with a violator
pub data Ends (m : Matrix) (rows : List ℕ) : Type 0 where
  signed : (steps : List Pivot) (signs sums : List ℤ) → SignsRows m rows signs sums → SignsBySteps m rows steps (λ row. get_or signs row (pos 0)) → Ends m rows
  violated : (steps : List Pivot) (row_marks column_marks odd : List Bool) → MarksViolator m rows row_marks column_marks odd
      → ViolatesBySteps m rows steps (marked row_marks) (marked column_marks) → Ends m rows

-- ---- no row

ends_empty : (m : Matrix) → Ends m []
ends_empty m = signed [] (replicate (height m) (pos 0)) (replicate m.width (pos 0)) (record {
  one_each = length-replicate (height m) (pos 0);
  sum_each = length-replicate m.width (pos 0);
  each = tt;
  sums_are = λ column l. get_or-replicate m.width column (pos 0) (pos 0) l;
  entries = λ column l. subst IsEntry (sym (get_or-replicate m.width column (pos 0) (pos 0) l)) zero_is_entry;
}) refl

-- ---- a row that is put aside

abbrev sums_with : Matrix → ℕ → List ℤ → List ℤ
sums_with m row sums = map (λ column. get_or sums column (pos 0) +ℤ entry m row column) (first_lines m.width)

ends_aside : (m : Matrix) (row : ℕ) (left : List ℕ) → IsRowSet m (row ∷ left) → AreSmall m (row ∷ left)
    → ((column : ℕ) → column < m.width → HasNoPivot m (row ∷ left) column) → Ends m left → Ends m (row ∷ left)
ends_aside m row left is small none (signed steps signs sums found run) =
    let here : 0 < length (row ∷ left) = omega arith in
    let row_in = is.in_range 0 here in
    let out = outside-remove m (row ∷ left) 0 here is in
    let more = one_more-remove (row ∷ left) 0 here in
    let many = found.one_each in
    let count = length-map-range_with_len (λ column. get_or sums column (pos 0) +ℤ entry m row column) 0 m.width in
    signed (record { row = row; column = None } ∷ steps) (set signs row (pos 1)) (sums_with m row sums)
    (signs_with_aside m row left signs sums (sums_with m row sums) row_in out (small row (inl refl)) (λ column l. aside_quiet m (row ∷ left) left row column more (small row (inl refl) column l) (none column l)) found
    (count ∙ sym found.sum_each)
    (λ column l. get_or-map-range_with_len (λ k. get_or sums k (pos 0) +ℤ entry m row k) 0 m.width column column (pos 0) l (omega arith)))
    (signs_set_aside m (row ∷ left) left row steps signs (set signs row (pos 1)) (record { no_pivot = none; rows_are = refl }) out (omega (arith, row_in, many)) refl run)
ends_aside m row left is small none (violated steps row_marks column_marks odd found run) =
    violated (record { row = row; column = None } ∷ steps) row_marks column_marks odd
    (marks_among_more m left (row ∷ left) row_marks column_marks odd (λ r h. contains_from_in (row ∷ left) r (inr (in_from_contains left r h))) found) (left, (record { no_pivot = none; rows_are = refl }, run))

-- ---- a pivot

-- a position of some rows and a column
record LeftPlace : Type 0 where
  place : ℕ
  column : ℕ

spot_key : LeftPlace → List ℕ
spot_key s = s.place ∷ s.column ∷ []

two_numbers : (s : LeftPlace) → length (spot_key s) ≡ 2
unfolding spot_key
two_numbers s = refl

module _ (m : Matrix) (rows : List ℕ) (is : IsRowSet m rows) (small : AreSmall m rows) where
  nonzero_or_not : (xs : List ℕ) → AreSmall m xs → (column : ℕ) → column < m.width
      → ((place : ℕ) × (place < length xs) × IsSign (entry m (get_or xs place 0) column)) ⊎ AllByRecursion (λ row. entry m row column ≡ pos 0) xs
  nonzero_or_not [] small column l = inr tt
  nonzero_or_not (x ∷ xs) small column l = go (zero_or_sign (entry m x column) (small x (inl refl) column l)) (nonzero_or_not xs (λ row h. small row (inr h)) column l)
    where
      go : (entry m x column ≡ pos 0) ⊎ IsSign (entry m x column)
          → ((place : ℕ) × (place < length xs) × IsSign (entry m (get_or xs place 0) column)) ⊎ AllByRecursion (λ row. entry m row column ≡ pos 0) xs
          → ((place : ℕ) × (place < length (x ∷ xs)) × IsSign (entry m (get_or (x ∷ xs) place 0) column)) ⊎ AllByRecursion (λ row. entry m row column ≡ pos 0) (x ∷ xs)
      go (inr sign) later = inl (0, omega arith, sign)
      go (inl e) (inl (place, low, sign)) = inl (suc place, omega (arith, low), sign)
      go (inl e) (inr all) = inr (e, all)

  pivot_or_not : (column : ℕ) → column < m.width → ((place : ℕ) × IsPivot m rows place column) ⊎ HasNoPivot m rows column
  pivot_or_not column l = go (nonzero_or_not rows small column l) (even_or_odd (sum_over rows (λ row. entry m row column)))
    where
      go : ((place : ℕ) × (place < length rows) × IsSign (entry m (get_or rows place 0) column)) ⊎ AllByRecursion (λ row. entry m row column ≡ pos 0) rows
          → IsEven (sum_over rows (λ row. entry m row column)) ⊎ IsOdd (sum_over rows (λ row. entry m row column)) → ((place : ℕ) × IsPivot m rows place column) ⊎ HasNoPivot m rows column
      go (inr all) parity = inr (inl all)
      go (inl found) (inl even) = inl (found.0, record { within = found.1; column_in = l; nonzero = found.2; even = even })
      go (inl found) (inr odd) = inr (inr odd)

  -- a pivot in a column
  record HasPivotIn (column : ℕ) : Type 0 where
    place : ℕ
    pivot : IsPivot m rows place column

  -- a nonzero of a column
  record IsNonzeroAt (column place : ℕ) : Type 0 where
    within : place < length rows
    nonzero : entry m (get_or rows place 0) column ≢ pos 0

  first_pivot_at : (column place : ℕ) → IsLeast HasPivotIn column → IsLeast (IsNonzeroAt column) place → IsFirstPivot m rows place column
  first_pivot_at column place least_column least_place =
      let pivot = least_column.has.pivot in
      record {
        pivot = record {
          within = least_place.has.within;
          column_in = pivot.column_in;
          nonzero = elim (zero_or_sign (entry m (get_or rows place 0) column) (small (get_or rows place 0) (in_at rows place least_place.has.within) column pivot.column_in)) [
            | inl e ↦ absurd (least_place.has.nonzero e)
            | inr sign ↦ sign
          ];
          even = pivot.even;
        };
        first_column = λ j l. let inside = pivot.column_in in elim (pivot_or_not j (omega (arith, l, inside))) [
          | inl found ↦ absurd (least_column.least j l (record { place = found.0; pivot = found.1 }))
          | inr none ↦ none
        ];
        first_row = λ k l. let within = least_place.has.within in elim (int_dec (entry m (get_or rows k 0) column) (pos 0)) [
          | inl e ↦ e
          | inr nonzero ↦ absurd (least_place.least k l (record { within = omega (arith, l, within); nonzero = nonzero }))
        ];
      }

  module _ (place column : ℕ) (first : IsFirstPivot m rows place column) where
    abbrev row : ℕ
    row = get_or rows place 0

    abbrev left : List ℕ
    left = remove rows place

    row_in : row < height m
    row_in = is.in_range place first.pivot.within

    out : IsOutside row left
    out = outside-remove m rows place first.pivot.within is

    more : HasOneMore row left rows
    more = one_more-remove rows place first.pivot.within

    odd_there : IsOdd (sum_over left (λ r. entry m r column))
    odd_there = pivot_odd m rows left row column more first.pivot.nonzero first.pivot.even

    next : IsPivotNext m rows row column left
    next = record { place = place; first = first; row_is = refl; left_is = refl }

    abbrev step : Pivot
    step = record { row = row; column = Some column }

    left_small : AreSmall m left
    left_small i h = small i (in_left rows left row i more h)

    row_small : IsTernaryRow m.width (entry m row)
    row_small = small row (in_rows rows left row more)

    -- the rows of this list are among the rows
    more_rows : (i : ℕ) → Contains (row ∷ left) i → Contains rows i
    more_rows i h = go (in_from_contains (row ∷ left) i h)
      where
        go : IsIn i (row ∷ left) → Contains rows i
        go (inl e) = contains_from_in rows i (subst (λ r. IsIn r rows) (sym e) (in_rows rows left row more))
        go (inr k) = contains_from_in rows i (in_left rows left row i more k)

    -- ---- the first 2 or -2

    -- the pivot gives a 2 or a -2 at a position
    record HasTwo (s : LeftPlace) : Type 0 where
      within : s.place < length left
      column_in : s.column < m.width
      two : ¬ (IsEntry (reduced (entry m) row column (get_or left s.place 0) s.column))

    first_two : (s : LeftPlace) → IsFirstBy spot_key HasTwo s → IsFirstTwoEntry m left row column s.place s.column
    unfolding spot_key
    first_two s f = record {
      within = f.has.within;
      column_in = f.has.column_in;
      two = f.has.two;
      first_row = λ k l j low. let within = f.has.within in
          entry_unless (reduced (entry m) row column (get_or left k 0) j) (λ two. f.first (record { place = k; column = j }) (record { within = omega (arith, l, within); column_in = low; two = two }) (inl l));
      first_column = λ j l. let inside = f.has.column_in in
          entry_unless (reduced (entry m) row column (get_or left s.place 0) j) (λ two. f.first (record { place = s.place; column = j }) (record { within = f.has.within; column_in = omega (arith, l, inside); two = two }) (inr (refl, inl l)));
    }

    square_at : (s : LeftPlace) → HasTwo s → HasSquareViolator m row column (get_or left s.place 0) s.column
    square_at s has =
        let other = get_or left s.place 0 in
        let there = in_at left s.place has.within in
        record {
          row_in = (row_set-remove m rows place first.pivot.within is).in_range s.place has.within;
          column_in = has.column_in;
          square = elim (small_or_square (entry m row column) (entry m other column) (entry m row s.column) (entry m other s.column) first.pivot.nonzero
              (left_small other there column first.pivot.column_in) (row_small s.column has.column_in) (left_small other there s.column has.column_in)) [
                | inl entry_is ↦ absurd (has.two entry_is)
                | inr square ↦ square
              ];
        }

    ends_square : (s : LeftPlace) → IsFirstBy spot_key HasTwo s → Ends m rows
    ends_square s f =
        let other = get_or left s.place 0 in
        let square = square_at s f.has in
        let row_marks = set (set (replicate (height m) false) row true) other true in
        let column_marks = set (set (replicate m.width false) column true) s.column true in
        let parity = λ (j : ℕ). (parity_of (entry m row j +ℤ entry m other j)).0 in
        let odd = map parity (first_lines m.width) in
        let found = square_marks m row column other s.column row_marks column_marks odd row_in first.pivot.column_in square refl refl (length-map-range_with_len parity 0 m.width)
        (λ j l. subst (λ b. HasParity b (entry m row j +ℤ entry m other j)) (sym (get_or-map-range_with_len parity 0 m.width j j false l (omega arith))) (parity_of (entry m row j +ℤ entry m other j)).1) in
        violated [] row_marks column_marks odd (marks_among_more m (row ∷ other ∷ []) rows row_marks column_marks odd (two_among s f.has.within) found) (record {
          row = row;
          column = column;
          left = left;
          next = next;
          place = s.place;
          last = s.column;
          two = first_two s f;
          rows_are = in_two_marks (height m) row other row_in square.row_in;
          columns_are = in_two_marks m.width column s.column first.pivot.column_in square.column_in;
        })
      where
        two_among : (s : LeftPlace) → s.place < length left → (i : ℕ) → Contains (row ∷ get_or left s.place 0 ∷ []) i → Contains rows i
        two_among s within i h = go (in_from_contains (row ∷ get_or left s.place 0 ∷ []) i h)
          where
            go : IsIn i (row ∷ get_or left s.place 0 ∷ []) → Contains rows i
            go (inl e) = contains_from_in rows i (subst (λ r. IsIn r rows) (sym e) (in_rows rows left row more))
            go (inr (inl e)) = contains_from_in rows i (subst (λ r. IsIn r rows) (sym e) (in_left rows left row (get_or left s.place 0) more (in_at left s.place within)))
            go (inr (inr h)) = absurd h

    -- ---- the matrix after the pivot

    abbrev after : Matrix
    after = filled (height m) m.width (pivoted (entry m) row column)

    after_height : height after ≡ height m
    after_height = height-filled (height m) m.width (pivoted (entry m) row column)

    module _ (all : (k : ℕ) → k < length left → IsTernaryRow m.width (reduced (entry m) row column (get_or left k 0))) where
      left_set : IsRowSet m left
      left_set = row_set-remove m rows place first.pivot.within is

      each_left : (P : ℕ → Type 0) (xs : List ℕ) → ((k : ℕ) → k < length xs → P (get_or xs k 0)) → AllByRecursion P xs
      each_left P [] h = tt
      each_left P (x ∷ xs) h = (h 0 (omega arith), each_left P xs (λ k l. h (suc k) (omega (arith, l))))

      pivots : PivotsRows m after row column left
      pivots = each_left (λ i. (j : ℕ) → j < m.width → entry after i j ≡ pivoted (entry m) row column i j) left (λ k l j low. entry-filled (height m) m.width (pivoted (entry m) row column) (get_or left k 0) j (left_set.in_range k l) low)

      made : IsPivotMade m after row column left
      made = record { small = each_left (λ i. IsTernaryRow m.width (reduced (entry m) row column i)) left all; same_width = refl; made = pivots }

      after_set : IsRowSet after left
      after_set = record { increasing = left_set.increasing; in_range = λ k l. subst (λ n. get_or left k 0 < n) (sym after_height) (left_set.in_range k l) }

      pivoted_small : (i j : ℕ) → IsEntry (entry m i column) → IsEntry (reduced (entry m) row column i j) → IsEntry (pivoted (entry m) row column i j)
      pivoted_small i j corner other = go (eqb j column)
        where
          go : (b : Bool) → IsEntry (cond b (neg_ℤ (entry m row column *ℤ entry m i column)) (reduced (entry m) row column i j))
          go true = negative_is_entry _ (product_is_entry (entry m row column) (entry m i column) (row_small column first.pivot.column_in) corner)
          go false = other

      after_small : AreSmall after left
      after_small i h j low =
          let p = place_is i left h in
          let k = place_of i left in
          let here = left_set.in_range k p.in_range in
          subst (λ r. IsEntry (entry after r j)) p.there
          (subst IsEntry (sym (entry-filled (height m) m.width (pivoted (entry m) row column) (get_or left k 0) j here low))
          (pivoted_small (get_or left k 0) j (left_small (get_or left k 0) (in_at left k p.in_range) column first.pivot.column_in) (all k p.in_range j low)))

      ends_after : Ends after left → Ends m rows
      ends_after (signed steps signs sums found run) =
          let many = found.one_each in
          let high = after_height in
          let low = row_in in
          signed (step ∷ steps) (set signs row (get_or sums column (pos 0))) (set sums column (pos 0))
          (signs_reordered m row left rows (set signs row (get_or sums column (pos 0))) (set sums column (pos 0)) more
          (signs_before_pivot m after row column left signs sums after_height refl row_in first.pivot.column_in out first.pivot.nonzero odd_there pivots found))
          (signs_set_pivot m after rows left row column steps signs sums (set signs row (get_or sums column (pos 0))) next made out (omega (arith, many, high, low)) first.pivot.column_in found refl run)
      ends_after (violated steps row_marks column_marks odd found run) =
          let mark = parity_of (sum_over (marked (set column_marks column false)) (entry m row) +ℤ bit (get_or column_marks column false)) in
          let columns' = set column_marks column mark.0 in
          let again : MarksAgain (entry m row) column column_marks columns' = record { mark = mark.0; new_is = refl; parity = mark.1 } in
          violated (step ∷ steps) (set row_marks row (get_or odd column false)) columns' (set odd column false)
          (marks_among_more m (row ∷ left) rows (set row_marks row (get_or odd column false)) columns' (set odd column false) more_rows
          (marks_before_pivot m after row column left row_in first.pivot.column_in out first.pivot.nonzero after_height refl pivots row_marks column_marks odd columns' found again))
          (left, (next, (after, made, (marked row_marks, marked column_marks, run, pulled_back m after row column left row_in first.pivot.column_in out first.pivot.nonzero after_height refl pivots row_marks column_marks odd columns' found again))))

-- ---- the run

-- the runs on all shorter lists of rows end
abbrev pub EndBelow : ℕ → Type 0
EndBelow bound = (m : Matrix) (rows : List ℕ) → length rows < bound → IsRowSet m rows → AreSmall m rows → NotExcluded (Ends m rows)

module _ (m : Matrix) (rows : List ℕ) (is : IsRowSet m rows) (small : AreSmall m rows) (place column : ℕ) (first : IsFirstPivot m rows place column) where
  all_small : ((s : LeftPlace) → ¬ (HasTwo m rows is small place column first s)) → (k : ℕ) → k < length (remove rows place)
      → IsTernaryRow m.width (reduced (entry m) (get_or rows place 0) column (get_or (remove rows place) k 0))
  all_small none k l j low = entry_unless (reduced (entry m) (get_or rows place 0) column (get_or (remove rows place) k 0) j) (λ two. none (record { place = k; column = j }) (record { within = l; column_in = low; two = two }))

  ends_by_pivot : (bound : ℕ) → length rows < suc bound → EndBelow bound → NotExcluded (Ends m rows)
  ends_by_pivot bound l later none = one_of_two ((s : LeftPlace) × HasTwo m rows is small place column first s) (λ either. elim either [
    | inl two ↦ first_key spot_key 2 two_numbers (HasTwo m rows is small place column first) two.0 two.1 (λ s. none (ends_square m rows is small place column first s.0 s.1))
    | inr without ↦
        let all = all_small (λ s two. without (s, two)) in
        let shorter = length-remove rows place first.pivot.within in
        later (filled (height m) m.width (pivoted (entry m) (get_or rows place 0) column)) (remove rows place) (omega (arith, l, shorter)) (after_set m rows is small place column first all) (after_small m rows is small place column first all) (λ ends.
        none (ends_after m rows is small place column first all ends))
  ])

pub ends_exist : (bound : ℕ) → EndBelow bound
ends_exist zero m rows l is small none = omega (arith, l)
ends_exist (suc bound) m [] l is small none = none (ends_empty m)
ends_exist (suc bound) m (first ∷ rows) l is small none = one_of_two ((column : ℕ) × HasPivotIn m (first ∷ rows) is small column) (λ either. elim either [
  | inl some ↦ least_number (HasPivotIn m (first ∷ rows) is small) some.0 some.1 (λ column.
      let pivot = column.1.has.pivot in
      least_number (IsNonzeroAt m (first ∷ rows) is small column.0) column.1.has.place (record { within = pivot.within; nonzero = sign_nonzero _ pivot.nonzero }) (λ place.
      ends_by_pivot m (first ∷ rows) is small place.0 column.0 (first_pivot_at m (first ∷ rows) is small column.0 place.0 column.1 place.1) bound l (ends_exist bound) none))
  | inr without ↦ ends_exist bound m rows (omega (arith, l)) (row_set-remove m (first ∷ rows) 0 (omega arith) is) (λ row h. small row (inr h)) (λ ends.
      none (ends_aside m first rows is small (λ column low. elim (pivot_or_not m (first ∷ rows) is small column low) [
        | inl found ↦ absurd (without (column, record { place = found.0; pivot = found.1 }))
        | inr no_pivot ↦ no_pivot
      ]) ends))
])
