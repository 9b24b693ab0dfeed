use Rattle.std.proofs.Common.{◌≡◌, ◌≢◌, ◌<◌, ◌+◌, ◌*◌, ◌∙◌, ◌⊎◌, ℕ, Some, None, set, ap₂, List, [], ◌∷◌, ℤ, ◌+ℤ◌, pos, length, get_or, ap, sym, subst, arith, vec_len, Bool, false}
use Rattle.std.specs.List.{AllByRecursion, remove, Contains}
use Rattle.std.specs.Prelude.{◌==◌, ◌↔◌}
use Rattle.std.proofs.lemmas.Bool.Decides.{nat_tests}
use Rattle.std.proofs.lemmas.List.{get_or_read, append-nil}
use Rattle.cmr_base.specs.Matrix.{Matrix, height, entry}
use Rattle.cmr_base.specs.LineSets.{AllBelow, IsRowSet}
use Rattle.cmr_base.specs.Signing.{IsSign}
use Rattle.cmr_base.specs.Sums.{sum_over, IsEven, IsOdd}
use Rattle.cmr_base.proofs.Lists.{HasOneMore, all_contained, all_without, contains_first, contains_later}
use Rattle.cmr_base.specs.PlacedPivots.{reduced}
use Rattle.ghouila.specs.Pivot.{IsOutside, IsTernaryRow, IsPivot, IsFirstPivot, HasNoPivot, IsFirstTwoEntry, KeepsRowsElsewhere, PivotsRows}
use Rattle.ghouila.specs.Found.{marked, SignsRows, MarksViolator, MarksAgain}
use Rattle.ghouila.specs.MarkedSignings.{IsOutcome, AddsRun}
use Rattle.ghouila.specs.SignRuns.{IsPulledBack}
use Rattle.ghouila.specs.declared.by_pivots.Pivot.{Pivot}
use Rattle.ghouila.specs.declared.by_pivots.MarkedSigning.TheVariants.{Signed, Violated}
use Rattle.cmr_base.specs.Members.{IsIn}
use Rattle.ghouila.proofs.RunSteps.{steps_later, signs_set_aside, signs_set_pivot, violated_aside, first_and_others}
use mathlib.Core.Path.{fun_ext}
use Rattle.ghouila.proofs.LeftRows.{one_more-remove, row_set-remove, outside-remove, pivot_odd, aside_quiet}
use Rattle.ghouila.proofs.SignsBack.{signs_before_pivot, signs_with_aside}
use Rattle.ghouila.proofs.MarksBack.{marks_among_more, marks_before_pivot, pulled_back}
use Rattle.ghouila.proofs.OutcomeLemmas.{found_reordered, violated_with_row}
use Rattle.ghouila.proofs.by_pivots.+sign_rows.Goals as goal

again_by_same : (f g : ℕ → ℤ) (column : ℕ) (old new : List Bool) → ((j : ℕ) → f j ≡ g j) → MarksAgain f column old new → MarksAgain g column old new
again_by_same f g column old new same again = subst (λ h. MarksAgain h column old new) (fun_ext same) again

nonempty : (n : ℕ) (empty : Bool) → empty ≡ (n == 0) → empty ≡ false → 0 < n
nonempty n empty e f = grind (arith, nat_tests)

pub sign_left-sign_by_pivot-requires : goal.sign_left-sign_by_pivot-requires
sign_left-sign_by_pivot-requires t c =
    let m = c.args.work.now in
    let left = c.args.left.items in
    let place = c.in-Some.pivot.place in
    let column = c.in-Some.pivot.column in
    let pivot : IsPivot m left place column = subst (λ xs. IsPivot m xs place column) c.deref.ensures.value c.in-Some.ensures.some.pivot in
    let row : c.remove-row.result ≡ get_or left place 0 = get_or_read left place c.remove-row.result pivot.within c.remove-row.ensures.value 0 in
    let more : HasOneMore (get_or left place 0) (remove left place) left = one_more-remove left place pivot.within in
    let odd : IsOdd (sum_over (remove left place) (λ r. entry m r column)) = pivot_odd m left (remove left place) (get_or left place 0) column more pivot.nonzero pivot.even in
    let falls : 2 * vec_len c.remove-row.new.self + 2 < t = omega (arith, c.decreases, c.remove-row.ensures.len) in (
      falls,
      (
        subst (IsRowSet m) (sym c.remove-row.ensures.items) (row_set-remove m left place pivot.within c.requires),
        (
          subst (λ r. r < height m) (sym row) (c.requires.in_range place pivot.within),
          (
            subst (λ r. IsOutside r c.remove-row.new.self.items) (sym row) (subst (IsOutside (get_or left place 0)) (sym c.remove-row.ensures.items) (outside-remove m left place pivot.within c.requires)),
            (
              pivot.column_in,
              (
                subst (λ r. IsSign (entry m r column)) (sym row) pivot.nonzero,
                subst (λ xs. IsOdd (sum_over xs (λ r. entry m r column))) (sym c.remove-row.ensures.items) odd,
              ),
            ),
          ),
        ),
      ),
    )

pub sign_left-sign_aside-requires : goal.sign_left-sign_aside-requires
sign_left-sign_aside-requires t c =
    let m = c.args.work.now in
    let left = c.args.left.items in
    let call = c.remove-row-in-None in
    let within : 0 < length left = omega (arith, nonempty (vec_len c.args.left) c.is_empty.result c.is_empty.ensures c.if-is_empty.false, c.args.left.ok.0) in
    let none : (column : ℕ) → column < m.width → HasNoPivot m left column = subst (λ xs. (column : ℕ) → column < m.width → HasNoPivot m xs column) c.deref.ensures.value c.in-None.ensures.none in
    let row : call.result ≡ get_or left 0 0 = get_or_read left 0 call.result within call.ensures.value 0 in
    let more : HasOneMore (get_or left 0 0) (remove left 0) left = one_more-remove left 0 within in
    let items : call.new.self.items ≡ remove left 0 = call.ensures.items in
    let falls : 2 * vec_len call.new.self + 2 < t = omega (arith, c.decreases, call.ensures.len) in (
      falls,
      (
        subst (IsRowSet m) (sym items) (row_set-remove m left 0 within c.requires),
        (
          subst (λ r. r < height m) (sym row) (c.requires.in_range 0 within),
          (
            subst (λ r. IsOutside r call.new.self.items) (sym row) (subst (IsOutside (get_or left 0 0)) (sym items) (outside-remove m left 0 within c.requires)),
            (
              λ j h. c.first_pivot.ensures.shape.small call.result j,
              λ j h. subst (λ r. (entry m r j ≡ pos 0) ⊎ IsEven (sum_over call.new.self.items (λ r'. entry m r' j))) (sym row)
                  (subst (λ xs. (entry m (get_or left 0 0) j ≡ pos 0) ⊎ IsEven (sum_over xs (λ r'. entry m r' j))) (sym items)
                  (aside_quiet m left (remove left 0) (get_or left 0 0) j more (c.first_pivot.ensures.shape.small (get_or left 0 0) j) (none j h))),
            ),
          ),
        ),
      ),
    )

pub sign_left-returns-in-Some-clause-found : goal.sign_left-returns-in-Some-clause-found
sign_left-returns-in-Some-clause-found t c =
    let m = c.args.work.now in
    let left = c.args.left.items in
    let place = c.in-Some.pivot.place in
    let pivot : IsPivot m left place c.in-Some.pivot.column = subst (λ xs. IsPivot m xs place c.in-Some.pivot.column) c.deref.ensures.value c.in-Some.ensures.some.pivot in
    let row : c.remove-row.result ≡ get_or left place 0 = get_or_read left place c.remove-row.result pivot.within c.remove-row.ensures.value 0 in
    let more : HasOneMore c.remove-row.result c.remove-row.new.self.items left =
    subst (λ r. HasOneMore r c.remove-row.new.self.items left) (sym row) (subst (λ xs. HasOneMore (get_or left place 0) xs left) (sym c.remove-row.ensures.items) (one_more-remove left place pivot.within)) in
    found_reordered m c.remove-row.result c.remove-row.new.self.items left more c.sign_by_pivot.result c.sign_by_pivot.ensures.found

pub sign_aside-returns-in_default-clause-found : goal.sign_aside-returns-in_default-clause-found
sign_aside-returns-in_default-clause-found t c = violated_with_row c.args.work.now c.args.row c.args.left.items c.in_ok-violated.violated c.in_default.not-Signed c.in_ok-violated.ensures.found

pub sign_aside-returns-in-Signed-clause-found : goal.sign_aside-returns-in-Signed-clause-found
sign_aside-returns-in-Signed-clause-found t c =
    let m = c.args.work.now in
    let left = c.args.left.items in
    let s = c.in-Signed.signs in
    let found : SignsRows m left s.signs.items s.sums.items = subst (IsOutcome m left) c.in-Signed.is c.in_ok-violated.ensures.found in
    let keeps = c.in_ok-violated.ensures.others in
    rw c.sign_aside.ensures.signs (signs_with_aside m c.args.row left s.signs.items s.sums.items c.sign_aside.new.self.sums.items c.requires.row c.requires.apart c.requires.small c.requires.quiet found c.sign_aside.ensures.sum_each
    (λ j h. c.sign_aside.ensures.sums j (let w = keeps.same_width in omega arith) ∙ ap (λ z. get_or s.sums.items j (pos 0) +ℤ z) (keeps.others c.args.row j c.requires.apart)))

pub sign_by_pivot-returns-in-Some-clause-found : goal.sign_by_pivot-returns-in-Some-clause-found
sign_by_pivot-returns-in-Some-clause-found t c =
    let m = c.args.work.now in
    let left = c.args.left.items in
    let corner = c.in-Some.corner in
    let there : Contains left corner.row = subst (λ xs. Contains xs corner.row) c.deref.ensures.value c.in-Some.ensures.some.0 in
    marks_among_more m (c.args.row ∷ corner.row ∷ []) (c.args.row ∷ left) c.in_ok-lines.lines.rows.items c.in_ok-lines.lines.columns.items c.in_ok-lines.lines.odd.items
    (λ r in_pair. all_contained (Contains (c.args.row ∷ left)) (c.args.row ∷ corner.row ∷ []) r (contains_first c.args.row left, (contains_later corner.row c.args.row left there, tt)) in_pair)
    c.in_ok-lines.ensures.violator

pub sign_by_pivot-make_pivot-requires-clause-small : goal.sign_by_pivot-make_pivot-requires-clause-small
sign_by_pivot-make_pivot-requires-clause-small t c =
    let m = c.args.work.now in
    let small = c.in_default.ensures.none in
    subst (AllByRecursion (λ other. IsTernaryRow m.width (reduced (entry m) c.args.row c.args.column other))) (c.deref.ensures.value ∙ sym c.deref-2.ensures.value) small

pub sign_by_pivot-returns-in-Signed-clause-found : goal.sign_by_pivot-returns-in-Signed-clause-found
sign_by_pivot-returns-in-Signed-clause-found t c =
    let m = c.args.work.now in
    let after = c.make_pivot.new.work in
    let left = c.args.left.items in
    let s = c.in-Signed.signs in
    let found : SignsRows after left s.signs.items s.sums.items = subst (IsOutcome after left) c.in-Signed.is c.in_ok-signs.ensures.found in
    let pivots : PivotsRows m after c.args.row c.args.column left = subst (PivotsRows m after c.args.row c.args.column) c.deref-2.ensures.value c.make_pivot.ensures.pivoted in
    let keeps : KeepsRowsElsewhere m after left = subst (KeepsRowsElsewhere m after) c.deref-2.ensures.value c.make_pivot.ensures.others in
    rw (c.sign_pivot.ensures.signs, c.sign_pivot.ensures.sums)
    (signs_before_pivot m after c.args.row c.args.column left s.signs.items s.sums.items keeps.same_height keeps.same_width c.requires.row c.requires.column c.requires.apart c.requires.nonzero c.requires.odd pivots found)

pub sign_by_pivot-returns-in-Violated-clause-found : goal.sign_by_pivot-returns-in-Violated-clause-found
sign_by_pivot-returns-in-Violated-clause-found t c =
    let m = c.args.work.now in
    let after = c.make_pivot.new.work in
    let last = c.sign_left.new.work in
    let left = c.args.left.items in
    let v = c.in-Violated.lines in
    let found : MarksViolator after left v.rows.items v.columns.items v.odd.items = subst (IsOutcome after left) c.in-Violated.is c.in_ok-signs.ensures.found in
    let pivots : PivotsRows m after c.args.row c.args.column left = subst (PivotsRows m after c.args.row c.args.column) c.deref-2.ensures.value c.make_pivot.ensures.pivoted in
    let keeps : KeepsRowsElsewhere m after left = subst (KeepsRowsElsewhere m after) c.deref-2.ensures.value c.make_pivot.ensures.others in
    let same_row : (j : ℕ) → entry last c.args.row j ≡ entry m c.args.row j = λ j. c.sign_left.ensures.others.others c.args.row j c.requires.apart ∙ keeps.others c.args.row j c.requires.apart in
    rw (c.undo_pivot.ensures.rows, c.undo_pivot.ensures.odd)
    (marks_before_pivot m after c.args.row c.args.column left c.requires.row c.requires.column c.requires.apart c.requires.nonzero keeps.same_height keeps.same_width pivots v.rows.items v.columns.items v.odd.items c.undo_pivot.new.self.columns.items found
    (again_by_same (entry last c.args.row) (entry m c.args.row) c.args.column v.columns.items c.undo_pivot.new.self.columns.items same_row c.undo_pivot.ensures.columns))

-- ---- the run

pub sign_aside-returns-in-Signed-clause-run : goal.sign_aside-returns-in-Signed-clause-run
sign_aside-returns-in-Signed-clause-run t c =
    let m = c.args.work.now in
    let left = c.args.left.items in
    let s = c.in-Signed.signs in
    let step : Pivot = record { row = c.args.row; column = None } in
    let found : SignsRows m left s.signs.items s.sums.items = subst (IsOutcome m left) c.in-Signed.is c.in_ok-violated.ensures.found in
    let run : AddsRun m left c.push.new.self c.sign_left.new.steps (Signed s) = subst (AddsRun m left c.push.new.self c.sign_left.new.steps) c.in-Signed.is c.in_ok-violated.ensures.run in
    λ rows aside. (
      step ∷ run.0,
      run.1 ∙ steps_later c.args.steps.now c.push.new.self step run.0 c.in_ok-push.ensures.ok,
      signs_set_aside m rows left c.args.row run.0 s.signs.items c.sign_aside.new.self.signs.items aside c.requires.apart (let e = found.one_each in let h = c.requires.row in omega arith) c.sign_aside.ensures.signs run.2,
    )

pub sign_aside-returns-in_default-clause-run : goal.sign_aside-returns-in_default-clause-run
sign_aside-returns-in_default-clause-run t c = λ rows aside.
    violated_aside c.args.work.now rows c.args.left.items c.args.row c.args.steps.now c.push.new.self c.sign_left.new.steps c.in_ok-violated.violated c.in_default.not-Signed aside c.in_ok-push.ensures.ok c.in_ok-violated.ensures.run

pub sign_by_pivot-returns-in-Some-clause-run : goal.sign_by_pivot-returns-in-Some-clause-run
sign_by_pivot-returns-in-Some-clause-run t c =
    let m = c.args.work.now in
    let left = c.args.left.items in
    let corner = c.in-Some.corner in
    let first : (place : ℕ) × (corner.row ≡ get_or left place 0) × IsFirstTwoEntry m left c.args.row c.args.column place corner.column =
    subst (λ xs. (place : ℕ) × (corner.row ≡ get_or xs place 0) × IsFirstTwoEntry m xs c.args.row c.args.column place corner.column) c.deref.ensures.value c.in-Some.ensures.first in
    λ rows next. (
      [],
      sym (append-nil c.args.steps.now),
      record {
        row = c.args.row;
        column = c.args.column;
        left = left;
        next = next;
        place = first.0;
        last = corner.column;
        two = first.2;
        rows_are = λ i. subst (λ r. IsIn i (marked c.in_ok-lines.lines.rows.items) ↔ IsIn i (c.args.row ∷ r ∷ [])) first.1 (c.in_ok-lines.ensures.rows i);
        columns_are = c.in_ok-lines.ensures.columns;
      },
    )

pub sign_by_pivot-returns-in-Signed-clause-run : goal.sign_by_pivot-returns-in-Signed-clause-run
sign_by_pivot-returns-in-Signed-clause-run t c =
    let m = c.args.work.now in
    let after = c.make_pivot.new.work in
    let left = c.args.left.items in
    let s = c.in-Signed.signs in
    let step : Pivot = record { row = c.args.row; column = Some c.args.column } in
    let found : SignsRows after left s.signs.items s.sums.items = subst (IsOutcome after left) c.in-Signed.is c.in_ok-signs.ensures.found in
    let run : AddsRun after left c.push.new.self c.sign_left.new.steps (Signed s) = subst (AddsRun after left c.push.new.self c.sign_left.new.steps) c.in-Signed.is c.in_ok-signs.ensures.run in
    let pivots : PivotsRows m after c.args.row c.args.column left = subst (PivotsRows m after c.args.row c.args.column) c.deref-2.ensures.value c.make_pivot.ensures.pivoted in
    let keeps : KeepsRowsElsewhere m after left = subst (KeepsRowsElsewhere m after) c.deref-2.ensures.value c.make_pivot.ensures.others in
    let small : AllByRecursion (λ other. IsTernaryRow m.width (reduced (entry m) c.args.row c.args.column other)) left = subst (AllByRecursion (λ other. IsTernaryRow m.width (reduced (entry m) c.args.row c.args.column other))) c.deref.ensures.value c.in_default.ensures.none in
    λ rows next. (
      step ∷ run.0,
      run.1 ∙ steps_later c.args.steps.now c.push.new.self step run.0 c.in_ok-push.ensures.ok,
      signs_set_pivot m after rows left c.args.row c.args.column run.0 s.signs.items s.sums.items c.sign_pivot.new.self.signs.items next (record { small = small; same_width = keeps.same_width; made = pivots })
          c.requires.apart (let e = found.one_each in let k = keeps.same_height in let h = c.requires.row in omega arith) c.requires.column found c.sign_pivot.ensures.signs run.2,
    )

pub sign_by_pivot-returns-in-Violated-clause-run : goal.sign_by_pivot-returns-in-Violated-clause-run
sign_by_pivot-returns-in-Violated-clause-run t c =
    let m = c.args.work.now in
    let after = c.make_pivot.new.work in
    let last = c.sign_left.new.work in
    let left = c.args.left.items in
    let v = c.in-Violated.lines in
    let step : Pivot = record { row = c.args.row; column = Some c.args.column } in
    let found : MarksViolator after left v.rows.items v.columns.items v.odd.items = subst (IsOutcome after left) c.in-Violated.is c.in_ok-signs.ensures.found in
    let run : AddsRun after left c.push.new.self c.sign_left.new.steps (Violated v) = subst (AddsRun after left c.push.new.self c.sign_left.new.steps) c.in-Violated.is c.in_ok-signs.ensures.run in
    let pivots : PivotsRows m after c.args.row c.args.column left = subst (PivotsRows m after c.args.row c.args.column) c.deref-2.ensures.value c.make_pivot.ensures.pivoted in
    let keeps : KeepsRowsElsewhere m after left = subst (KeepsRowsElsewhere m after) c.deref-2.ensures.value c.make_pivot.ensures.others in
    let small : AllByRecursion (λ other. IsTernaryRow m.width (reduced (entry m) c.args.row c.args.column other)) left = subst (AllByRecursion (λ other. IsTernaryRow m.width (reduced (entry m) c.args.row c.args.column other))) c.deref.ensures.value c.in_default.ensures.none in
    let same_row : (j : ℕ) → entry last c.args.row j ≡ entry m c.args.row j = λ j. c.sign_left.ensures.others.others c.args.row j c.requires.apart ∙ keeps.others c.args.row j c.requires.apart in
    let back : IsPulledBack m c.args.row c.args.column (marked v.rows.items) (marked v.columns.items) (marked (set v.rows.items c.args.row (get_or v.odd.items c.args.column false))) (marked c.undo_pivot.new.self.columns.items) =
    pulled_back m after c.args.row c.args.column left c.requires.row c.requires.column c.requires.apart c.requires.nonzero keeps.same_height keeps.same_width pivots v.rows.items v.columns.items v.odd.items c.undo_pivot.new.self.columns.items found
    (again_by_same (entry last c.args.row) (entry m c.args.row) c.args.column v.columns.items c.undo_pivot.new.self.columns.items same_row c.undo_pivot.ensures.columns) in
    λ rows next. (
      step ∷ run.0,
      run.1 ∙ steps_later c.args.steps.now c.push.new.self step run.0 c.in_ok-push.ensures.ok,
      (
        left,
        (
          next,
          (
            after,
            record { small = small; same_width = keeps.same_width; made = pivots },
            (
              marked v.rows.items,
              marked v.columns.items,
              run.2,
              subst (λ marks. IsPulledBack m c.args.row c.args.column (marked v.rows.items) (marked v.columns.items) (marked marks) (marked c.undo_pivot.new.self.columns.items)) (sym c.undo_pivot.ensures.rows) back,
            ),
          ),
        ),
      ),
    )

pub sign_left-returns-in-None-clause-run : goal.sign_left-returns-in-None-clause-run
sign_left-returns-in-None-clause-run t c =
    let m = c.args.work.now in
    let left = c.args.left.items in
    let call = c.remove-row-in-None in
    let within : 0 < length left = omega (arith, nonempty (vec_len c.args.left) c.is_empty.result c.is_empty.ensures c.if-is_empty.false, c.args.left.ok.0) in
    let none : (column : ℕ) → column < m.width → HasNoPivot m left column = subst (λ xs. (column : ℕ) → column < m.width → HasNoPivot m xs column) c.deref.ensures.value c.in-None.ensures.none in
    let row : call.result ≡ get_or left 0 0 = get_or_read left 0 call.result within call.ensures.value 0 in
    c.sign_aside.ensures.run left (record { no_pivot = none; rows_are = first_and_others left within ∙ ap₂ (λ (r : ℕ) (xs : List ℕ). r ∷ xs) (sym row) (sym call.ensures.items) })

-- ---- the preconditions of the calls, and the other rows

keeps_through : (first middle last : Matrix) (rows : List ℕ) → KeepsRowsElsewhere first middle rows → KeepsRowsElsewhere middle last rows → KeepsRowsElsewhere first last rows
keeps_through first middle last rows one two = record {
  same_height = two.same_height ∙ one.same_height;
  same_width = two.same_width ∙ one.same_width;
  others = λ i j out. two.others i j out ∙ one.others i j out;
}

-- entries that do not change if fewer rows may change do not change if one more row may change
keeps_with_more : (before after : Matrix) (row : ℕ) (fewer more : List ℕ) → HasOneMore row fewer more → KeepsRowsElsewhere before after fewer → KeepsRowsElsewhere before after more
keeps_with_more before after row fewer more one keeps = record {
  same_height = keeps.same_height;
  same_width = keeps.same_width;
  others = λ i j out. keeps.others i j (all_without (λ other. other ≢ i) row fewer more one out);
}

pub sign_left-first_pivot-requires : goal.sign_left-first_pivot-requires
sign_left-first_pivot-requires t c = subst (AllBelow (height c.args.work.now)) (sym c.deref.ensures.value) c.requires.in_range

pub sign_left-remove-row-requires : goal.sign_left-remove-row-requires
sign_left-remove-row-requires t c = omega (arith, c.in-Some.ensures.some.pivot.within, ap length c.deref.ensures.value, c.args.left.ok.0)

pub sign_left-remove-row-requires-in-None : goal.sign_left-remove-row-requires-in-None
sign_left-remove-row-requires-in-None t c = nonempty (vec_len c.args.left) c.is_empty.result c.is_empty.ensures c.if-is_empty.false

pub sign_left-returns-in-Some-clause-run : goal.sign_left-returns-in-Some-clause-run
sign_left-returns-in-Some-clause-run t c =
    let m = c.args.work.now in
    let left = c.args.left.items in
    let place = c.in-Some.pivot.place in
    let first : IsFirstPivot m left place c.in-Some.pivot.column = subst (λ xs. IsFirstPivot m xs place c.in-Some.pivot.column) c.deref.ensures.value c.in-Some.ensures.some in
    c.sign_by_pivot.ensures.run left (record { place = place; first = first; row_is = get_or_read left place c.remove-row.result first.pivot.within c.remove-row.ensures.value 0; left_is = c.remove-row.ensures.items })

pub sign_left-returns-in-Some-clause-others : goal.sign_left-returns-in-Some-clause-others
sign_left-returns-in-Some-clause-others t c =
    let left = c.args.left.items in
    let place = c.in-Some.pivot.place in
    let within : place < length left = omega (arith, c.in-Some.ensures.some.pivot.within, ap length c.deref.ensures.value) in
    keeps_with_more c.args.work.now c.sign_by_pivot.new.work (get_or left place 0) (remove left place) left (one_more-remove left place within) (subst (KeepsRowsElsewhere c.args.work.now c.sign_by_pivot.new.work) c.remove-row.ensures.items c.sign_by_pivot.ensures.others)

pub sign_left-returns-in-None-clause-found : goal.sign_left-returns-in-None-clause-found
sign_left-returns-in-None-clause-found t c =
    let m = c.args.work.now in
    let left = c.args.left.items in
    let call = c.remove-row-in-None in
    let within : 0 < length left = omega (arith, nonempty (vec_len c.args.left) c.is_empty.result c.is_empty.ensures c.if-is_empty.false, c.args.left.ok.0) in
    let row : call.result ≡ get_or left 0 0 = get_or_read left 0 call.result within call.ensures.value 0 in
    let more : HasOneMore call.result call.new.self.items left =
    subst (λ r. HasOneMore r call.new.self.items left) (sym row) (subst (λ xs. HasOneMore (get_or left 0 0) xs left) (sym call.ensures.items) (one_more-remove left 0 within)) in
    found_reordered m call.result call.new.self.items left more c.sign_aside.result c.sign_aside.ensures.found

pub sign_left-returns-in-None-clause-others : goal.sign_left-returns-in-None-clause-others
sign_left-returns-in-None-clause-others t c =
    let left = c.args.left.items in
    let within : 0 < length left = omega (arith, nonempty (vec_len c.args.left) c.is_empty.result c.is_empty.ensures c.if-is_empty.false, c.args.left.ok.0) in
    keeps_with_more c.args.work.now c.sign_aside.new.work (get_or left 0 0) (remove left 0) left (one_more-remove left 0 within) (subst (KeepsRowsElsewhere c.args.work.now c.sign_aside.new.work) c.remove-row-in-None.ensures.items c.sign_aside.ensures.others)

pub sign_by_pivot-first_square_violator-requires-clause-rows : goal.sign_by_pivot-first_square_violator-requires-clause-rows
sign_by_pivot-first_square_violator-requires-clause-rows t c = subst (AllBelow (height c.args.work.now)) (sym c.deref.ensures.value) c.requires.rows.in_range

pub sign_by_pivot-of_square-requires-clause-square : goal.sign_by_pivot-of_square-requires-clause-square
sign_by_pivot-of_square-requires-clause-square t c = c.in-Some.ensures.some.1

pub sign_by_pivot-make_pivot-requires-clause-rows : goal.sign_by_pivot-make_pivot-requires-clause-rows
sign_by_pivot-make_pivot-requires-clause-rows t c = subst (IsRowSet c.args.work.now) (sym c.deref-2.ensures.value) c.requires.rows

pub sign_by_pivot-make_pivot-requires-clause-apart : goal.sign_by_pivot-make_pivot-requires-clause-apart
sign_by_pivot-make_pivot-requires-clause-apart t c = subst (IsOutside c.args.row) (sym c.deref-2.ensures.value) c.requires.apart

pub sign_by_pivot-sign_left-requires : goal.sign_by_pivot-sign_left-requires
sign_by_pivot-sign_left-requires t c =
    let height_is = c.make_pivot.ensures.others.same_height in
    let falls : 2 * vec_len c.args.left + 1 < t = omega (arith, c.decreases) in
    (falls, record { increasing = c.requires.rows.increasing; in_range = λ k h. omega (arith, c.requires.rows.in_range k h, height_is) })

pub sign_by_pivot-returns-in_err-signs-clause-others : goal.sign_by_pivot-returns-in_err-signs-clause-others
sign_by_pivot-returns-in_err-signs-clause-others t c =
    let keeps = subst (KeepsRowsElsewhere c.args.work.now c.make_pivot.new.work) c.deref-2.ensures.value c.make_pivot.ensures.others in
    keeps_through c.args.work.now c.make_pivot.new.work c.sign_left.new.work c.args.left.items keeps c.sign_left.ensures.others

pub sign_by_pivot-sign_pivot-requires-clause-row : goal.sign_by_pivot-sign_pivot-requires-clause-row
sign_by_pivot-sign_pivot-requires-clause-row t c =
    let s = c.in-Signed.signs in
    let found : SignsRows c.make_pivot.new.work c.args.left.items s.signs.items s.sums.items = subst (IsOutcome c.make_pivot.new.work c.args.left.items) c.in-Signed.is c.in_ok-signs.ensures.found in
    omega (arith, found.one_each, c.make_pivot.ensures.others.same_height, c.requires.row)

pub sign_by_pivot-sign_pivot-requires-clause-column : goal.sign_by_pivot-sign_pivot-requires-clause-column
sign_by_pivot-sign_pivot-requires-clause-column t c =
    let s = c.in-Signed.signs in
    let found : SignsRows c.make_pivot.new.work c.args.left.items s.signs.items s.sums.items = subst (IsOutcome c.make_pivot.new.work c.args.left.items) c.in-Signed.is c.in_ok-signs.ensures.found in
    omega (arith, found.sum_each, c.make_pivot.ensures.others.same_width, c.requires.column)

pub sign_by_pivot-undo_pivot-requires-clause-row : goal.sign_by_pivot-undo_pivot-requires-clause-row
sign_by_pivot-undo_pivot-requires-clause-row t c = omega (arith, c.requires.row, c.make_pivot.ensures.others.same_height, c.sign_left.ensures.others.same_height)

pub sign_by_pivot-undo_pivot-requires-clause-column : goal.sign_by_pivot-undo_pivot-requires-clause-column
sign_by_pivot-undo_pivot-requires-clause-column t c = omega (arith, c.requires.column, c.make_pivot.ensures.others.same_width, c.sign_left.ensures.others.same_width)

pub sign_by_pivot-undo_pivot-requires-clause-row_each : goal.sign_by_pivot-undo_pivot-requires-clause-row_each
sign_by_pivot-undo_pivot-requires-clause-row_each t c =
    let v = c.in-Violated.lines in
    let found : MarksViolator c.make_pivot.new.work c.args.left.items v.rows.items v.columns.items v.odd.items = subst (IsOutcome c.make_pivot.new.work c.args.left.items) c.in-Violated.is c.in_ok-signs.ensures.found in
    found.row_each ∙ sym c.sign_left.ensures.others.same_height

pub sign_by_pivot-undo_pivot-requires-clause-column_each : goal.sign_by_pivot-undo_pivot-requires-clause-column_each
sign_by_pivot-undo_pivot-requires-clause-column_each t c =
    let v = c.in-Violated.lines in
    let found : MarksViolator c.make_pivot.new.work c.args.left.items v.rows.items v.columns.items v.odd.items = subst (IsOutcome c.make_pivot.new.work c.args.left.items) c.in-Violated.is c.in_ok-signs.ensures.found in
    found.column_each ∙ sym c.sign_left.ensures.others.same_width

pub sign_by_pivot-undo_pivot-requires-clause-odd_each : goal.sign_by_pivot-undo_pivot-requires-clause-odd_each
sign_by_pivot-undo_pivot-requires-clause-odd_each t c =
    let v = c.in-Violated.lines in
    let found : MarksViolator c.make_pivot.new.work c.args.left.items v.rows.items v.columns.items v.odd.items = subst (IsOutcome c.make_pivot.new.work c.args.left.items) c.in-Violated.is c.in_ok-signs.ensures.found in
    found.odd_each ∙ sym c.sign_left.ensures.others.same_width

pub sign_by_pivot-returns-in-Signed-clause-others : goal.sign_by_pivot-returns-in-Signed-clause-others
sign_by_pivot-returns-in-Signed-clause-others t c =
    let keeps = subst (KeepsRowsElsewhere c.args.work.now c.make_pivot.new.work) c.deref-2.ensures.value c.make_pivot.ensures.others in
    keeps_through c.args.work.now c.make_pivot.new.work c.sign_left.new.work c.args.left.items keeps c.sign_left.ensures.others

pub sign_by_pivot-returns-in-Violated-clause-others : goal.sign_by_pivot-returns-in-Violated-clause-others
sign_by_pivot-returns-in-Violated-clause-others t c =
    let keeps = subst (KeepsRowsElsewhere c.args.work.now c.make_pivot.new.work) c.deref-2.ensures.value c.make_pivot.ensures.others in
    keeps_through c.args.work.now c.make_pivot.new.work c.sign_left.new.work c.args.left.items keeps c.sign_left.ensures.others

pub sign_aside-sign_left-requires : goal.sign_aside-sign_left-requires
sign_aside-sign_left-requires t c = let falls : 2 * vec_len c.args.left + 1 < t = omega (arith, c.decreases) in (falls, c.requires.rows)

pub sign_aside-sign_aside-requires-clause-row : goal.sign_aside-sign_aside-requires-clause-row
sign_aside-sign_aside-requires-clause-row t c = omega (arith, c.requires.row, c.in_ok-violated.ensures.others.same_height)

pub sign_aside-sign_aside-requires-clause-row_each : goal.sign_aside-sign_aside-requires-clause-row_each
sign_aside-sign_aside-requires-clause-row_each t c =
    let s = c.in-Signed.signs in
    let found : SignsRows c.args.work.now c.args.left.items s.signs.items s.sums.items = subst (IsOutcome c.args.work.now c.args.left.items) c.in-Signed.is c.in_ok-violated.ensures.found in
    found.one_each ∙ sym c.in_ok-violated.ensures.others.same_height

pub sign_aside-sign_aside-requires-clause-column_each : goal.sign_aside-sign_aside-requires-clause-column_each
sign_aside-sign_aside-requires-clause-column_each t c =
    let s = c.in-Signed.signs in
    let found : SignsRows c.args.work.now c.args.left.items s.signs.items s.sums.items = subst (IsOutcome c.args.work.now c.args.left.items) c.in-Signed.is c.in_ok-violated.ensures.found in
    found.sum_each ∙ sym c.in_ok-violated.ensures.others.same_width

pub sign_aside-sign_aside-requires-clause-small : goal.sign_aside-sign_aside-requires-clause-small
sign_aside-sign_aside-requires-clause-small t c =
    let s = c.in-Signed.signs in
    let found : SignsRows c.args.work.now c.args.left.items s.signs.items s.sums.items = subst (IsOutcome c.args.work.now c.args.left.items) c.in-Signed.is c.in_ok-violated.ensures.found in
    λ j h. found.entries j (omega (arith, h, c.in_ok-violated.ensures.others.same_width))
