-- A run with one step more at its start.
use Rattle.std.proofs.Common.{◌≡◌, ◌≢◌, ◌<◌, ◌++◌, ◌∙◌, ℕ, Option, Some, None, ℤ, pos, neg_ℤ, ◌+ℤ◌, ◌*ℤ◌, List, [], ◌∷◌, length, get_or, set, refl, ap, sym, subst, arith}
use Rattle.std.specs.List.{AllByRecursion, remove}
use Rattle.std.proofs.lemmas.List.{get_or-set_same, get_or-set_other, append_assoc}
use Rattle.cmr_base.specs.Matrix.{Matrix, entry}
use Rattle.cmr_base.specs.Sums.{sum_over}
use Rattle.cmr_base.proofs.Integers.{sums, products}
use Rattle.cmr_base.proofs.SumLaws.{sum_over_same}
use Rattle.cmr_base.proofs.Lists.{all_at, all_weaker, all_without}
use Rattle.ghouila.specs.declared.by_pivots.Pivot.{Pivot}
use Rattle.ghouila.specs.SignRuns.{IsPivotNext, IsPutAside, IsPivotMade, pivot_sign, SignsBySteps}
use Rattle.ghouila.specs.declared.row_signs.RowSigns.{RowSigns}
use Rattle.ghouila.specs.declared.by_pivots.MarkedSigning.{MarkedSigning}
use Rattle.ghouila.specs.declared.by_pivots.MarkedSigning.TheVariants.{Signed, Violated}
use Rattle.cmr_base.specs.PlacedPivots.{pivoted}
use Rattle.ghouila.specs.Pivot.{IsOutside, PivotsRows}
use Rattle.ghouila.specs.Found.{SignsRows}
use Rattle.ghouila.specs.MarkedSignings.{AddsRun}
use Rattle.ghouila.proofs.PivotSums.{pivoted_at}
use Rattle.ghouila.proofs.LeftRows.{one_more-remove}

pub signed_turned : (sign : ℕ → ℤ) (a : ℤ) (f : ℕ → ℤ) (left : List ℕ) → sum_over left (λ i. sign i *ℤ neg_ℤ (a *ℤ f i)) ≡ neg_ℤ (a *ℤ sum_over left (λ i. sign i *ℤ f i))
signed_turned sign a f [] = simp products
signed_turned sign a f (i ∷ left) = rw (signed_turned sign a f left) (add (sign i) a (f i) (sum_over left (λ k. sign k *ℤ f k)))
  where
    add : (s a p g : ℤ) → s *ℤ neg_ℤ (a *ℤ p) +ℤ neg_ℤ (a *ℤ g) ≡ neg_ℤ (a *ℤ (s *ℤ p +ℤ g))
    add s a p g = simp products (omega (arith, sums))

pivot_sign_same : (m : Matrix) (row column : ℕ) (left : List ℕ) (s s' : ℕ → ℤ) → AllByRecursion (λ r. s' r ≡ s r) left → pivot_sign m row column left s ≡ pivot_sign m row column left s'
pivot_sign_same m row column left s s' same = ap (λ z. neg_ℤ (entry m row column *ℤ z))
    (sum_over_same left (λ i. s i *ℤ entry m i column) (λ i. s' i *ℤ entry m i column) (all_weaker (λ r. s' r ≡ s r) (λ r. s r *ℤ entry m r column ≡ s' r *ℤ entry m r column) (λ r e. ap (λ z. z *ℤ entry m r column) (sym e)) left same))

next_same : (m : Matrix) (rows left : List ℕ) (row column : ℕ) (P : ℕ → Type 0) → IsPivotNext m rows row column left → AllByRecursion P rows → P row × AllByRecursion P left
next_same m rows left row column P next all = (
  subst P (sym next.row_is) (all_at P rows next.place 0 all next.first.pivot.within),
  subst (AllByRecursion P) (sym next.left_is) (all_without P (get_or rows next.place 0) (remove rows next.place) rows (one_more-remove rows next.place next.first.pivot.within) all),
)

signs_first : (steps : List Pivot) (s s' : ℕ → ℤ) → ((m : Matrix) (rows : List ℕ) → AllByRecursion (λ r. s' r ≡ s r) rows → SignsBySteps m rows steps s → SignsBySteps m rows steps s')
    → (row : ℕ) (column : Option ℕ) (m : Matrix) (rows : List ℕ) → AllByRecursion (λ r. s' r ≡ s r) rows → SignsBySteps m rows (record { row = row; column = column } ∷ steps) s → SignsBySteps m rows (record { row = row; column = column } ∷ steps) s'
signs_first steps s s' others row None m rows same (left, (aside, one, rest)) =
    let all = subst (AllByRecursion (λ r. s' r ≡ s r)) aside.rows_are same in (left, (aside, all.0 ∙ one, others m left all.1 rest))
signs_first steps s s' others row (Some column) m rows same (left, (next, sign, (after, made, rest))) =
    let all = next_same m rows left row column (λ r. s' r ≡ s r) next same in (left, (next, all.0 ∙ sign ∙ pivot_sign_same m row column left s s' all.1, (after, made, others after left all.1 rest)))

-- a run depends only on the signs of its rows
pub signs_same : (steps : List Pivot) (s s' : ℕ → ℤ) (m : Matrix) (rows : List ℕ) → AllByRecursion (λ r. s' r ≡ s r) rows → SignsBySteps m rows steps s → SignsBySteps m rows steps s'
signs_same [] s s' m rows same run = run
signs_same (step ∷ steps) s s' m rows same run = signs_first steps s s' (signs_same steps s s') step.row step.column m rows same run

pub signs_pivot : (before after : Matrix) (rows left : List ℕ) (row column : ℕ) (steps : List Pivot) (s s' : ℕ → ℤ) → IsPivotNext before rows row column left → IsPivotMade before after row column left
    → AllByRecursion (λ r. s' r ≡ s r) left → s' row ≡ pivot_sign before row column left s → SignsBySteps after left steps s → SignsBySteps before rows (record { row = row; column = Some column } ∷ steps) s'
signs_pivot before after rows left row column steps s s' next made same sign run = (left, (next, sign ∙ pivot_sign_same before row column left s s' same, (after, made, signs_same steps s s' after left same run)))

pub signs_aside : (m : Matrix) (rows left : List ℕ) (row : ℕ) (steps : List Pivot) (s s' : ℕ → ℤ) → IsPutAside m rows row left → AllByRecursion (λ r. s' r ≡ s r) left → s' row ≡ pos 1
    → SignsBySteps m left steps s → SignsBySteps m rows (record { row = row; column = None } ∷ steps) s'
signs_aside m rows left row steps s s' aside same one run = (left, (aside, one, signs_same steps s s' m left same run))

-- the sign that the code gives to a pivot's row
set_elsewhere : (signs : List ℤ) (row : ℕ) (sign : ℤ) (left : List ℕ) → IsOutside row left → AllByRecursion (λ r. get_or (set signs row sign) r (pos 0) ≡ get_or signs r (pos 0)) left
set_elsewhere signs row sign left out = all_weaker (λ r. r ≢ row) (λ r. get_or (set signs row sign) r (pos 0) ≡ get_or signs r (pos 0)) (λ r apart. get_or-set_other signs row r sign (pos 0) apart) left out

pivot_row_sign : (before after : Matrix) (row column : ℕ) (left : List ℕ) (signs sums : List ℤ) → column < before.width → after.width ≡ before.width
    → PivotsRows before after row column left → SignsRows after left signs sums
    → get_or sums column (pos 0) ≡ pivot_sign before row column left (λ r. get_or signs r (pos 0))
pivot_row_sign before after row column left signs sums inside same_width pivots found =
    found.sums_are column (omega arith)
    ∙ sum_over_same left (λ r. get_or signs r (pos 0) *ℤ entry after r column) (λ r. get_or signs r (pos 0) *ℤ neg_ℤ (entry before row column *ℤ entry before r column))
    (all_weaker (λ r. (j : ℕ) → j < before.width → entry after r j ≡ pivoted (entry before) row column r j) (λ r. get_or signs r (pos 0) *ℤ entry after r column ≡ get_or signs r (pos 0) *ℤ neg_ℤ (entry before row column *ℤ entry before r column))
    (λ r is. ap (λ z. get_or signs r (pos 0) *ℤ z) (is column inside ∙ pivoted_at (entry before) row column r)) left pivots)
    ∙ signed_turned (λ r. get_or signs r (pos 0)) (entry before row column) (λ r. entry before r column) left

pub signs_set_pivot : (before after : Matrix) (rows left : List ℕ) (row column : ℕ) (steps : List Pivot) (signs sums signs' : List ℤ)
    → IsPivotNext before rows row column left → IsPivotMade before after row column left
    → IsOutside row left → row < length signs → column < before.width → SignsRows after left signs sums → signs' ≡ set signs row (get_or sums column (pos 0))
    → SignsBySteps after left steps (λ r. get_or signs r (pos 0))
    → SignsBySteps before rows (record { row = row; column = Some column } ∷ steps) (λ r. get_or signs' r (pos 0))
signs_set_pivot before after rows left row column steps signs sums signs' next made out inside column_in found e run =
    subst (λ xs. SignsBySteps before rows (record { row = row; column = Some column } ∷ steps) (λ r. get_or xs r (pos 0))) (sym e)
    (signs_pivot before after rows left row column steps (λ r. get_or signs r (pos 0)) (λ r. get_or (set signs row (get_or sums column (pos 0))) r (pos 0)) next made (set_elsewhere signs row (get_or sums column (pos 0)) left out)
    (get_or-set_same signs row (get_or sums column (pos 0)) (pos 0) inside ∙ pivot_row_sign before after row column left signs sums column_in made.same_width made.made found) run)

pub signs_set_aside : (m : Matrix) (rows left : List ℕ) (row : ℕ) (steps : List Pivot) (signs signs' : List ℤ) → IsPutAside m rows row left → IsOutside row left
    → row < length signs → signs' ≡ set signs row (pos 1)
    → SignsBySteps m left steps (λ r. get_or signs r (pos 0)) → SignsBySteps m rows (record { row = row; column = None } ∷ steps) (λ r. get_or signs' r (pos 0))
signs_set_aside m rows left row steps signs signs' aside out inside e run =
    subst (λ xs. SignsBySteps m rows (record { row = row; column = None } ∷ steps) (λ r. get_or xs r (pos 0))) (sym e)
    (signs_aside m rows left row steps (λ r. get_or signs r (pos 0)) (λ r. get_or (set signs row (pos 1)) r (pos 0)) aside (set_elsewhere signs row (pos 1) left out) (get_or-set_same signs row (pos 1) (pos 0) inside) run)

pub first_and_others : (rows : List ℕ) → 0 < length rows → rows ≡ get_or rows 0 0 ∷ remove rows 0
first_and_others [] h = absurd (omega arith)
first_and_others (row ∷ rows) h = refl

pub steps_later : (before middle : List Pivot) (step : Pivot) (steps : List Pivot) → middle ≡ before ++ step ∷ [] → middle ++ steps ≡ before ++ step ∷ steps
steps_later before middle step steps e = ap (λ xs. xs ++ steps) e ∙ append_assoc before (step ∷ []) steps

-- a violator of the remaining rows is one after a row was put aside
pub violated_aside : (m : Matrix) (rows left : List ℕ) (row : ℕ) (before middle after : List Pivot) (outcome : MarkedSigning) → ((s : RowSigns) → outcome ≡ Signed s → ⊥) → IsPutAside m rows row left
    → middle ≡ before ++ record { row = row; column = None } ∷ [] → AddsRun m left middle after outcome → AddsRun m rows before after outcome
violated_aside m rows left row before middle after (Signed s) other aside e run = absurd (other s refl)
violated_aside m rows left row before middle after (Violated v) other aside e run =
    (record { row = row; column = None } ∷ run.0, run.1 ∙ steps_later before middle (record { row = row; column = None }) run.0 e, (left, (aside, run.2)))
