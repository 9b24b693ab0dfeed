-- The results for some rows, with one row more.
use Rattle.std.proofs.Common.{◌≡◌, List, ◌∷◌, ℕ, Result, Ok, Err, refl}
use Rattle.std.specs.Prelude.{IfOk}
use Rattle.cmr_base.specs.Matrix.{Matrix}
use Rattle.cmr_base.proofs.Lists.{HasOneMore, contains_one_more, contains_later}
use Rattle.ghouila.specs.declared.row_signs.RowSigns.{RowSigns}
use Rattle.ghouila.specs.declared.by_pivots.MarkedSigning.{MarkedSigning}
use Rattle.ghouila.specs.declared.by_pivots.MarkedSigning.TheVariants.{Signed, Violated}
use Rattle.ghouila.specs.MarkedSignings.{IsOutcome}
use Rattle.ghouila.proofs.SignsBack.{signs_reordered}
use Rattle.ghouila.proofs.MarksBack.{marks_among_more}

outcome_reordered : (m : Matrix) (row : ℕ) (left rows : List ℕ) → HasOneMore row left rows → (outcome : MarkedSigning) → IsOutcome m (row ∷ left) outcome → IsOutcome m rows outcome
outcome_reordered m row left rows more (Signed s) is = signs_reordered m row left rows s.signs.items s.sums.items more is
outcome_reordered m row left rows more (Violated v) is = marks_among_more m (row ∷ left) rows v.rows.items v.columns.items v.odd.items (contains_one_more row left rows more) is

pub found_reordered : {E : Type 0} (m : Matrix) (row : ℕ) (left rows : List ℕ) → HasOneMore row left rows → (found : Result MarkedSigning E)
    → IfOk found (IsOutcome m (row ∷ left)) → IfOk found (IsOutcome m rows)
found_reordered m row left rows more (Ok outcome) is = outcome_reordered m row left rows more outcome is
found_reordered m row left rows more (Err e) is = is

-- a violator of fewer rows is one of more rows
pub violated_with_row : (m : Matrix) (row : ℕ) (left : List ℕ) (outcome : MarkedSigning) → ((s : RowSigns) → outcome ≡ Signed s → ⊥) → IsOutcome m left outcome → IsOutcome m (row ∷ left) outcome
violated_with_row m row left (Signed s) other is = absurd (other s refl)
violated_with_row m row left (Violated v) other is = marks_among_more m left (row ∷ left) v.rows.items v.columns.items v.odd.items (λ r there. contains_later r row left there) is
