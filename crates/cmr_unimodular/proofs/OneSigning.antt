-- A matrix has a unique signing by Camion.
use Rattle.std.proofs.Common.{◌≡◌, ◌∙◌, ◌+ℤ◌, ◌-ℤ◌, inl, inr, ℕ, ℤ, List, [], ◌∷◌, refl, ap, ap₂, sym, subst, arith}
use Rattle.cmr_base.specs.Matrix.{Matrix, entry, IsMatrix}
use Rattle.cmr_base.specs.Members.{IsIn}
use Rattle.cmr_base.specs.LineSets.{submatrix_sum}
use Rattle.cmr_base.specs.Signing.{IsSign}
use Rattle.cmr_base.specs.CyclePlaces.{cycle_rows, cycle_columns}
use Rattle.cmr_base.specs.declared.line_set.LineSet.{LineSet}
use Rattle.cmr_base.proofs.Integers.{sums}
use Rattle.cmr_base.proofs.Booleans.{neither}
use Rattle.chains.specs.declared.step.SignStep.{SignStep}
use Rattle.chains.specs.declared.step.SignStep.TheVariants.{Free, Forced}
use Rattle.camion_sign.specs.SignOrder.{IsPlaceOf, IsForcedBy, IsCycleLines, IsNextForced, IsNextFree, IsRowsTurn, IsNextSign, IsSignedBy}
use Rattle.chains.specs.SignSteps.{AllSigned, AreSigns, IsUnsignedOne, LeadTo, signed_by, step_row, step_column, unsigned}
use Rattle.chains.proofs.ChainViolators.{sign_four, unsigned_signs}
use Rattle.camion_sign.proofs.ForcedCycles.{sum_more}
use Rattle.chains.proofs.GivenSigns.{signs_more}
use Rattle.camion_sign.proofs.FirstFaults.{place_unique}
use Rattle.separating_places.proofs.SameSets.{same_numbers}

-- ---- one cycle

one_place : (a : Matrix) (row c d : ℕ) (p q : List ℕ) → IsPlaceOf a row c d p → IsPlaceOf a row c d q → p ≡ q
one_place a row c d p q (inl x) (inl y) = place_unique (entry a) row c d p q x y
one_place a row c d p q (inl x) (inr y) = absurd (let l = x.order in let m = y.order in omega arith)
one_place a row c d p q (inr x) (inl y) = absurd (let l = x.order in let m = y.order in omega arith)
one_place a row c d p q (inr x) (inr y) = place_unique (entry a) row d c p q x y

one_cycle : (a : Matrix) (row c d : ℕ) (x y : LineSet) → IsCycleLines a row c d x → IsCycleLines a row c d y → x ≡ y
one_cycle a row c d x y p q = ap₂ (λ rows columns. let lines : LineSet = record { rows = rows; columns = columns } in lines) rows columns
  where
    path : p.path ≡ q.path
    path = one_place a row c d p.path q.path p.place q.place

    rows : x.rows ≡ y.rows
    rows = same_numbers x.rows y.rows p.row_set.increasing q.row_set.increasing
        (λ i h. (q.rows_are i).1 (subst (λ w. IsIn i (cycle_rows row w)) path ((p.rows_are i).0 h)))
        (λ i h. (p.rows_are i).1 (subst (λ w. IsIn i (cycle_rows row w)) (sym path) ((q.rows_are i).0 h)))

    columns : x.columns ≡ y.columns
    columns = same_numbers x.columns y.columns p.column_set.increasing q.column_set.increasing
        (λ j h. (q.columns_are j).1 (subst (λ w. IsIn j (cycle_columns c d w)) path ((p.columns_are j).0 h)))
        (λ j h. (p.columns_are j).1 (subst (λ w. IsIn j (cycle_columns c d w)) (sym path) ((q.columns_are j).0 h)))

-- ---- one next step

module _ (a s : Matrix) where
  next_turn : (step : SignStep) (v : ℤ) → IsNextSign a s step v → IsRowsTurn a s (step_row step)
  next_turn (Free row column) v (turn, next, e) = turn
  next_turn (Forced row column cycle) v (turn, next) = turn

  next_one : (step : SignStep) (v : ℤ) → IsNextSign a s step v → IsUnsignedOne a s (step_row step) (step_column step)
  next_one (Free row column) v (turn, next, e) = next.here
  next_one (Forced row column cycle) v (turn, next) = next.here

  next_sign : (step : SignStep) (v : ℤ) → IsNextSign a s step v → IsSign v
  next_sign (Free row column) v (turn, next, e) = inl e
  next_sign (Forced row column cycle) v (turn, next) = next.is_sign

  same_row : (row column other_row other_column : ℕ) → IsRowsTurn a s row → IsRowsTurn a s other_row → IsUnsignedOne a s row column → IsUnsignedOne a s other_row other_column → row ≡ other_row
  same_row row column other_row other_column turn turn' here here' = neither row other_row (λ l. turn'.earlier row column l here.one here.no_sign) (λ l. turn.earlier other_row other_column l here'.one here'.no_sign)

  same_free : (row column other : ℕ) → IsNextFree a s row column → IsNextFree a s row other → column ≡ other
  same_free row column other next next' = neither column other (λ l. next'.least column l next.here) (λ l. next.least other l next'.here)

  forced_by : (row column : ℕ) (cycle : LineSet) (v : ℤ) (next : IsNextForced a s row column cycle v) → IsForcedBy a s row column next.partner
  forced_by row column cycle v next = (next.signed, (next.cycle_is.path, next.cycle_is.place))

  free_or_forced : (row column other : ℕ) (cycle : LineSet) (v : ℤ) → IsNextFree a s row column → ¬ (IsNextForced a s row other cycle v)
  free_or_forced row column other cycle v next next' = next.unforced other next'.here next'.partner (forced_by row other cycle v next')

  same_forced : (row column other : ℕ) (x y : LineSet) (v w : ℤ) → IsNextForced a s row column x v → IsNextForced a s row other y w → column ≡ other
  same_forced row column other x y v w next next' =
      neither column other (λ l. next'.least_column column l next.here next.partner (forced_by row column x v next)) (λ l. next.least_column other l next'.here next'.partner (forced_by row other y w next'))

  same_partner : (row column : ℕ) (x y : LineSet) (v w : ℤ) (next : IsNextForced a s row column x v) (next' : IsNextForced a s row column y w) → next.partner ≡ next'.partner
  same_partner row column x y v w next next' =
      neither next.partner next'.partner (λ l. next'.least_partner next.partner l (forced_by row column x v next)) (λ l. next.least_partner next'.partner l (forced_by row column y w next'))

  same_cycle : (row column : ℕ) (x y : LineSet) (v w : ℤ) → IsNextForced a s row column x v → IsNextForced a s row column y w → x ≡ y
  same_cycle row column x y v w next next' =
      one_cycle a row next.partner column x y next.cycle_is (subst (λ c. IsCycleLines a row c column y) (sym (same_partner row column x y v w next next')) next'.cycle_is)

  module _ (is : IsMatrix a) (signs : AreSigns a s) where
    same_sign : (row column : ℕ) (cycle : LineSet) (v w : ℤ) → IsRowsTurn a s row → IsNextForced a s row column cycle v → IsNextForced a s row column cycle w → v ≡ w
    same_sign row column cycle v w turn next next' =
        sign_four (sum +ℤ v) (sum +ℤ w) v w (plain sum v w)
        (subst IsZero (sum_more a s is signs row next.partner column turn next.here next.signed cycle next.cycle_is v) next.four)
        (subst IsZero (sum_more a s is signs row next.partner column turn next.here next.signed cycle next.cycle_is w) next'.four)
        next.is_sign next'.is_sign
      where
        sum : ℤ
        sum = submatrix_sum s cycle.rows cycle.columns

        IsZero : ℤ → Type 0
        IsZero z = (k : ℤ) × (z ≡ (k +ℤ k) +ℤ (k +ℤ k))

        plain : (x v w : ℤ) → (x +ℤ v) -ℤ (x +ℤ w) ≡ v -ℤ w
        plain x v w = omega (arith, sums)

    -- forced steps of one row
    one_forced : (row column other : ℕ) (x y : LineSet) (v w : ℤ) → IsRowsTurn a s row → IsNextForced a s row column x v → IsNextForced a s row other y w
        → (Forced row column x ≡ Forced row other y) × (v ≡ w)
    one_forced row column other x y v w turn next next' =
        let e : column ≡ other = same_forced row column other x y v w next next' in
        let moved : IsNextForced a s row column y w = subst (λ c. IsNextForced a s row c y w) (sym e) next' in
        let f : x ≡ y = same_cycle row column x y v w next moved in
        (ap₂ (Forced row) e f, same_sign row column x v w turn next (subst (λ cycle. IsNextForced a s row column cycle w) (sym f) moved))

    one_next : (step other : SignStep) (v w : ℤ) → step_row step ≡ step_row other → IsNextSign a s step v → IsNextSign a s other w → (step ≡ other) × (v ≡ w)
    one_next (Free row column) (Free other_row other) v w e (turn, next, plus) (turn', next', plus') =
        (ap₂ Free e (same_free row column other next (subst (λ r. IsNextFree a s r other) (sym e) next')), plus ∙ sym plus')
    one_next (Free row column) (Forced other_row other cycle) v w e (turn, next, plus) (turn', next') =
        absurd (free_or_forced row column other cycle w next (subst (λ r. IsNextForced a s r other cycle w) (sym e) next'))
    one_next (Forced row column cycle) (Free other_row other) v w e (turn, next) (turn', next', plus') =
        absurd (free_or_forced other_row other column cycle v next' (subst (λ r. IsNextForced a s r column cycle v) e next))
    one_next (Forced row column x) (Forced other_row other y) v w e (turn, next) (turn', next') =
        let same = one_forced row column other x y v w turn next (subst (λ r. IsNextForced a s r other y w) (sym e) next') in
        (same.0 ∙ ap (λ r. Forced r other y) e, same.1)

-- ---- one signing

-- if all ones have signs, there is no next step
none_next : (a s m : Matrix) (step : SignStep) (v : ℤ) → s ≡ m → AllSigned a m → ¬ (IsNextSign a s step v)
none_next a s m step v e all next =
    let here = next_one a s step v next in
    subst (AllSigned a) (sym e) all (step_row step) (step_column step) here.one here.no_sign

one_lead : (a s m n : Matrix) (steps others : List SignStep) → IsMatrix a → AreSigns a s → LeadTo (IsNextSign a) s steps m → LeadTo (IsNextSign a) s others n
    → AllSigned a m → AllSigned a n → (steps ≡ others) × (m ≡ n)
one_lead a s m n [] [] is signs e f all all' = (refl, sym e ∙ f)
one_lead a s m n [] (other ∷ others) is signs e (w, next', rest') all all' = absurd (none_next a s m other w e all next')
one_lead a s m n (step ∷ steps) [] is signs (v, next, rest) f all all' = absurd (none_next a s n step v f all' next)
one_lead a s m n (step ∷ steps) (other ∷ others) is signs (v, next, rest) (w, next', rest') all all' =
    let here = next_one a s step v next in
    let row = same_row a s (step_row step) (step_column step) (step_row other) (step_column other) (next_turn a s step v next) (next_turn a s other w next') here (next_one a s other w next') in
    let same = one_next a s is signs step other v w row next next' in
    let later = one_lead a (signed_by s step v) m n steps others is (signs_more a s is.rectangular signs (step_row step) (step_column step) v here.one (next_sign a s step v next)) rest
    (subst (λ x. LeadTo (IsNextSign a) (signed_by s step x) others n) (sym same.1) (subst (λ x. LeadTo (IsNextSign a) (signed_by s x w) others n) (sym same.0) rest')) all all' in
    (ap₂ (λ first (rest : List SignStep). first ∷ rest) same.0 later.0, later.1)

-- two signings by Camion of a matrix have the same steps and the same signs
pub one_signing : (a m n : Matrix) (steps others : List SignStep) → IsMatrix a → IsSignedBy a steps m → IsSignedBy a others n → (steps ≡ others) × (m ≡ n)
one_signing a m n steps others is x y = one_lead a (unsigned a) m n steps others is (unsigned_signs a) x.steps_are y.steps_are x.all_signed y.all_signed
