-- Positions before a cut, by rows and then by columns.
use Rattle.std.proofs.Common.{◌≡◌, ◌≢◌, ◌<◌, ◌≤◌, ◌+◌, inl, inr, ◌∙◌, ℕ, pos, Bool, true, false, Option, Some, None, MatchOption, is_some, ap, sym, subst, arith}
use Rattle.std.proofs.lemmas.Bool.{cases_lt, false≢true}
use Rattle.cmr_base.specs.declared.line.Line.TheVariants.{Row, Column}
use Rattle.cmr_base.specs.declared.position.Position.{Position}
use Rattle.cmr_base.specs.declared.line_set.LineSet.{LineSet}
use Rattle.cmr_base.specs.Matrix.{Matrix, height, entry, IsEntry, IsMatrix, HasTernaryEntries}
use Rattle.ghouila.specs.PivotLaws.{pivot_at}
use Rattle.pivots.specs.declared.matrix_pivot.Pivoted.{Pivoted}
use Rattle.pivots.specs.declared.matrix_pivot.Pivoted.TheVariants.{Ternary, Violated}
use Rattle.pivots.specs.Pivoted.{IsPivoted}
use Rattle.three_sep.specs.FirstCuts.{HasCut, HasNoCut, IsFirstCutOn}
use Rattle.block_ranks.specs.Links.{AreLinkedLines}
use Rattle.block_ranks.specs.PlacesBeforeCuts.{HasNoneUpTo, HasNoPlaceBeforeCut, IsFirstPlaceBeforeCut, IsPlaceBeforeCut}
use Rattle.block_ranks.proofs.LinkedCuts.{linked_has_no_cut}

abbrev pub at : ℕ → ℕ → Position
at row column = record { row = row; column = column }

place_same : (p : Position) (row column : ℕ) → p.row ≡ row → p.column ≡ column → p ≡ at row column
place_same p row column e f = ap (λ (r : ℕ). at r p.column) e ∙ ap (λ (c : ℕ). at row c) f

module _ (m : Matrix) where
  pub none_at_start : HasNoneUpTo m 0 0
  none_at_start place is b = elim b [
    | inl l ↦ absurd (omega arith)
    | inr h ↦ absurd (let l = h.1 in omega arith)
  ]

  pub none_passed : (row column : ℕ) → HasNoneUpTo m row column → ¬ (IsPlaceBeforeCut m (at row column)) → HasNoneUpTo m row (column + 1)
  none_passed row column none not_here place is b = elim b [
    | inl l ↦ none place is (inl l)
    | inr h ↦ elim (cases_lt place.column column) [
      | inl l ↦ none place is (inr (h.0, l))
      | inr l ↦ not_here (subst (IsPlaceBeforeCut m) (place_same place row column h.0 (let a = h.1 in omega arith)) is)
    ]
  ]

  pub zero_passed : (row column : ℕ) → HasNoneUpTo m row column → entry m row column ≡ pos 0 → HasNoneUpTo m row (column + 1)
  zero_passed row column none zero = none_passed row column none (λ is. is.nonzero zero)

  pub none_in_row : (row column : ℕ) → m.width ≤ column → HasNoneUpTo m row column → HasNoneUpTo m (row + 1) 0
  none_in_row row column full none place is b = elim b [
    | inl l ↦ elim (cases_lt place.row row) [
      | inl k ↦ none place is (inl k)
      | inr k ↦ none place is (inr ((let e : place.row ≡ row = omega arith in e), (let c = is.column in omega arith)))
    ]
    | inr h ↦ absurd (let l = h.1 in omega arith)
  ]

  pub none_left : (row : ℕ) → height m ≤ row → HasNoneUpTo m row 0 → HasNoPlaceBeforeCut m
  none_left row full none place is = none place is (inl (let l = is.row in omega arith))

  pub first_here : (row column : ℕ) → HasNoneUpTo m row column → IsPlaceBeforeCut m (at row column) → IsFirstPlaceBeforeCut m (at row column)
  first_here row column none is = record { is = is; first = λ other is' b. none other is' b }

  -- a matrix has one first position
  pub one_first : (p q : Position) → IsFirstPlaceBeforeCut m p → IsFirstPlaceBeforeCut m q → p ≡ q
  one_first p q x y = place_same p q.row q.column row column
    where
      row : p.row ≡ q.row
      row = elim (cases_lt p.row q.row) [
        | inl l ↦ absurd (y.first p x.is (inl l))
        | inr l ↦ elim (cases_lt q.row p.row) [
          | inl k ↦ absurd (x.first q y.is (inl k))
          | inr k ↦ omega arith
        ]
      ]

      column : p.column ≡ q.column
      column = elim (cases_lt p.column q.column) [
        | inl l ↦ absurd (y.first p x.is (inr (row, l)))
        | inr l ↦ elim (cases_lt q.column p.column) [
          | inl k ↦ absurd (x.first q y.is (inr (sym row, k)))
          | inr k ↦ omega arith
        ]
      ]

-- ---- one nonzero

module _ (m : Matrix) (place : Position) (row : place.row < height m) (column : place.column < m.width) (nonzero : entry m place.row place.column ≢ pos 0) where
  -- the pivot has a 2 or a -2
  pub before_two : (by_rows : Matrix) (found : Pivoted) (lines : LineSet) → by_rows ≡ m → found ≡ Violated lines → IsPivoted by_rows place.row place.column found → IsPlaceBeforeCut m place
  before_two by_rows found lines e f pivoted =
      let shown = subst (λ (x : Matrix). IsPivoted x place.row place.column (Violated lines)) e (subst (IsPivoted by_rows place.row place.column) f pivoted) in
      record { row = row; column = column; nonzero = nonzero; after = inl (λ ternary. shown.two (ternary shown.other_row shown.other_column)) }

  -- the matrix after the pivot
  is_after : (by_rows after : Matrix) (found : Pivoted) → by_rows ≡ m → found ≡ Ternary after → IsPivoted by_rows place.row place.column found → after ≡ pivot_at m place.row place.column
  is_after by_rows after found e f pivoted = subst (λ (x : Matrix). IsPivoted x place.row place.column (Ternary after)) e (subst (IsPivoted by_rows place.row place.column) f pivoted)

  pub before_cut : (by_rows after : Matrix) (found : Pivoted) → by_rows ≡ m → found ≡ Ternary after → IsPivoted by_rows place.row place.column found → HasCut after → IsPlaceBeforeCut m place
  before_cut by_rows after found e f pivoted cut =
      record { row = row; column = column; nonzero = nonzero; after = inr (subst HasCut (is_after by_rows after found e f pivoted) cut) }

  pub not_before_cut : (by_rows after : Matrix) (found : Pivoted) → by_rows ≡ m → found ≡ Ternary after → IsPivoted by_rows place.row place.column found
      → IsMatrix after → HasNoCut after → ¬ (IsPlaceBeforeCut m place)
  not_before_cut by_rows after found e f pivoted is none before =
      let made = is_after by_rows after found e f pivoted in
      elim before.after [
        | inl two ↦ two (subst (λ (x : Matrix). (i j : ℕ) → IsEntry (entry x i j)) made is.small)
        | inr cut ↦ subst HasNoCut made none cut.0 cut.1
      ]

  pub not_before_linked : (by_rows after : Matrix) (found : Pivoted) → by_rows ≡ m → found ≡ Ternary after → IsPivoted by_rows place.row place.column found → IsMatrix after
      → IsMatrix m → AreLinkedLines m (Row place.row) (Column place.column) → ¬ (IsPlaceBeforeCut m place)
  not_before_linked by_rows after found e f pivoted shape is linked =
      let made = is_after by_rows after found e f pivoted in
      let none = linked_has_no_cut m is place.row place.column row column nonzero (subst HasTernaryEntries made shape.small) linked in
      not_before_cut by_rows after found e f pivoted shape (subst HasNoCut (sym made) none)

-- ---- whether there is a cut

abbrev pub IsFoundCut : Matrix → Option LineSet → Type 0
IsFoundCut m found = MatchOption found (HasNoCut m) (λ lines. IsFirstCutOn m lines.rows lines.columns)

pub some_cut : (m view : Matrix) (found : Option LineSet) (has : Bool) → view ≡ m → IsFoundCut view found → has ≡ is_some found → has ≡ true → HasCut m
some_cut m view None has e none f is = absurd (false≢true (sym f ∙ is))
some_cut m view (Some lines) has e first f is = subst HasCut e (_, first.cut)

pub no_cut : (m view : Matrix) (found : Option LineSet) (has : Bool) → view ≡ m → IsFoundCut view found → has ≡ is_some found → has ≡ false → HasNoCut m
no_cut m view None has e none f is = subst HasNoCut e none
no_cut m view (Some lines) has e first f is = absurd (false≢true (sym is ∙ f))
