-- Lines outside that break a rule with a line inside are added, first the rows and then the columns.
use Rattle.std.proofs.Common.{◌≡◌, ◌<◌, ◌≤◌, ◌+◌, ◌∙◌, ℕ, ℤ, true, false, not, List, length, ap, sym, subst, refl, arith, inl, inr, ◌⊎◌}
use Rattle.std.proofs.lemmas.Bool.{cases_lt}
use Rattle.cmr_base.specs.declared.line.Line.{Line}
use Rattle.cmr_base.specs.declared.line.Line.TheVariants.{Row, Column}
use Rattle.cmr_base.specs.BitSets.{Bits}
use Rattle.cmr_base.specs.ColumnSets.{has_column}
use Rattle.cmr_base.specs.Matrix.{Matrix, height, entry}
use Rattle.cmr_base.specs.Members.{IsIn}
use Rattle.cmr_base.specs.Separations.{Lines}
use Rattle.cmr_base.specs.Seeds.{HasAll, IsLine, count as number_of_lines}
use Rattle.cmr_base.proofs.Booleans.{false_is, not_both, not_is, true_is}
use Rattle.cmr_base.proofs.ListedLines.{contains_first_lines}
use Rattle.cmr_base.proofs.Lists.{all_weaker}
use Rattle.cmr_base.proofs.SeedLemmas.{count_grows}
use Rattle.line_growth.specs.declared.growing_set.GrowingSet.{GrowingSet}
use Rattle.line_growth.specs.GrowingLines.{Growth, HasAdded, count_left, is_inside, room}
use Rattle.line_growth.specs.GrowingSets.{HasSameSizes, HasSwept, HasSweptColumns, HasSweptRows, IsClosedIn, IsGrowing, IsSizedFor, PullsColumn, PullsRow, set_of, work}
use Rattle.line_growth.proofs.LineSteps.{grown_more, grown_none}

-- ---- the rows

module _ (m : Matrix) (lower : ℕ → ℕ → ℤ) where
  pub no_rows : (set : GrowingSet) → HasSweptRows m lower 0 set set
  no_rows set = record { columns = refl; grown = grown_none (PullsRow m lower set) set.rows; agree = λ row column l. absurd (omega arith) }

  module _ (most : ℕ) (before set : GrowingSet) (swept : HasSweptRows m lower most before set) where
    column_same : (column : ℕ) → set_of set (Column column) ≡ set_of before (Column column)
    column_same column = ap (λ (lines : Growth). is_inside lines column) swept.columns

    -- rows inside are passed
    pub rows_passed : (next : ℕ) → ((row : ℕ) → most ≤ row → row < next → set_of set (Row row) ≡ true) → HasSweptRows m lower next before set
    rows_passed next within = record {
      columns = swept.columns;
      grown = swept.grown;
      agree = λ r k low out inside. elim (cases_lt r most) [
        | inl h ↦ swept.agree r k h out inside
        | inr h ↦ absurd (not_both (set_of set (Row r)) (within r h low) out)
      ];
    }

    -- a row that breaks the rule is added
    pub row_swept_in : (after : GrowingSet) → HasAdded most set.rows after.rows → after.columns ≡ set.columns → PullsRow m lower set most → HasSweptRows m lower (most + 1) before after
    row_swept_in after added columns (column, l, e, differs) = record {
      columns = columns ∙ swept.columns;
      grown = grown_more (PullsRow m lower before) before.rows set.rows after.rows swept.grown most added (column, l, sym (column_same column) ∙ e, differs);
      agree = λ r k low out inside. elim (cases_lt r most) [
        | inl h ↦ swept.agree r k h (false_is (set_of set (Row r)) (λ t. not_both (set_of after (Row r)) (added.grown.kept r t) out)) inside
        | inr h ↦ let q : r ≡ most = omega arith in absurd (not_both (set_of after (Row r)) (subst (λ (z : ℕ). set_of after (Row z) ≡ true) (sym q) added.line_in) out)
      ];
    }

    -- another row does not break the rule
    pub row_left_out : ((column : ℕ) → set_of set (Column column) ≡ true → entry m most column ≡ lower most column) → HasSweptRows m lower (most + 1) before set
    row_left_out here = record {
      columns = swept.columns;
      grown = swept.grown;
      agree = λ r k low out inside. elim (cases_lt r most) [
        | inl h ↦ swept.agree r k h out inside
        | inr h ↦ let q : r ≡ most = omega arith in
            subst (λ (z : ℕ). entry m z k ≡ lower z k) (sym q) (here k (column_same k ∙ inside))
      ];
    }

-- ---- the columns

module _ (m : Matrix) (upper : ℕ → ℕ → ℤ) where
  pub no_columns : (set : GrowingSet) → HasSweptColumns m upper 0 set set
  no_columns set = record { rows = refl; grown = grown_none (PullsColumn m upper set) set.columns; agree = λ row column l. absurd (omega arith) }

  module _ (most : ℕ) (before set : GrowingSet) (swept : HasSweptColumns m upper most before set) where
    row_same : (row : ℕ) → set_of set (Row row) ≡ set_of before (Row row)
    row_same row = ap (λ (lines : Growth). is_inside lines row) swept.rows

    -- columns inside are passed
    pub columns_passed : (next : ℕ) → ((column : ℕ) → most ≤ column → column < next → set_of set (Column column) ≡ true) → HasSweptColumns m upper next before set
    columns_passed next within = record {
      rows = swept.rows;
      grown = swept.grown;
      agree = λ r k low inside out. elim (cases_lt k most) [
        | inl h ↦ swept.agree r k h inside out
        | inr h ↦ absurd (not_both (set_of set (Column k)) (within k h low) out)
      ];
    }

    -- a column that breaks the rule is added
    pub column_swept_in : (after : GrowingSet) → HasAdded most set.columns after.columns → after.rows ≡ set.rows → PullsColumn m upper set most → HasSweptColumns m upper (most + 1) before after
    column_swept_in after added rows (row, l, e, differs) = record {
      rows = rows ∙ swept.rows;
      grown = grown_more (PullsColumn m upper before) before.columns set.columns after.columns swept.grown most added (row, l, sym (row_same row) ∙ e, differs);
      agree = λ r k low inside out. elim (cases_lt k most) [
        | inl h ↦ swept.agree r k h inside (false_is (set_of set (Column k)) (λ t. not_both (set_of after (Column k)) (added.grown.kept k t) out))
        | inr h ↦ let q : k ≡ most = omega arith in absurd (not_both (set_of after (Column k)) (subst (λ (z : ℕ). set_of after (Column z) ≡ true) (sym q) added.line_in) out)
      ];
    }

    -- another column does not break the rule
    pub column_left_out : ((row : ℕ) → set_of set (Row row) ≡ true → entry m row most ≡ upper row most) → HasSweptColumns m upper (most + 1) before set
    column_left_out here = record {
      rows = swept.rows;
      grown = swept.grown;
      agree = λ r k low inside out. elim (cases_lt k most) [
        | inl h ↦ swept.agree r k h inside out
        | inr h ↦ let q : k ≡ most = omega arith in
            subst (λ (z : ℕ). entry m r z ≡ upper r z) (sym q) (here r (row_same r ∙ inside))
      ];
    }

-- ---- both

-- After the rows and the columns, only the new columns wait.
module _ (m : Matrix) (upper lower : ℕ → ℕ → ℤ) (before cleared with_rows with_columns after : GrowingSet) (same_rows : cleared.rows ≡ before.rows) (same_columns : cleared.columns.inside ≡ before.columns.inside)
    (rows : HasSweptRows m lower (height m) cleared with_rows) (columns : HasSweptColumns m upper m.width with_rows with_columns) (after_rows : after.rows.inside ≡ with_columns.rows.inside) (after_columns : after.columns ≡ with_columns.columns) where
  row_in : (r : ℕ) → set_of after (Row r) ≡ set_of with_rows (Row r)
  row_in r = ap (λ (b : Bits). has_column b.words r) after_rows ∙ ap (λ (v : Growth). is_inside v r) columns.rows

  column_in : (k : ℕ) → set_of after (Column k) ≡ set_of with_columns (Column k)
  column_in k = ap (λ (v : Growth). is_inside v k) after_columns

  row_before : (r : ℕ) → set_of cleared (Row r) ≡ set_of before (Row r)
  row_before r = ap (λ (v : Growth). is_inside v r) same_rows

  column_cleared : (k : ℕ) → set_of cleared (Column k) ≡ set_of before (Column k)
  column_cleared k = ap (λ (b : Bits). has_column b.words k) same_columns

  column_before : (k : ℕ) → set_of with_rows (Column k) ≡ set_of before (Column k)
  column_before k = ap (λ (v : Growth). is_inside v k) rows.columns ∙ column_cleared k

  has : (x : Line) → set_of before x ≡ true → set_of after x ≡ true
  has (Row r) e = row_in r ∙ rows.grown.kept r (row_before r ∙ e)
  has (Column k) e = column_in k ∙ columns.grown.kept k (column_before k ∙ e)

  -- a row is inside if it was inside or breaks the rule
  row_from : (r : ℕ) → set_of after (Row r) ≡ true → (set_of before (Row r) ≡ true) ⊎ PullsRow m lower before r
  row_from r e = elim (rows.grown.only r (sym (row_in r) ∙ e)) [
    | inl h ↦ inl (sym (row_before r) ∙ h)
    | inr (k, l, inside, differs) ↦ inr (k, l, sym (column_cleared k) ∙ inside, differs)
  ]

  row_to : (r : ℕ) → r < height m → (set_of before (Row r) ≡ true) ⊎ PullsRow m lower before r → set_of after (Row r) ≡ true
  row_to r l (inl e) = has (Row r) e
  row_to r l (inr (k, lk, inside, differs)) = true_is (set_of after (Row r)) (λ out. differs (rows.agree r k l (sym (row_in r) ∙ out) (column_cleared k ∙ inside)))

  column_from : (k : ℕ) → set_of after (Column k) ≡ true → (set_of before (Column k) ≡ true) ⊎ PullsColumn m upper after k
  column_from k e = elim (columns.grown.only k (sym (column_in k) ∙ e)) [
    | inl h ↦ inl (sym (column_before k) ∙ h)
    | inr (r, l, inside, differs) ↦ inr (r, l, row_in r ∙ inside, differs)
  ]

  column_to : (k : ℕ) → k < m.width → (set_of before (Column k) ≡ true) ⊎ PullsColumn m upper after k → set_of after (Column k) ≡ true
  column_to k l (inl e) = has (Column k) e
  column_to k l (inr (r, lr, inside, differs)) = true_is (set_of after (Column k)) (λ out. differs (columns.agree r k l (sym (row_in r) ∙ inside) (sym (column_in k) ∙ out)))

  new_column_waits : (k : ℕ) → set_of after (Column k) ≡ true → (set_of before (Column k) ≡ true) ⊎ IsIn k after.columns.fresh
  new_column_waits k e = elim (columns.grown.news k (sym (column_in k) ∙ e)) [
    | inl h ↦ inl (sym (column_before k) ∙ h)
    | inr h ↦ inr (subst (λ (v : Growth). IsIn k v.fresh) (sym after_columns) h)
  ]

  waiting_new : length cleared.columns.fresh ≡ 0 → length after.columns.fresh + count_left after.columns ≡ count_left before.columns
  waiting_new none =
      let same : room after.columns ≡ room cleared.columns = ap room after_columns ∙ columns.grown.room_same ∙ ap room rows.columns in
      let left : count_left cleared.columns ≡ count_left before.columns = ap count_of same_columns in
      omega arith
    where
      count_of : Bits → ℕ
      count_of b = number_of_lines (λ line. not (has_column b.words line)) b.size

  pub exactly_swept : length cleared.columns.fresh ≡ 0 → length after.rows.fresh ≡ 0 → HasSwept m upper lower before after
  exactly_swept none none_after = record {
    rows = λ r l. (row_from r, row_to r l);
    columns = λ k l. (column_from k, column_to k l);
    no_row_waits = none_after;
    new_wait = new_column_waits;
    no_others_wait = waiting_new none;
  }

  module _ (start : List Line) (g : IsGrowing m upper lower start before) where
    row_least : (T : Lines) → IsClosedIn m upper lower T → HasAll T start → (r : ℕ) → r < height m → set_of with_rows (Row r) ≡ true → T (Row r) ≡ true
    row_least T closed all r l e = elim (rows.grown.only r e) [
      | inl h ↦ g.least T closed all (Row r) l (sym (row_before r) ∙ h)
      | inr (k, lk, inside, differs) ↦ true_is (T (Row r)) (λ out. differs (closed.lower r k (contains_first_lines (height m) r l) (contains_first_lines m.width k lk) out
          (g.least T closed all (Column k) lk (sym (column_cleared k) ∙ inside))))
    ]

    least : (T : Lines) → IsClosedIn m upper lower T → HasAll T start → (x : Line) → IsLine (height m) m.width x → set_of after x ≡ true → T x ≡ true
    least T closed all (Row r) l e = row_least T closed all r l (sym (row_in r) ∙ e)
    least T closed all (Column k) l e = elim (columns.grown.only k (sym (column_in k) ∙ e)) [
      | inl h ↦ g.least T closed all (Column k) l (sym (column_before k) ∙ h)
      | inr (r, lr, inside, differs) ↦ true_is (T (Column k)) (λ out. differs (closed.upper r k (contains_first_lines (height m) r lr) (contains_first_lines m.width k l) (row_least T closed all r lr inside) out))
    ]

    upper_right : (r k : ℕ) → r < height m → k < m.width → set_of after (Row r) ≡ true → set_of after (Column k) ≡ false → IsIn r after.rows.fresh ⊎ (entry m r k ≡ upper r k)
    upper_right r k lr lk er ek = inr (columns.agree r k lk (sym (row_in r) ∙ er) (sym (column_in k) ∙ ek))

    lower_right : (r k : ℕ) → r < height m → k < m.width → set_of after (Row r) ≡ false → set_of after (Column k) ≡ true → IsIn k after.columns.fresh ⊎ (entry m r k ≡ lower r k)
    lower_right r k lr lk er ek = elim (columns.grown.news k (sym (column_in k) ∙ ek)) [
      | inl h ↦ inr (rows.agree r k lr (sym (row_in r) ∙ er) (column_cleared k ∙ sym (column_before k) ∙ h))
      | inr h ↦ inl (subst (λ (v : Growth). IsIn k v.fresh) (sym after_columns) h)
    ]

    pub still_grows : IsGrowing m upper lower start after
    still_grows = record { has = all_weaker (λ x. set_of before x ≡ true) (λ x. set_of after x ≡ true) has start g.has; least = least; upper = upper_right; lower = lower_right }

-- ---- the work that is left

-- after a sweep at most as many lines wait or are outside as were outside before
pub less_work : (m : Matrix) (upper lower : ℕ → ℕ → ℤ) (before after : GrowingSet) → IsSizedFor m before → HasSameSizes before after → 0 < length before.rows.fresh + length before.columns.fresh
    → HasSwept m upper lower before after → work after < work before
less_work m upper lower before after sized same waits w =
    let fewer : count_left after.rows ≤ count_left before.rows =
    subst (λ (n : ℕ). number_of_lines (λ r. not (is_inside after.rows r)) n ≤ count_left before.rows) (sym same.rows)
    (count_grows (λ r. not (is_inside after.rows r)) (λ r. not (is_inside before.rows r)) before.rows.inside.size still_out) in
    omega (arith, fewer, waits, w.no_row_waits, w.no_others_wait)
  where
    still_out : (r : ℕ) → r < before.rows.inside.size → not (is_inside after.rows r) ≡ true → not (is_inside before.rows r) ≡ true
    still_out r l e = ap not (false_is (is_inside before.rows r) (λ h. not_both (is_inside after.rows r) ((w.rows r (subst (λ (n : ℕ). r < n) sized.rows l)).1 (inl h)) (not_is (is_inside after.rows r) e)))
