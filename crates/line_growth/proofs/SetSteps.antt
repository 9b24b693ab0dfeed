-- A growing set, step by step.
use Rattle.std.proofs.Common.{ℕ, ◌+◌, ◌-◌, drop, ap₂, true, false, filter, List, [], ◌∷◌, ◌≡◌, ◌<◌, ◌≤◌, ◌∙◌, sym, ap, refl, arith, subst, ◌⊎◌, inl, inr, length, get_or, ℤ, suc, Bool}
use Rattle.std.specs.List.{AllByRecursion}
use Rattle.std.proofs.lemmas.List.{drop_all, drop_more}
use Rattle.cmr_base.specs.declared.line.Line.{Line}
use Rattle.cmr_base.specs.declared.line.Line.TheVariants.{Row, Column}
use Rattle.cmr_base.specs.ColumnSets.{has_column}
use Rattle.cmr_base.specs.Matrix.{transposed, IsMatrix, Matrix, height, entry}
use Rattle.cmr_base.specs.LineSets.{first_lines}
use Rattle.cmr_base.specs.Members.{IsIn}
use Rattle.cmr_base.specs.Separations.{Lines}
use Rattle.cmr_base.specs.Seeds.{HasAll, IsGrown, IsLine, count_outside}
use Rattle.cmr_base.proofs.Booleans.{false_is, not_both, true_is}
use Rattle.cmr_base.proofs.LineCounts.{outside_is}
use Rattle.cmr_base.proofs.ListedLines.{contains_first_lines, first_lines_contain}
use Rattle.cmr_base.proofs.Lists.{all_both, all_of, all_weaker}
use Rattle.cmr_base.proofs.Parts.{entry-transposed}
use Rattle.cmr_base.proofs.SeedLemmas.{outside_grows}
use Rattle.line_growth.specs.declared.growing_set.GrowingSet.{GrowingSet}
use Rattle.line_growth.specs.declared.rule.GrowthRule.{GrowthRule}
use Rattle.line_growth.specs.declared.rule.Sum.{Sum}
use Rattle.line_growth.specs.GrowingLines.{Growth, is_inside, HasPulled, HasAdded, HasTaken}
use Rattle.line_growth.specs.GrowingSets.{DecidesLeaving, HasNoLeaving, HasNone, HasSameSizes, IsClosedIn, IsGrowing, IsLeaving, HasRoomFor, IsSizedFor, Leaves, set_of}
use Rattle.line_growth.specs.Rules.{lower_of, sum_at, upper_of}

-- ---- sizes

pub still_sized : (m : Matrix) (before after : GrowingSet) → IsSizedFor m before → HasSameSizes before after → IsSizedFor m after
still_sized m before after sized same = record { rows = same.rows ∙ sized.rows; columns = same.columns ∙ sized.columns }

pub same_sizes : (before between after : GrowingSet) → HasSameSizes before between → HasSameSizes between after → HasSameSizes before after
same_sizes before between after first then = record { rows = then.rows ∙ first.rows; columns = then.columns ∙ first.columns }

-- lines of the matrix are lines for which the set has room
pub lines_for : (m : Matrix) (set : GrowingSet) (lines : List Line) → IsSizedFor m set → AllByRecursion (IsLine (height m) m.width) lines → AllByRecursion (HasRoomFor set) lines
lines_for m set lines sized all = rw (sized.rows, sized.columns) all

-- the set has the lines of the matrix outside
pub outside_of : (m : Matrix) (set : GrowingSet) → IsSizedFor m set → count_outside set.rows.inside.size set.columns.inside.size (set_of set) ≡ count_outside (height m) m.width (set_of set)
outside_of m set sized = ap₂ (λ (rows columns : ℕ). count_outside rows columns (set_of set)) sized.rows sized.columns

-- the lists of the lines of a set
pub listed_rows : (m : Matrix) (set : GrowingSet) → IsSizedFor m set → (rows : List ℕ)
    → rows ≡ filter (λ row. set_of set (Row row)) (first_lines set.rows.inside.size) → rows ≡ filter (λ row. set_of set (Row row)) (first_lines (height m))
listed_rows m set sized rows is = is ∙ ap (λ (n : ℕ). filter (λ row. set_of set (Row row)) (first_lines n)) sized.rows

pub listed_columns : (m : Matrix) (set : GrowingSet) → IsSizedFor m set → (columns : List ℕ) → columns ≡ filter (λ column. set_of set (Column column)) (first_lines set.columns.inside.size)
    → columns ≡ filter (λ column. set_of set (Column column)) (first_lines m.width)
listed_columns m set sized columns is = is ∙ ap (λ (n : ℕ). filter (λ column. set_of set (Column column)) (first_lines n)) sized.columns

-- ---- no line

pub none_growing : (m : Matrix) (upper lower : ℕ → ℕ → ℤ) (set : GrowingSet) → ((r : ℕ) → is_inside set.rows r ≡ false) → ((k : ℕ) → is_inside set.columns k ≡ false) → IsGrowing m upper lower [] set
none_growing m upper lower set rows columns = record {
  has = tt;
  least = λ T closed has x l e. absurd (nothing x e);
  upper = λ r k lr lk er ek. absurd (nothing (Row r) er);
  lower = λ r k lr lk er ek. absurd (nothing (Column k) ek);
}
  where
    nothing : (x : Line) → set_of set x ≡ true → ⊥
    nothing (Row r) e = not_both (is_inside set.rows r) e (rows r)
    nothing (Column k) e = not_both (is_inside set.columns k) e (columns k)

-- ---- the pulls of a row

module _ (m : Matrix) (upper lower : ℕ → ℕ → ℤ) (before after : GrowingSet) (taken : Growth) (row : ℕ) (agrees : ℕ → Type 0)
    (sized : IsSizedFor m before) (t : HasTaken row before.rows taken) (rows : after.rows ≡ taken) (w : HasPulled agrees before.columns after.columns)
    (agrees_of : (k : ℕ) → entry m row k ≡ upper row k → agrees k) (of_agrees : (k : ℕ) → agrees k → entry m row k ≡ upper row k) (start : List Line) (g : IsGrowing m upper lower start before) where
  row_in : row < height m
  row_in = subst (λ (n : ℕ). row < n) sized.rows t.line_in

  row_same : (r : ℕ) → is_inside after.rows r ≡ is_inside before.rows r
  row_same r = ap (λ v. is_inside v r) rows ∙ ap (λ v. has_column v.words r) t.inside_same

  column_out : (k : ℕ) → is_inside after.columns k ≡ false → is_inside before.columns k ≡ false
  column_out k e = false_is (is_inside before.columns k) (λ h. not_both (is_inside after.columns k) (w.grown.kept k h) e)

  row_has : (x : Line) → set_of before x ≡ true → set_of after x ≡ true
  row_has (Row r) h = row_same r ∙ h
  row_has (Column k) h = w.grown.kept k h

  row_least : (T : Lines) → IsClosedIn m upper lower T → HasAll T start → (x : Line) → IsLine (height m) m.width x → set_of after x ≡ true → T x ≡ true
  row_least T closed has (Row r) l e = g.least T closed has (Row r) l (sym (row_same r) ∙ e)
  row_least T closed has (Column k) l e = elim (w.grown.only k e) [
    | inl h ↦ g.least T closed has (Column k) l h
    | inr h ↦ true_is (T (Column k)) (λ out. h (agrees_of k (closed.upper row k (contains_first_lines (height m) row row_in) (contains_first_lines m.width k l) (g.least T closed has (Row row) row_in t.line_inside) out)))
  ]

  row_right : (r k : ℕ) → r < height m → k < m.width → set_of after (Row r) ≡ true → set_of after (Column k) ≡ false → IsIn r after.rows.fresh ⊎ (entry m r k ≡ upper r k)
  row_right r k lr lk er ek = elim (g.upper r k lr lk (sym (row_same r) ∙ er) (column_out k ek)) [
    | inl h ↦ elim (t.others r h) [
      | inl e ↦ inr (subst (λ (z : ℕ). entry m z k ≡ upper z k) (sym e) (of_agrees k (w.agree k (subst (λ (n : ℕ). k < n) (sym (w.grown.size ∙ sized.columns)) lk) ek)))
      | inr h' ↦ inl (subst (λ v. IsIn r v.fresh) (sym rows) h')
    ]
    | inr e ↦ inr e
  ]

  row_below : (r k : ℕ) → r < height m → k < m.width → set_of after (Row r) ≡ false → set_of after (Column k) ≡ true → IsIn k after.columns.fresh ⊎ (entry m r k ≡ lower r k)
  row_below r k lr lk er ek = elim (w.grown.news k ek) [
    | inl h ↦ elim (g.lower r k lr lk (sym (row_same r) ∙ er) h) [ inl h' ↦ inl (w.grown.waits k h') | inr e ↦ inr e ]
    | inr h ↦ inl h
  ]

  row_followed : IsGrowing m upper lower start after
  row_followed = record { has = all_weaker (λ x. set_of before x ≡ true) (λ x. set_of after x ≡ true) row_has start g.has; least = row_least; upper = row_right; lower = row_below }

-- the pulls of a column
module _ (m : Matrix) (upper lower : ℕ → ℕ → ℤ) (before after : GrowingSet) (taken : Growth) (column : ℕ) (agrees : ℕ → Type 0)
    (sized : IsSizedFor m before) (t : HasTaken column before.columns taken) (columns : after.columns ≡ taken) (w : HasPulled agrees before.rows after.rows)
    (agrees_of : (r : ℕ) → entry m r column ≡ lower r column → agrees r) (of_agrees : (r : ℕ) → agrees r → entry m r column ≡ lower r column) (start : List Line) (g : IsGrowing m upper lower start before) where
  column_in : column < m.width
  column_in = subst (λ (n : ℕ). column < n) sized.columns t.line_in

  column_same : (k : ℕ) → is_inside after.columns k ≡ is_inside before.columns k
  column_same k = ap (λ v. is_inside v k) columns ∙ ap (λ v. has_column v.words k) t.inside_same

  row_out : (r : ℕ) → is_inside after.rows r ≡ false → is_inside before.rows r ≡ false
  row_out r e = false_is (is_inside before.rows r) (λ h. not_both (is_inside after.rows r) (w.grown.kept r h) e)

  column_has : (x : Line) → set_of before x ≡ true → set_of after x ≡ true
  column_has (Row r) h = w.grown.kept r h
  column_has (Column k) h = column_same k ∙ h

  column_least : (T : Lines) → IsClosedIn m upper lower T → HasAll T start → (x : Line) → IsLine (height m) m.width x → set_of after x ≡ true → T x ≡ true
  column_least T closed has (Column k) l e = g.least T closed has (Column k) l (sym (column_same k) ∙ e)
  column_least T closed has (Row r) l e = elim (w.grown.only r e) [
    | inl h ↦ g.least T closed has (Row r) l h
    | inr h ↦ true_is (T (Row r)) (λ out. h (agrees_of r (closed.lower r column (contains_first_lines (height m) r l) (contains_first_lines m.width column column_in) out (g.least T closed has (Column column) column_in t.line_inside))))
  ]

  column_right : (r k : ℕ) → r < height m → k < m.width → set_of after (Row r) ≡ true → set_of after (Column k) ≡ false → IsIn r after.rows.fresh ⊎ (entry m r k ≡ upper r k)
  column_right r k lr lk er ek = elim (w.grown.news r er) [
    | inl h ↦ elim (g.upper r k lr lk h (sym (column_same k) ∙ ek)) [ inl h' ↦ inl (w.grown.waits r h') | inr e ↦ inr e ]
    | inr h ↦ inl h
  ]

  column_below : (r k : ℕ) → r < height m → k < m.width → set_of after (Row r) ≡ false → set_of after (Column k) ≡ true → IsIn k after.columns.fresh ⊎ (entry m r k ≡ lower r k)
  column_below r k lr lk er ek = elim (g.lower r k lr lk (row_out r er) (sym (column_same k) ∙ ek)) [
    | inl h ↦ elim (t.others k h) [
      | inl e ↦ inr (subst (λ (z : ℕ). entry m r z ≡ lower r z) (sym e) (of_agrees r (w.agree r (subst (λ (n : ℕ). r < n) (sym (w.grown.size ∙ sized.rows)) lr) er)))
      | inr h' ↦ inl (subst (λ v. IsIn k v.fresh) (sym columns) h')
    ]
    | inr e ↦ inr e
  ]

  column_followed : IsGrowing m upper lower start after
  column_followed = record { has = all_weaker (λ x. set_of before x ≡ true) (λ x. set_of after x ≡ true) column_has start g.has; least = column_least; upper = column_right; lower = column_below }

-- ---- the steps as the code takes them

module _ (m : Matrix) (upper lower : ℕ → ℕ → ℤ) (before after : GrowingSet) (sized : IsSizedFor m before) where
  pub row_step : (row : ℕ) (n : Matrix) (sum : Sum) → n ≡ m → HasTaken row before.rows after.rows → HasPulled (λ x. entry n row x ≡ sum_at n sum x) before.columns after.columns
      → ((k : ℕ) → sum_at m sum k ≡ upper row k) → (start : List Line) → IsGrowing m upper lower start before → IsGrowing m upper lower start after
  row_step row n sum same t w is start g =
      row_followed m upper lower before after after.rows row (λ x. entry m row x ≡ sum_at m sum x) sized t refl
      (subst (λ (z : Matrix). HasPulled (λ x. entry z row x ≡ sum_at z sum x) before.columns after.columns) same w)
      (λ k h. h ∙ sym (is k)) (λ k h. h ∙ is k) start g

  pub column_step : IsMatrix m → (column : ℕ) (n : Matrix) (sum : Sum) → n ≡ transposed m → HasTaken column before.columns after.columns
      → HasPulled (λ x. entry n column x ≡ sum_at n sum x) before.rows after.rows → ((r : ℕ) → sum_at (transposed m) sum r ≡ lower r column)
      → (start : List Line) → IsGrowing m upper lower start before → IsGrowing m upper lower start after
  column_step shape column n sum same t w is start g =
      column_followed m upper lower before after after.columns column (λ x. entry (transposed m) column x ≡ sum_at (transposed m) sum x) sized t refl
      (subst (λ (z : Matrix). HasPulled (λ x. entry z column x ≡ sum_at z sum x) before.rows after.rows) same w)
      (λ r h. entry-transposed m r column shape ∙ h ∙ sym (is r)) (λ r h. sym (entry-transposed m r column shape) ∙ h ∙ is r) start g

-- ---- another line

module _ (m : Matrix) (upper lower : ℕ → ℕ → ℤ) (before after : GrowingSet) (start : List Line) (g : IsGrowing m upper lower start before) where
  pub row_added : (row : ℕ) → HasAdded row before.rows after.rows → after.columns ≡ before.columns → IsGrowing m upper lower (Row row ∷ start) after
  row_added row w columns = record { has = (w.line_in, all_weaker (λ x. set_of before x ≡ true) (λ x. set_of after x ≡ true) has start g.has); least = least; upper = upper_kept; lower = lower_kept }
    where
      same : (k : ℕ) → is_inside after.columns k ≡ is_inside before.columns k
      same k = ap (λ v. is_inside v k) columns

      out : (r : ℕ) → is_inside after.rows r ≡ false → is_inside before.rows r ≡ false
      out r e = false_is (is_inside before.rows r) (λ h. not_both (is_inside after.rows r) (w.grown.kept r h) e)

      has : (x : Line) → set_of before x ≡ true → set_of after x ≡ true
      has (Row r) h = w.grown.kept r h
      has (Column k) h = same k ∙ h

      least : (T : Lines) → IsClosedIn m upper lower T → HasAll T (Row row ∷ start) → (x : Line) → IsLine (height m) m.width x → set_of after x ≡ true → T x ≡ true
      least T closed all (Column k) l e = g.least T closed all.1 (Column k) l (sym (same k) ∙ e)
      least T closed all (Row r) l e = elim (w.grown.only r e) [
        | inl h ↦ g.least T closed all.1 (Row r) l h
        | inr h ↦ ap (λ (z : ℕ). T (Row z)) h ∙ all.0
      ]

      upper_kept : (r k : ℕ) → r < height m → k < m.width → set_of after (Row r) ≡ true → set_of after (Column k) ≡ false → IsIn r after.rows.fresh ⊎ (entry m r k ≡ upper r k)
      upper_kept r k lr lk er ek = elim (w.grown.news r er) [
        | inl h ↦ elim (g.upper r k lr lk h (sym (same k) ∙ ek)) [ inl h' ↦ inl (w.grown.waits r h') | inr e ↦ inr e ]
        | inr h ↦ inl h
      ]

      lower_kept : (r k : ℕ) → r < height m → k < m.width → set_of after (Row r) ≡ false → set_of after (Column k) ≡ true → IsIn k after.columns.fresh ⊎ (entry m r k ≡ lower r k)
      lower_kept r k lr lk er ek = elim (g.lower r k lr lk (out r er) (sym (same k) ∙ ek)) [ inl h' ↦ inl (subst (λ v. IsIn k v.fresh) (sym columns) h') | inr e ↦ inr e ]

  pub column_added : (column : ℕ) → HasAdded column before.columns after.columns → after.rows ≡ before.rows → IsGrowing m upper lower (Column column ∷ start) after
  column_added column w rows = record { has = (w.line_in, all_weaker (λ x. set_of before x ≡ true) (λ x. set_of after x ≡ true) has start g.has); least = least; upper = upper_kept; lower = lower_kept }
    where
      same : (r : ℕ) → is_inside after.rows r ≡ is_inside before.rows r
      same r = ap (λ v. is_inside v r) rows

      out : (k : ℕ) → is_inside after.columns k ≡ false → is_inside before.columns k ≡ false
      out k e = false_is (is_inside before.columns k) (λ h. not_both (is_inside after.columns k) (w.grown.kept k h) e)

      has : (x : Line) → set_of before x ≡ true → set_of after x ≡ true
      has (Row r) h = same r ∙ h
      has (Column k) h = w.grown.kept k h

      least : (T : Lines) → IsClosedIn m upper lower T → HasAll T (Column column ∷ start) → (x : Line) → IsLine (height m) m.width x → set_of after x ≡ true → T x ≡ true
      least T closed all (Row r) l e = g.least T closed all.1 (Row r) l (sym (same r) ∙ e)
      least T closed all (Column k) l e = elim (w.grown.only k e) [
        | inl h ↦ g.least T closed all.1 (Column k) l h
        | inr h ↦ ap (λ (z : ℕ). T (Column z)) h ∙ all.0
      ]

      upper_kept : (r k : ℕ) → r < height m → k < m.width → set_of after (Row r) ≡ true → set_of after (Column k) ≡ false → IsIn r after.rows.fresh ⊎ (entry m r k ≡ upper r k)
      upper_kept r k lr lk er ek = elim (g.upper r k lr lk (sym (same r) ∙ er) (out k ek)) [ inl h' ↦ inl (subst (λ v. IsIn r v.fresh) (sym rows) h') | inr e ↦ inr e ]

      lower_kept : (r k : ℕ) → r < height m → k < m.width → set_of after (Row r) ≡ false → set_of after (Column k) ≡ true → IsIn k after.columns.fresh ⊎ (entry m r k ≡ lower r k)
      lower_kept r k lr lk er ek = elim (w.grown.news k ek) [
        | inl h ↦ elim (g.lower r k lr lk (sym (same r) ∙ er) h) [ inl h' ↦ inl (w.grown.waits k h') | inr e ↦ inr e ]
        | inr h ↦ inl h
      ]

pub row_added_as : (m : Matrix) (upper lower : ℕ → ℕ → ℤ) (before after : GrowingSet) (start : List Line) (line : Line) (row : ℕ) → line ≡ Row row → IsGrowing m upper lower start before
    → HasAdded row before.rows after.rows → after.columns ≡ before.columns → IsGrowing m upper lower (line ∷ start) after
row_added_as m upper lower before after start line row is g w same = subst (λ (z : Line). IsGrowing m upper lower (z ∷ start) after) (sym is) (row_added m upper lower before after start g row w same)

pub column_added_as : (m : Matrix) (upper lower : ℕ → ℕ → ℤ) (before after : GrowingSet) (start : List Line) (line : Line) (column : ℕ) → line ≡ Column column → IsGrowing m upper lower start before
    → HasAdded column before.columns after.columns → after.rows ≡ before.rows → IsGrowing m upper lower (line ∷ start) after
column_added_as m upper lower before after start line column is g w same = subst (λ (z : Line). IsGrowing m upper lower (z ∷ start) after) (sym is) (column_added m upper lower before after start g column w same)

-- ---- the end

none_in : (xs : List ℕ) (x : ℕ) → length xs ≡ 0 → ¬ (IsIn x xs)
none_in [] x e h = h
none_in (y ∷ ys) x e h = absurd (omega arith)

module _ (m : Matrix) (rule : GrowthRule) (start out : List Line) (least : ℕ) (set : GrowingSet) (g : IsGrowing m (upper_of m rule) (lower_of m rule) start set) where
  pub closed_leaving : length set.rows.fresh ≡ 0 → length set.columns.fresh ≡ 0 → HasNone (set_of set) out
      → least ≤ count_outside (height m) m.width (set_of set) → IsLeaving m rule start out least (set_of set)
  closed_leaving nr nc none enough = record {
    grown = record {
      closed = record {
        upper = λ r k hr hk er ek. elim (g.upper r k (first_lines_contain (height m) r hr) (first_lines_contain m.width k hk) er ek) [ inl h ↦ absurd (none_in set.rows.fresh r nr h) | inr e ↦ e ];
        lower = λ r k hr hk er ek. elim (g.lower r k (first_lines_contain (height m) r hr) (first_lines_contain m.width k hk) er ek) [ inl h ↦ absurd (none_in set.columns.fresh k nc h) | inr e ↦ e ];
      };
      has = g.has;
      least = g.least;
    };
    leaves = record { none = none; enough = let e = outside_is (height m) m.width (set_of set) in omega arith };
  }

  pub few_left : count_outside (height m) m.width (set_of set) < least → HasNoLeaving m rule start out least
  few_left few T closed has leaves =
      let a = outside_grows (height m) m.width (set_of set) T (g.least T closed has) in
      let b = outside_is (height m) m.width (set_of set) in
      let c = leaves.enough in
      omega arith

  pub some_inside : AllByRecursion (IsLine (height m) m.width) out → (HasNone (set_of set) out → ⊥) → HasNoLeaving m rule start out least
  some_inside lines some T closed has leaves = some (all_both (IsLine (height m) m.width) (λ x. T x ≡ false) (λ x. set_of set x ≡ false) (λ x l e. false_is (set_of set x) (λ t. not_both (T x) (g.least T closed has x l t) e)) out lines leaves.none)

-- a set with few lines outside
pub few_shown : (m : Matrix) (out : List Line) (least : ℕ) (set : GrowingSet) → Leaves m out least (set_of set) → ¬ (count_outside (height m) m.width (set_of set) < least)
few_shown m out least set leaves few = let b = outside_is (height m) m.width (set_of set) in let c = leaves.enough in omega arith

-- a set that needs no lines outside is closed in the end, since the set of all lines is
pub always_closed : (m : Matrix) (rule : GrowthRule) (start : List Line) (answer : Bool) (S : Lines) → DecidesLeaving m rule start [] 0 answer S
    → IsGrown (height m) m.width (entry m) (upper_of m rule) (lower_of m rule) start S
always_closed m rule start true S decided = decided.grown
always_closed m rule start false S decided = absurd (decided (λ x. true) (record { upper = λ r k hr hk er ek. absurd (not_both true refl ek); lower = λ r k hr hk er ek. absurd (not_both true refl er) }) (all_of (λ x. true ≡ true) (λ x. refl) start) (record { none = tt; enough = omega arith }))

-- the meaning of each answer
module _ (m : Matrix) (rule : GrowthRule) (start out : List Line) (least : ℕ) where
  pub decided_yes : (answer : Bool) (S : Lines) → DecidesLeaving m rule start out least answer S → answer ≡ true → IsLeaving m rule start out least S
  decided_yes true S h e = h
  decided_yes false S h e = absurd (not_both false e refl)

  pub decided_no : (answer : Bool) (S : Lines) → DecidesLeaving m rule start out least answer S → answer ≡ false → HasNoLeaving m rule start out least
  decided_no true S h e = absurd (not_both true refl e)
  decided_no false S h e = h

-- ---- lists of lines

pub all_at : {A : Type 0} (P : A → Type 0) (xs : List A) (d : A) → ((p : ℕ) → p < length xs → P (get_or xs p d)) → AllByRecursion P xs
all_at P [] d h = tt
all_at P (x ∷ xs) d h = (h 0 (omega arith), all_at P xs d (λ p l. h (suc p) (omega arith)))

-- the lines from a position on are added, beginning with the last
pub none_taken : (m : Matrix) (upper lower : ℕ → ℕ → ℤ) (lines : List Line) (set : GrowingSet) → IsGrowing m upper lower [] set → IsGrowing m upper lower (drop (length lines) lines) set
none_taken m upper lower lines set g = subst (λ (xs : List Line). IsGrowing m upper lower xs set) (sym (drop_all (length lines) lines (omega arith))) g

pub one_taken : (m : Matrix) (upper lower : ℕ → ℕ → ℤ) (lines : List Line) (from : ℕ) (line : Line) (set : GrowingSet) → 0 < from → from ≤ length lines
    → line ≡ get_or lines (from - 1) (Row 0) → IsGrowing m upper lower (line ∷ drop from lines) set
    → IsGrowing m upper lower (drop (from - 1) lines) set
one_taken m upper lower lines from line set some low is g =
    let next : (from - 1) + 1 ≡ from = omega arith in
    subst (λ (xs : List Line). IsGrowing m upper lower xs set) (ap₂ (λ (x : Line) (k : ℕ). x ∷ drop k lines) is (sym next) ∙ sym (drop_more lines (from - 1) (Row 0) (omega arith))) g

pub all_taken : (m : Matrix) (upper lower : ℕ → ℕ → ℤ) (lines : List Line) (from : ℕ) (set : GrowingSet) → from ≡ 0 → IsGrowing m upper lower (drop from lines) set → IsGrowing m upper lower lines set
all_taken m upper lower lines from set e g = subst (λ (k : ℕ). IsGrowing m upper lower (drop k lines) set) e g
