-- A child has fewer lines.
use Rattle.std.proofs.Common.{◌≡◌, ◌<◌, ◌≤◌, ◌+◌, inl, inr, ◌∙◌, not, cond, filter, nat_eq, ℕ, suc, Bool, true, false, List, [], ◌∷◌, length, ap, sym, subst, refl, arith}
use Rattle.std.specs.List.{list_any}
use Rattle.std.specs.List.Sorted.{IsStrictlyIncreasing}
use Rattle.cmr_base.specs.declared.line.Line.{Line}
use Rattle.cmr_base.specs.declared.line.Line.TheVariants.{Row, Column}
use Rattle.cmr_base.specs.declared.line_set.LineSet.{LineSet}
use Rattle.cmr_base.specs.Members.{IsIn, IsDistinct}
use Rattle.cmr_base.specs.Separations.{Lines, listed, opposite, is_same_line, with_lines, rows_in, columns_in, count_lines_in, AreEnough}
use Rattle.cmr_base.proofs.ListsWithout.{increasing_distinct}
use Rattle.cmr_base.proofs.RowLists.{eq_of}
use Rattle.cmr_base.proofs.Lists.{filter_or, filter_same}
use Rattle.cmr_base.proofs.Booleans.{not_not}
use Rattle.sum_ops.specs.Children.{on_side, chosen, AreOfChild, HasFewer}

pub chosen_rows : (inside : Bool) (R C : List ℕ) (more : List Line) (rows : List ℕ) → chosen Row inside R more rows ≡ rows_in (with_lines (on_side inside (listed R C)) more) rows
chosen_rows true R C more rows = refl
chosen_rows false R C more rows = refl

pub chosen_columns : (inside : Bool) (R C : List ℕ) (more : List Line) (columns : List ℕ) → chosen Column inside C more columns ≡ columns_in (with_lines (on_side inside (listed R C)) more) columns
chosen_columns true R C more columns = refl
chosen_columns false R C more columns = refl

-- ---- counts

halves : (p : ℕ → Bool) (xs : List ℕ) → length (filter p xs) + length (filter (λ x. not (p x)) xs) ≡ length xs
halves p [] = refl
halves p (x ∷ xs) = go (p x) (halves p xs)
  where
    go : (s : Bool) → length (filter p xs) + length (filter (λ x. not (p x)) xs) ≡ length xs
        → length (cond s (x ∷ filter p xs) (filter p xs)) + length (cond (not s) (x ∷ filter (λ x. not (p x)) xs) (filter (λ x. not (p x)) xs)) ≡ suc (length xs)
    go true h = omega arith
    go false h = omega arith

none_kept : (p : ℕ → Bool) (xs : List ℕ) → ((x : ℕ) → IsIn x xs → p x ≡ false) → filter p xs ≡ []
none_kept p [] h = refl
none_kept p (x ∷ xs) h = rw (h x (inl refl)) (none_kept p xs (λ y i. h y (inr i)))

one_few : (k : ℕ) (xs : List ℕ) → IsDistinct xs → length (filter (λ x. nat_eq k x) xs) ≤ 1
one_few k [] d = omega arith
one_few k (x ∷ xs) d = go (nat_eq k x) refl (one_few k xs d.1)
  where
    go : (t : Bool) → nat_eq k x ≡ t → length (filter (λ x. nat_eq k x) xs) ≤ 1 → length (cond t (x ∷ filter (λ x. nat_eq k x) xs) (filter (λ x. nat_eq k x) xs)) ≤ 1
    go true e h = let none = ap length (none_kept (λ x. nat_eq k x) xs (λ y i. apart y i (nat_eq k y) refl)) in omega arith
      where
        apart : (y : ℕ) → IsIn y xs → (s : Bool) → nat_eq k y ≡ s → nat_eq k y ≡ false
        apart y i true f = absurd (d.0 (subst (λ (z : ℕ). IsIn z xs) (sym (eq_of k y f) ∙ eq_of k x e) i))
        apart y i false f = f
    go false e h = h

-- a list of lines names at most as many rows and columns as it has items
named_few : (more : List Line) (rows columns : List ℕ) → IsDistinct rows → IsDistinct columns
    → length (filter (λ r. list_any (is_same_line (Row r)) more) rows) + length (filter (λ c. list_any (is_same_line (Column c)) more) columns) ≤ length more
named_few [] rows columns dr dc =
    let a = ap length (none_kept (λ r. false) rows (λ x i. refl)) in
    let b = ap length (none_kept (λ c. false) columns (λ x i. refl)) in
    omega arith
named_few (Row k ∷ more) rows columns dr dc =
    let h = named_few more rows columns dr dc in
    let a = filter_or (λ r. nat_eq k r) (λ r. list_any (is_same_line (Row r)) more) rows in
    let b = one_few k rows dr in
    omega arith
named_few (Column k ∷ more) rows columns dr dc =
    let h = named_few more rows columns dr dc in
    let a = filter_or (λ c. nat_eq k c) (λ c. list_any (is_same_line (Column c)) more) columns in
    let b = one_few k columns dc in
    omega arith

-- enough lines are not on the given side
others_enough : (inside : Bool) (side : Lines) (rows columns : List ℕ) (least : ℕ) → AreEnough rows columns side least → least ≤ count_lines_in (opposite (on_side inside side)) rows columns
others_enough true side rows columns least enough = enough.two
others_enough false side rows columns least enough =
    let a = ap length (filter_same (λ r. not (not (side (Row r)))) (λ r. side (Row r)) (λ r. not_not (side (Row r))) rows) in
    let b = ap length (filter_same (λ c. not (not (side (Column c)))) (λ c. side (Column c)) (λ c. not_not (side (Column c))) columns) in
    let h = enough.one in
    omega arith

pub fewer_in_child : (lines : LineSet) (inside : Bool) (R C : List ℕ) (more : List Line) (least : ℕ) (child : LineSet) → IsStrictlyIncreasing lines.rows → IsStrictlyIncreasing lines.columns
    → AreEnough lines.rows lines.columns (listed R C) least → length more < least → AreOfChild lines (with_lines (on_side inside (listed R C)) more) child → HasFewer lines child
fewer_in_child lines inside R C more least child rr rc enough few of_child =
    let set = on_side inside (listed R C) in
    let a = filter_or (λ r. set (Row r)) (λ r. list_any (is_same_line (Row r)) more) lines.rows in
    let b = filter_or (λ c. set (Column c)) (λ c. list_any (is_same_line (Column c)) more) lines.columns in
    let n = named_few more lines.rows lines.columns (increasing_distinct lines.rows rr) (increasing_distinct lines.columns rc) in
    let h = halves (λ r. set (Row r)) lines.rows in
    let k = halves (λ c. set (Column c)) lines.columns in
    let p = ap length of_child.rows in
    let q = ap length of_child.columns in
    let o = others_enough inside (listed R C) lines.rows lines.columns least enough in
    omega arith
