-- Lines of a node that pass a test: that they are lines of the node, and how many they are.
use Rattle.std.proofs.Common.{◌≡◌, ◌<◌, ◌≤◌, ◌+◌, ◌||◌, inl, inr, ℕ, Bool, true, false, cond, not, eqb, List, [], ◌∷◌, length, map, filter, Contains, refl, sym, subst, arith, eqb-true}
use Rattle.std.proofs.lemmas.List.Filters.{length-filter_both}
use Rattle.std.proofs.lemmas.List.Kept.{IsStrictlyIncreasing-filter}
use Rattle.std.specs.List.Sorted.{IsStrictlyIncreasing}
use Rattle.cmr_base.specs.declared.line_set.LineSet.{LineSet}
use Rattle.cmr_base.specs.declared.separation.Connector.{Connector}
use Rattle.cmr_base.specs.declared.separation.Two.{Two}
use Rattle.cmr_base.specs.declared.separation.Three.{Three}
use Rattle.cmr_base.specs.LineSets.{AllBelow}
use Rattle.cmr_base.specs.Members.{IsIn, IsDistinct}
use Rattle.cmr_base.specs.Separations.{first_is_flat, second_is_flat}
use Rattle.tree_type.specs.Sides.{is_among, inside, outside, inside_with, outside_with, sides, HaveLines, two_one, two_two, three_one, three_two, connector_rows, connector_columns}
use Rattle.cmr_base.proofs.ListsWithout.{in_from_contains, contains_from_in, in-get_or, place_of, place_is, increasing_distinct}
use Rattle.cmr_base.proofs.RowLists.{in_filter}
use Rattle.cmr_base.proofs.Lists.{filter_or}
use Rattle.tree_type.specs.Invariant.{AreLinesOf}
use Rattle.tree_type.proofs.Among.{inside_alone, outside_alone}
use Rattle.decomp_tree.specs.Shapes.{numbered, set_in}
use Rattle.decomp_tree.specs.Seen.{IsPlacedSet, AreFewer}
use Rattle.decomp_tree.proofs.Numbered.{map_in}
use Rattle.decomp_tree.proofs.Removed.{increasing_named}

pub below_members : (xs : List ℕ) (high : ℕ) → AllBelow high xs → (x : ℕ) → IsIn x xs → x < high
below_members xs high low x h = let w = place_is x xs h in subst (λ y. y < high) w.there (low (place_of x xs) w.in_range)

pub named_contained : (lines : List ℕ) (k : ℕ) → k < length lines → Contains lines (numbered lines k)
named_contained lines k l = contains_from_in lines (numbered lines k) (in-get_or lines k l)

named_within : (lines set : List ℕ) → AllBelow (length lines) set → (x : ℕ) → Contains (map (numbered lines) set) x → Contains lines x
named_within lines set low x h =
    let w = map_in (numbered lines) set x (in_from_contains (map (numbered lines) set) x h) in
    subst (Contains lines) (sym w.2) (named_contained lines w.0 (below_members set (length lines) low w.0 w.1))

-- a set of lines of the submatrix, by their numbers, is a set of lines of the node
pub named_lines : (lines set : LineSet) → IsStrictlyIncreasing lines.rows → IsStrictlyIncreasing lines.columns → IsPlacedSet lines set
    → IsStrictlyIncreasing set.rows → IsStrictlyIncreasing set.columns → AreLinesOf (set_in lines set) lines
named_lines lines set rows columns placed set_rows set_columns = record {
  rows_increase = increasing_named lines.rows set.rows rows set_rows (below_members set.rows (length lines.rows) placed.rows);
  columns_increase = increasing_named lines.columns set.columns columns set_columns (below_members set.columns (length lines.columns) placed.columns);
  rows = named_within lines.rows set.rows placed.rows;
  columns = named_within lines.columns set.columns placed.columns;
}

-- ---- tests

filtered : (p : ℕ → Bool) (xs : List ℕ) (x : ℕ) → Contains (filter p xs) x → Contains xs x
filtered p xs x h = contains_from_in xs x (in_filter p x xs (in_from_contains (filter p xs) x h)).0

pub filtered_lines : (lines : LineSet) (p q : ℕ → Bool) → IsStrictlyIncreasing lines.rows → IsStrictlyIncreasing lines.columns → AreLinesOf (record { rows = filter p lines.rows; columns = filter q lines.columns }) lines
filtered_lines lines p q rows columns = record {
  rows_increase = IsStrictlyIncreasing-filter p lines.rows rows;
  columns_increase = IsStrictlyIncreasing-filter q lines.columns columns;
  rows = filtered p lines.rows;
  columns = filtered q lines.columns;
}

none_equal : (i : ℕ) (xs : List ℕ) → ¬ (IsIn i xs) → length (filter (λ x. eqb x i) xs) ≡ 0
none_equal i [] d = refl
none_equal i (x ∷ xs) d = go (eqb x i) refl (none_equal i xs (λ h. d (inr h)))
  where
    go : (b : Bool) → eqb x i ≡ b → length (filter (λ x. eqb x i) xs) ≡ 0 → length (cond b (x ∷ filter (λ x. eqb x i) xs) (filter (λ x. eqb x i) xs)) ≡ 0
    go true e h = absurd (d (inl (sym (eqb-true x i e))))
    go false e h = h

one_equal : (i : ℕ) (xs : List ℕ) → IsDistinct xs → length (filter (λ x. eqb x i) xs) ≤ 1
one_equal i [] d = omega arith
one_equal i (x ∷ xs) d = go (eqb x i) refl (one_equal i xs d.1)
  where
    go : (b : Bool) → eqb x i ≡ b → length (filter (λ x. eqb x i) xs) ≤ 1 → length (cond b (x ∷ filter (λ x. eqb x i) xs) (filter (λ x. eqb x i) xs)) ≤ 1
    go true e h = let none = none_equal i xs (λ k. d.0 (subst (λ y. IsIn y xs) (sym (eqb-true x i e)) k)) in omega (arith, none)
    go false e h = h

-- no more lines are among some than these are
among_few : (more xs : List ℕ) → IsDistinct xs → length (filter (is_among more) xs) ≤ length more
among_few [] xs d = let none = nothing xs in omega (arith, none)
  where
    nothing : (xs : List ℕ) → length (filter (is_among []) xs) ≡ 0
    nothing [] = refl
    nothing (x ∷ xs) = nothing xs
among_few (i ∷ more) xs d =
    let both = filter_or (λ x. eqb x i) (is_among more) xs in
    let one = one_equal i xs d in
    let rest = among_few more xs d in
    omega (arith, both, one, rest)

pub with_few : (p : ℕ → Bool) (more xs : List ℕ) → IsStrictlyIncreasing xs → length (filter (λ x. p x || is_among more x) xs) ≤ length (filter p xs) + length more
with_few p more xs increases = let both = filter_or p (is_among more) xs in let few = among_few more xs (increasing_distinct xs increases) in omega (arith, both, few)

pub both_sides : (set xs : List ℕ) → length (inside set xs) + length (outside set xs) ≡ length xs
both_sides set xs = length-filter_both (is_among set) (λ x. not (is_among set x)) (λ x. refl) xs

-- ---- the children of sums

module _ (lines : LineSet) (rows_increase : IsStrictlyIncreasing lines.rows) (columns_increase : IsStrictlyIncreasing lines.columns) where
  -- a side with some lines of the other side, fewer than all of them
  pub one_fewer : (side : LineSet) (more_rows more_columns : List ℕ) → length more_rows + length more_columns < length (outside side.rows lines.rows) + length (outside side.columns lines.columns)
      → AreFewer lines (record { rows = inside_with side.rows more_rows lines.rows; columns = inside_with side.columns more_columns lines.columns })
  one_fewer side more_rows more_columns l = record {
    among = filtered_lines lines (λ x. is_among side.rows x || is_among more_rows x) (λ x. is_among side.columns x || is_among more_columns x) rows_increase columns_increase;
    fewer = let a = with_few (is_among side.rows) more_rows lines.rows rows_increase in
        let b = with_few (is_among side.columns) more_columns lines.columns columns_increase in
        let c = both_sides side.rows lines.rows in
        let d = both_sides side.columns lines.columns in
        omega (arith, a, b, c, d, l);
  }

  pub two_fewer : (side : LineSet) (more_rows more_columns : List ℕ) → length more_rows + length more_columns < length (inside side.rows lines.rows) + length (inside side.columns lines.columns)
      → AreFewer lines (record { rows = outside_with side.rows more_rows lines.rows; columns = outside_with side.columns more_columns lines.columns })
  two_fewer side more_rows more_columns l = record {
    among = filtered_lines lines (λ x. not (is_among side.rows x) || is_among more_rows x) (λ x. not (is_among side.columns x) || is_among more_columns x) rows_increase columns_increase;
    fewer = let a = with_few (λ x. not (is_among side.rows x)) more_rows lines.rows rows_increase in
        let b = with_few (λ x. not (is_among side.columns x)) more_columns lines.columns columns_increase in
        let c = both_sides side.rows lines.rows in
        let d = both_sides side.columns lines.columns in
        omega (arith, a, b, c, d, l);
  }

  pub children_two : (two : Two) → HaveLines 2 (sides lines two.side) → AreFewer lines (two_one lines two) × AreFewer lines (two_two lines two)
  children_two two enough = (
    subst (λ columns. AreFewer lines (record { rows = inside_with two.side.rows (two.row ∷ []) lines.rows; columns = columns })) (inside_alone two.side.columns lines.columns)
        (one_fewer two.side (two.row ∷ []) [] (let l = enough.two in omega (arith, l))),
    subst (λ rows. AreFewer lines (record { rows = rows; columns = outside_with two.side.columns (two.column ∷ []) lines.columns })) (outside_alone two.side.rows lines.rows)
        (two_fewer two.side [] (two.column ∷ []) (let l = enough.one in omega (arith, l))),
  )

  connector_lines : (flat : Bool) (c : Connector) → length (connector_rows flat c) + length (connector_columns flat c) ≡ 3
  connector_lines true c = refl
  connector_lines false c = refl

  pub children_three : (t : Three) → HaveLines 4 (sides lines t.side) → AreFewer lines (three_one lines t) × AreFewer lines (three_two lines t)
  children_three t enough = (
    one_fewer t.side (connector_rows (second_is_flat t.form) t.second) (connector_columns (second_is_flat t.form) t.second) (let l = enough.two in let k = connector_lines (second_is_flat t.form) t.second in omega (arith, l, k)),
    two_fewer t.side (connector_rows (first_is_flat t.form) t.first) (connector_columns (first_is_flat t.form) t.first) (let l = enough.one in let k = connector_lines (first_is_flat t.form) t.first in omega (arith, l, k)),
  )
