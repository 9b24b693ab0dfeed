-- If the sides of a sum keep the rules, its lines have a separation.
use Rattle.std.proofs.Common.{◌≡◌, ◌≤◌, ◌+◌, ◌∙◌, ◌||◌, ◌↔◌, ℕ, ℤ, Bool, true, false, not, nat_eq, filter, List, [], ◌∷◌, length, Contains, ap, ap₂, sym, subst, refl}
use Rattle.std.specs.List.{list_any}
use Rattle.cmr_base.specs.declared.line.Line.TheVariants.{Row, Column}
use Rattle.cmr_base.specs.declared.line_set.LineSet.{LineSet}
use Rattle.cmr_base.specs.declared.separation.Connector.{Connector}
use Rattle.cmr_base.specs.declared.separation.Two.{Two}
use Rattle.cmr_base.specs.declared.separation.Three.{Three}
use Rattle.cmr_base.specs.Separations.{Lines, is_same_line, child_one, child_two, AreEnough, AreOn, connector_lines, first_is_flat, second_is_flat, IsTwoSeparation, IsThreeSeparation}
use Rattle.cmr_base.proofs.ListsWithout.{in_from_contains, contains_from_in}
use Rattle.cmr_base.proofs.RowLists.{filter_in, in_filter}
use Rattle.cmr_base.proofs.Lists.{filter_same}
use Rattle.cmr_base.proofs.Booleans.{eq_swapped, not_is, is_not}
use Rattle.tree_type.specs.Sides.{is_among, inside, outside, sides, HaveLines, IsReference, AreTwoBlocks, two_one, two_two, HasConnector, connector_rows, connector_columns, AreConnectorsOfSides, AreThreeBlocks, three_one, three_two}
use Rattle.tree_type.specs.SideLaws.{side_one, lines_kept}

-- ---- tests

or_nothing : (b : Bool) → b ≡ (b || false)
or_nothing true = refl
or_nothing false = refl

among_is : (set : List ℕ) (x : ℕ) → is_among set x ≡ list_any (λ y. nat_eq y x) set
among_is [] x = refl
among_is (y ∷ ys) x = ap₂ (λ a b. a || b) (eq_swapped x y) (among_is ys x)

-- ---- the lines of each side, of one kind

module _ (set xs : List ℕ) where
  abbrev on_one : ℕ → Bool
  on_one x = list_any (λ y. nat_eq y x) set

  to_one : (x : ℕ) → Contains xs x → on_one x ≡ true → Contains (inside set xs) x
  to_one x h e = contains_from_in (inside set xs) x (filter_in (is_among set) x xs (in_from_contains xs x h) (among_is set x ∙ e))

  from_one : (x : ℕ) → Contains (inside set xs) x → Contains xs x × (on_one x ≡ true)
  from_one x h = let w = in_filter (is_among set) x xs (in_from_contains (inside set xs) x h) in (contains_from_in xs x w.0, sym (among_is set x) ∙ w.1)

  to_two : (x : ℕ) → Contains xs x → on_one x ≡ false → Contains (outside set xs) x
  to_two x h e = contains_from_in (outside set xs) x (filter_in (λ z. not (is_among set z)) x xs (in_from_contains xs x h) (is_not (is_among set x) (among_is set x ∙ e)))

  from_two : (x : ℕ) → Contains (outside set xs) x → Contains xs x × (on_one x ≡ false)
  from_two x h = let w = in_filter (λ z. not (is_among set z)) x xs (in_from_contains (outside set xs) x h) in (contains_from_in xs x w.0, sym (among_is set x) ∙ not_is (is_among set x) w.1)

  one_is : inside set xs ≡ filter on_one xs
  one_is = filter_same (is_among set) on_one (among_is set) xs

  two_is : outside set xs ≡ filter (λ x. not (on_one x)) xs
  two_is = filter_same (λ x. not (is_among set x)) (λ x. not (on_one x)) (λ x. ap not (among_is set x)) xs

-- ---- numbers of lines, and blocks

module _ (lines set : LineSet) where
  abbrev S : Lines
  S = side_one set

  counts_one : length (inside set.rows lines.rows) + length (inside set.columns lines.columns) ≡ length (filter (λ r. S (Row r)) lines.rows) + length (filter (λ c. S (Column c)) lines.columns)
  counts_one = ap₂ (λ a b. length a + length b) (one_is set.rows lines.rows) (one_is set.columns lines.columns)

  counts_two : length (outside set.rows lines.rows) + length (outside set.columns lines.columns) ≡ length (filter (λ r. not (S (Row r))) lines.rows) + length (filter (λ c. not (S (Column c))) lines.columns)
  counts_two = ap₂ (λ a b. length a + length b) (two_is set.rows lines.rows) (two_is set.columns lines.columns)

  enough_to : (low : ℕ) → HaveLines low (sides lines set) → AreEnough lines.rows lines.columns S low
  enough_to low h = record { one = subst (λ k. low ≤ k) counts_one h.one; two = subst (λ k. low ≤ k) counts_two h.two }

  enough_from : (low : ℕ) → AreEnough lines.rows lines.columns S low → HaveLines low (sides lines set)
  enough_from low h = record { one = subst (λ k. low ≤ k) (sym counts_one) h.one; two = subst (λ k. low ≤ k) (sym counts_two) h.two }

  -- ---- connectors

  connector_to_one : (flat : Bool) (c : Connector) → HasConnector flat (inside set.rows lines.rows) (inside set.columns lines.columns) c
      → AreOn lines.rows lines.columns S true (connector_lines flat c)
  connector_to_one true c h = (from_one set.rows lines.rows c.row h.0, (from_one set.columns lines.columns c.column h.1, (from_one set.columns lines.columns c.other h.2, tt)))
  connector_to_one false c h = (from_one set.rows lines.rows c.row h.0, (from_one set.columns lines.columns c.column h.1, (from_one set.rows lines.rows c.other h.2, tt)))

  connector_from_one : (flat : Bool) (c : Connector) → AreOn lines.rows lines.columns S true (connector_lines flat c)
      → HasConnector flat (inside set.rows lines.rows) (inside set.columns lines.columns) c
  connector_from_one true c h = (to_one set.rows lines.rows c.row h.0.0 h.0.1, to_one set.columns lines.columns c.column h.1.0.0 h.1.0.1, to_one set.columns lines.columns c.other h.1.1.0.0 h.1.1.0.1)
  connector_from_one false c h = (to_one set.rows lines.rows c.row h.0.0 h.0.1, to_one set.columns lines.columns c.column h.1.0.0 h.1.0.1, to_one set.rows lines.rows c.other h.1.1.0.0 h.1.1.0.1)

  connector_to_two : (flat : Bool) (c : Connector) → HasConnector flat (outside set.rows lines.rows) (outside set.columns lines.columns) c
      → AreOn lines.rows lines.columns S false (connector_lines flat c)
  connector_to_two true c h = (from_two set.rows lines.rows c.row h.0, (from_two set.columns lines.columns c.column h.1, (from_two set.columns lines.columns c.other h.2, tt)))
  connector_to_two false c h = (from_two set.rows lines.rows c.row h.0, (from_two set.columns lines.columns c.column h.1, (from_two set.rows lines.rows c.other h.2, tt)))

  connector_from_two : (flat : Bool) (c : Connector) → AreOn lines.rows lines.columns S false (connector_lines flat c)
      → HasConnector flat (outside set.rows lines.rows) (outside set.columns lines.columns) c
  connector_from_two true c h = (to_two set.rows lines.rows c.row h.0.0 h.0.1, to_two set.columns lines.columns c.column h.1.0.0 h.1.0.1, to_two set.columns lines.columns c.other h.1.1.0.0 h.1.1.0.1)
  connector_from_two false c h = (to_two set.rows lines.rows c.row h.0.0 h.0.1, to_two set.columns lines.columns c.column h.1.0.0 h.1.0.1, to_two set.rows lines.rows c.other h.1.1.0.0 h.1.1.0.1)

-- ---- the laws

pub two_sums_separate : (M : ℕ → ℕ → ℤ) (lines : LineSet) (two : Two)
    → (HaveLines 2 (sides lines two.side) × IsReference M (sides lines two.side) two.row two.column × AreTwoBlocks M (sides lines two.side) two.row two.column)
    ↔ IsTwoSeparation M lines.rows lines.columns (side_one two.side) two.row two.column
two_sums_separate M lines two = (to, from)
  where
    to : HaveLines 2 (sides lines two.side) × IsReference M (sides lines two.side) two.row two.column × AreTwoBlocks M (sides lines two.side) two.row two.column
        → IsTwoSeparation M lines.rows lines.columns (side_one two.side) two.row two.column
    to (enough, reference, blocks) = record {
      one = (from_one two.side.columns lines.columns two.column reference.column, tt);
      two = (from_two two.side.rows lines.rows two.row reference.row, tt);
      nonzero = reference.nonzero;
      blocks = record {
        upper = λ r c h k e f. blocks.upper r c (to_one two.side.rows lines.rows r h e) (to_two two.side.columns lines.columns c k f);
        lower = λ r c h k e f. blocks.lower r c (to_two two.side.rows lines.rows r h e) (to_one two.side.columns lines.columns c k f);
      };
      enough = enough_to lines two.side 2 enough;
    }

    from : IsTwoSeparation M lines.rows lines.columns (side_one two.side) two.row two.column
        → HaveLines 2 (sides lines two.side) × IsReference M (sides lines two.side) two.row two.column × AreTwoBlocks M (sides lines two.side) two.row two.column
    from s = (
      enough_from lines two.side 2 s.enough,
      record {
        row = to_two two.side.rows lines.rows two.row s.two.0.0 s.two.0.1;
        column = to_one two.side.columns lines.columns two.column s.one.0.0 s.one.0.1;
        nonzero = s.nonzero;
      },
      record {
        upper = λ r c h k. let a = from_one two.side.rows lines.rows r h in let b = from_two two.side.columns lines.columns c k in s.blocks.upper r c a.0 b.0 a.1 b.1;
        lower = λ r c h k. let a = from_two two.side.rows lines.rows r h in let b = from_one two.side.columns lines.columns c k in s.blocks.lower r c a.0 b.0 a.1 b.1;
      },
    )

pub three_sums_separate : (M : ℕ → ℕ → ℤ) (lines : LineSet) (t : Three)
    → (HaveLines 4 (sides lines t.side) × AreConnectorsOfSides M (sides lines t.side) t × AreThreeBlocks M (sides lines t.side) t)
    ↔ IsThreeSeparation M lines.rows lines.columns (side_one t.side) t.form t.first t.second
three_sums_separate M lines t = (to, from)
  where
    to : HaveLines 4 (sides lines t.side) × AreConnectorsOfSides M (sides lines t.side) t × AreThreeBlocks M (sides lines t.side) t
        → IsThreeSeparation M lines.rows lines.columns (side_one t.side) t.form t.first t.second
    to (enough, joined, blocks) = record {
      one = connector_to_one lines t.side (first_is_flat t.form) t.first joined.first;
      two = connector_to_two lines t.side (second_is_flat t.form) t.second joined.second;
      connectors = joined.values;
      blocks = record {
        upper = λ r c h k e f. blocks.upper r c (to_one t.side.rows lines.rows r h e) (to_two t.side.columns lines.columns c k f);
        lower = λ r c h k e f. blocks.lower r c (to_two t.side.rows lines.rows r h e) (to_one t.side.columns lines.columns c k f);
      };
      enough = enough_to lines t.side 4 enough;
    }

    from : IsThreeSeparation M lines.rows lines.columns (side_one t.side) t.form t.first t.second
        → HaveLines 4 (sides lines t.side) × AreConnectorsOfSides M (sides lines t.side) t × AreThreeBlocks M (sides lines t.side) t
    from s = (
      enough_from lines t.side 4 s.enough,
      record {
        first = connector_from_one lines t.side (first_is_flat t.form) t.first s.one;
        second = connector_from_two lines t.side (second_is_flat t.form) t.second s.two;
        values = s.connectors;
      },
      record {
        upper = λ r c h k. let a = from_one t.side.rows lines.rows r h in let b = from_two t.side.columns lines.columns c k in s.blocks.upper r c a.0 b.0 a.1 b.1;
        lower = λ r c h k. let a = from_two t.side.rows lines.rows r h in let b = from_one t.side.columns lines.columns c k in s.blocks.lower r c a.0 b.0 a.1 b.1;
      },
    )

-- ---- children

made : List ℕ → List ℕ → LineSet
made rows columns = record { rows = rows; columns = columns }

-- the lines of a child pass two tests that agree
kept : (f g h k : ℕ → Bool) → ((x : ℕ) → f x ≡ g x) → ((x : ℕ) → h x ≡ k x) → (xs : List ℕ) → filter (λ x. f x || h x) xs ≡ filter (λ x. g x || k x) xs
kept f g h k e q xs = filter_same (λ x. f x || h x) (λ x. g x || k x) (λ x. ap₂ (λ a b. a || b) (e x) (q x)) xs

plain : (f g : ℕ → Bool) → ((x : ℕ) → f x ≡ g x) → (xs : List ℕ) → filter f xs ≡ filter (λ x. g x || false) xs
plain f g e xs = filter_same f (λ x. g x || false) (λ x. e x ∙ or_nothing (g x)) xs

not_among_is : (set : List ℕ) (x : ℕ) → not (is_among set x) ≡ not (list_any (λ y. nat_eq y x) set)
not_among_is set x = ap not (among_is set x)

pub two_sums_have_children : (lines : LineSet) (two : Two)
    → (two_one lines two ≡ lines_kept (child_one (side_one two.side) (Row two.row ∷ [])) lines)
    × (two_two lines two ≡ lines_kept (child_two (side_one two.side) (Column two.column ∷ [])) lines)
unfolding made
two_sums_have_children lines two = (
  ap₂ made
      (kept (is_among two.side.rows) (λ x. list_any (λ y. nat_eq y x) two.side.rows) (is_among (two.row ∷ [])) (λ x. list_any (is_same_line (Row x)) (Row two.row ∷ [])) (among_is two.side.rows) (among_is (two.row ∷ [])) lines.rows)
      (plain (is_among two.side.columns) (λ x. list_any (λ y. nat_eq y x) two.side.columns) (among_is two.side.columns) lines.columns),
  ap₂ made
      (plain (λ x. not (is_among two.side.rows x)) (λ x. not (list_any (λ y. nat_eq y x) two.side.rows)) (not_among_is two.side.rows) lines.rows)
      (kept (λ x. not (is_among two.side.columns x)) (λ x. not (list_any (λ y. nat_eq y x) two.side.columns)) (is_among (two.column ∷ [])) (λ x. list_any (is_same_line (Column x)) (Column two.column ∷ [])) (not_among_is two.side.columns) (among_is (two.column ∷ [])) lines.columns),
)

named_row : (flat : Bool) (c : Connector) (x : ℕ) → is_among (connector_rows flat c) x ≡ list_any (is_same_line (Row x)) (connector_lines flat c)
named_row true c x = among_is (c.row ∷ []) x
named_row false c x = among_is (c.row ∷ c.other ∷ []) x

named_column : (flat : Bool) (c : Connector) (x : ℕ) → is_among (connector_columns flat c) x ≡ list_any (is_same_line (Column x)) (connector_lines flat c)
named_column true c x = among_is (c.column ∷ c.other ∷ []) x
named_column false c x = among_is (c.column ∷ []) x

pub three_sums_have_children : (lines : LineSet) (t : Three)
    → (three_one lines t ≡ lines_kept (child_one (side_one t.side) (connector_lines (second_is_flat t.form) t.second)) lines)
    × (three_two lines t ≡ lines_kept (child_two (side_one t.side) (connector_lines (first_is_flat t.form) t.first)) lines)
unfolding made
three_sums_have_children lines t =
    let flat1 = first_is_flat t.form in
    let flat2 = second_is_flat t.form in (
      ap₂ made
          (kept (is_among t.side.rows) (λ x. list_any (λ y. nat_eq y x) t.side.rows) (is_among (connector_rows flat2 t.second)) (λ x. list_any (is_same_line (Row x)) (connector_lines flat2 t.second)) (among_is t.side.rows) (named_row flat2 t.second) lines.rows)
          (kept (is_among t.side.columns) (λ x. list_any (λ y. nat_eq y x) t.side.columns) (is_among (connector_columns flat2 t.second)) (λ x. list_any (is_same_line (Column x)) (connector_lines flat2 t.second)) (among_is t.side.columns) (named_column flat2 t.second) lines.columns),
      ap₂ made
          (kept (λ x. not (is_among t.side.rows x)) (λ x. not (list_any (λ y. nat_eq y x) t.side.rows)) (is_among (connector_rows flat1 t.first)) (λ x. list_any (is_same_line (Row x)) (connector_lines flat1 t.first)) (not_among_is t.side.rows) (named_row flat1 t.first) lines.rows)
          (kept (λ x. not (is_among t.side.columns x)) (λ x. not (list_any (λ y. nat_eq y x) t.side.columns)) (is_among (connector_columns flat1 t.first)) (λ x. list_any (is_same_line (Column x)) (connector_lines flat1 t.first)) (not_among_is t.side.columns) (named_column flat1 t.first) lines.columns),
    )
