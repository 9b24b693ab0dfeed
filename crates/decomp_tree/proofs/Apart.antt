-- The connected parts of a node's submatrix, by their numbers in the whole matrix, are apart.
use Rattle.std.proofs.Common.{◌≡◌, ◌≢◌, ◌<◌, ◌≤◌, ◌+◌, ◌∙◌, ◌&&◌, ◌||◌, inl, inr, ℕ, zero, suc, pos, Bool, true, false, cond, List, [], ◌∷◌, length, map, get_or, refl, ap₂, sym, subst, arith}
use Rattle.std.proofs.lemmas.List.{length-map}
use Rattle.std.specs.List.{AllByRecursion, list_any, count_by}
use Rattle.std.specs.List.Sorted.{IsStrictlyIncreasing}
use Rattle.cmr_base.specs.declared.line.Line.{Line}
use Rattle.cmr_base.specs.declared.line.Line.TheVariants.{Row, Column}
use Rattle.cmr_base.specs.declared.line_set.LineSet.{LineSet}
use Rattle.cmr_base.specs.Matrix.{Matrix, height, entry}
use Rattle.cmr_base.specs.LineSets.{IsRowSet, IsColumnSet}
use Rattle.cmr_base.specs.Members.{IsIn}
use Rattle.cmr_base.specs.Reductions.{HasLine}
use Rattle.cmr_base.specs.Separations.{listed}
use Rattle.cmr_base.specs.Seeds.{IsLine}
use Rattle.cmr_base.specs.Components.{IsComponent, AreComponents, part_at}
use Rattle.cmr_base.proofs.Members.{all_of_members}
use Rattle.cmr_base.proofs.ListsWithout.{true_is_false, in_from_contains, contains_from_in, place_of, place_is}
use Rattle.cmr_base.proofs.ListedLines.{has_line_from_listed, listed_from_has_line, contains_first_lines}
use Rattle.cmr_base.proofs.RowLists.{two_cases}
use Rattle.cmr_base.proofs.Booleans.{same_test, is_and}
use Rattle.tree_laws.proofs.OneSums.{counted}
use Rattle.tree_type.specs.Invariant.{AreLines, size_of}
use Rattle.tree_type.specs.Sides.{is_among}
use Rattle.tree_type.specs.Soundness.{part, AreApart}
use Rattle.tree_type.proofs.Among.{among_in, in_among}
use Rattle.decomp_tree.specs.Shapes.{numbered, set_in}
use Rattle.decomp_tree.proofs.Numbered.{entry_in, height_in, in_map, map_in, once}

-- ---- the lines of a part as a test

abbrev set_of : LineSet → Line → Bool
set_of p (Row row) = is_among p.rows row
set_of p (Column column) = is_among p.columns column

has_from_set : (p : LineSet) (x : Line) → set_of p x ≡ true → HasLine p.rows p.columns x
has_from_set p (Row row) e = contains_from_in p.rows row (among_in p.rows row e)
has_from_set p (Column column) e = contains_from_in p.columns column (among_in p.columns column e)

set_from_has : (p : LineSet) (x : Line) → HasLine p.rows p.columns x → set_of p x ≡ true
set_from_has p (Row row) h = in_among p.rows row (in_from_contains p.rows row h)
set_from_has p (Column column) h = in_among p.columns column (in_from_contains p.columns column h)

set_from_listed : (p : LineSet) (x : Line) → listed p.rows p.columns x ≡ true → set_of p x ≡ true
set_from_listed p x e = set_from_has p x (has_line_from_listed p.rows p.columns x e)

listed_from_set : (p : LineSet) (x : Line) → set_of p x ≡ true → listed p.rows p.columns x ≡ true
listed_from_set p x e = listed_from_has_line p.rows p.columns x (has_from_set p x e)

not_listed : (p : LineSet) (x : Line) → set_of p x ≡ false → listed p.rows p.columns x ≡ false
not_listed p x e = elim (two_cases (listed p.rows p.columns x)) [
  | inl h ↦ true_is_false (sym (set_from_listed p x h) ∙ e)
  | inr h ↦ h
]

pub record IsPartOf (n : Matrix) (p : LineSet) : Type 0 where
  pub rows : IsRowSet n p.rows
  pub columns : IsColumnSet n p.columns
  pub connected : IsComponent (height n) n.width (entry n) (listed p.rows p.columns)

pub all_from_places : (P : LineSet → Type 0) (parts : List LineSet) → ((a : ℕ) → a < length parts → P (part_at parts a)) → AllByRecursion P parts
all_from_places P [] h = tt
all_from_places P (p ∷ parts) h = (h 0 (omega arith), all_from_places P parts (λ a l. h (suc a) (omega (arith, l))))

pub each_part : (n : Matrix) (parts : List LineSet) → AreComponents n parts → AllByRecursion (IsPartOf n) parts
each_part n parts are = all_from_places (IsPartOf n) parts (λ a l. record { rows = are.row_sets a l; columns = are.column_sets a l; connected = are.components a l })

-- ---- a line is in exactly one of the parts

count_none : (test : LineSet → Bool) (parts : List LineSet) → ((b : ℕ) → b < length parts → test (part_at parts b) ≡ true → ⊥) → count_by test parts ≡ 0
count_none test [] h = refl
count_none test (p ∷ parts) h = go (test p) refl (count_none test parts (λ b l e. h (suc b) (omega (arith, l)) e))
  where
    go : (b : Bool) → test p ≡ b → count_by test parts ≡ 0 → count_by test (p ∷ parts) ≡ 0
    go true e k = absurd (h 0 (omega arith) e)
    go false e k = counted test p parts ∙ rw e (omega (arith, k))

not_zero : (b : ℕ) → suc b ≡ 0 → ⊥
not_zero b e = omega (arith, e)

less_one : (a b : ℕ) → suc b ≡ suc a → b ≡ a
less_one a b e = omega (arith, e)

count_once : (test : LineSet → Bool) (parts : List LineSet) (a : ℕ) → a < length parts → test (part_at parts a) ≡ true
    → ((b : ℕ) → b < length parts → test (part_at parts b) ≡ true → b ≡ a) → count_by test parts ≡ 1
count_once test [] a l e only = absurd (omega (arith, l))
count_once test (p ∷ parts) zero l e only =
    let none = count_none test parts (λ b k f. not_zero b (only (suc b) (omega (arith, k)) f)) in
    counted test p parts ∙ rw e (omega (arith, none))
count_once test (p ∷ parts) (suc a) l e only = go (test p) refl (count_once test parts a (omega (arith, l)) e (λ b k f. less_one a b (only (suc b) (omega (arith, k)) f)))
  where
    go : (b : Bool) → test p ≡ b → count_by test parts ≡ 1 → count_by test (p ∷ parts) ≡ 1
    go true f k = absurd (not_zero a (sym (only 0 (omega arith) f)))
    go false f k = counted test p parts ∙ rw f (omega (arith, k))

counted_once : (n : Matrix) (parts : List LineSet) → AreComponents n parts → (x : Line) → IsLine (height n) n.width x → count_by (λ q. set_of q x) parts ≡ 1
counted_once n parts are x line =
    let w = are.all x line in
    count_once (λ q. set_of q x) parts w.0 w.1 (set_from_has (part_at parts w.0) x w.2) (λ b l e. are.once b w.0 x l w.1 (has_from_set (part_at parts b) x e) w.2)

any_at : (test : LineSet → Bool) (parts : List LineSet) (a : ℕ) → a < length parts → test (part_at parts a) ≡ true → list_any test parts ≡ true
any_at test [] a l e = absurd (omega (arith, l))
any_at test (p ∷ parts) zero l e = rw e refl
any_at test (p ∷ parts) (suc a) l e = later (test p) (any_at test parts a (omega (arith, l)) e)
  where
    later : (b : Bool) → list_any test parts ≡ true → (b || list_any test parts) ≡ true
    later true e = refl
    later false e = e

count_map : (f : LineSet → LineSet) (test other : LineSet → Bool) (parts : List LineSet) → AllByRecursion (λ p. test (f p) ≡ other p) parts → count_by test (map f parts) ≡ count_by other parts
count_map f test other [] h = refl
count_map f test other (p ∷ parts) h = counted test (f p) (map f parts) ∙ ap₂ (λ a b. cond a 1 0 + b) h.0 (count_map f test other parts h.1) ∙ sym (counted other p parts)

among_named : (xs set : List ℕ) (k : ℕ) → IsStrictlyIncreasing xs → ((x : ℕ) → IsIn x set → x < length xs) → k < length xs → is_among (map (numbered xs) set) (numbered xs k) ≡ is_among set k
among_named xs set k increases low l = same_test (is_among (map (numbered xs) set) (numbered xs k)) (is_among set k)
    (λ e. let w = map_in (numbered xs) set (numbered xs k) (among_in (map (numbered xs) set) (numbered xs k) e) in in_among set k (subst (λ y. IsIn y set) (sym (once xs increases (λ _. true) k w.0 l (low w.0 w.1) w.2)) w.1))
    (λ e. in_among (map (numbered xs) set) (numbered xs k) (in_map (numbered xs) set k (among_in set k e)))

low_members : (xs : List ℕ) (high : ℕ) → ((k : ℕ) → k < length xs → get_or xs k 0 < high) → (x : ℕ) → IsIn x xs → x < high
low_members xs high low x h = let w = place_is x xs h in subst (λ y. y < high) w.there (low (place_of x xs) w.in_range)

all_mapped : (P : LineSet → Type 0) (Q : LineSet → Type 0) (f : LineSet → LineSet) → ((p : LineSet) → P p → Q (f p)) → (parts : List LineSet) → AllByRecursion P parts → AllByRecursion Q (map f parts)
all_mapped P Q f g [] h = tt
all_mapped P Q f g (p ∷ parts) h = (g p h.0, all_mapped P Q f g parts h.1)

any_map : (f : LineSet → LineSet) (test other : LineSet → Bool) (parts : List LineSet) → AllByRecursion (λ p. test (f p) ≡ other p) parts → list_any test (map f parts) ≡ list_any other parts
any_map f test other [] h = refl
any_map f test other (p ∷ parts) h = ap₂ (λ a b. a || b) h.0 (any_map f test other parts h.1)

weaken : (P Q : LineSet → Type 0) → ((p : LineSet) → P p → Q p) → (parts : List LineSet) → AllByRecursion P parts → AllByRecursion Q parts
weaken P Q f [] h = tt
weaken P Q f (p ∷ parts) h = (f p h.0, weaken P Q f parts h.1)

module _ (m : Matrix) (lines : LineSet) (are : AreLines m lines) (parts : List LineSet) (are_parts : AreComponents (part m lines) parts) (more : 2 ≤ length parts) where
  each : AllByRecursion (IsPartOf (part m lines)) parts
  each = each_part (part m lines) parts are_parts

  rows_low : (p : LineSet) → IsPartOf (part m lines) p → (x : ℕ) → IsIn x p.rows → x < length lines.rows
  rows_low p is x h = let l = low_members p.rows (height (part m lines)) is.rows.in_range x h in omega (arith, l, height_in m lines)

  columns_low : (p : LineSet) → IsPartOf (part m lines) p → (x : ℕ) → IsIn x p.columns → x < length lines.columns
  columns_low p is x h = low_members p.columns (length lines.columns) is.columns.in_range x h

  row_same : (k : ℕ) → k < length lines.rows → AllByRecursion (λ p. is_among (set_in lines p).rows (numbered lines.rows k) ≡ set_of p (Row k)) parts
  row_same k l = weaken (IsPartOf (part m lines)) (λ p. is_among (set_in lines p).rows (numbered lines.rows k) ≡ set_of p (Row k))
      (λ p is. among_named lines.rows p.rows k are.rows.increasing (rows_low p is) l) parts each

  column_same : (k : ℕ) → k < length lines.columns → AllByRecursion (λ p. is_among (set_in lines p).columns (numbered lines.columns k) ≡ set_of p (Column k)) parts
  column_same k l = weaken (IsPartOf (part m lines)) (λ p. is_among (set_in lines p).columns (numbered lines.columns k) ≡ set_of p (Column k))
      (λ p is. among_named lines.columns p.columns k are.columns.increasing (columns_low p is) l) parts each

  row_line : (k : ℕ) → k < length lines.rows → k < height (part m lines)
  row_line k l = omega (arith, l, height_in m lines)

  row_once : (k : ℕ) → k < length lines.rows → count_by (λ child. is_among child.rows (numbered lines.rows k)) (map (set_in lines) parts) ≡ 1
  row_once k l = count_map (set_in lines) (λ child. is_among child.rows (numbered lines.rows k)) (λ p. set_of p (Row k)) parts (row_same k l)
      ∙ counted_once (part m lines) parts are_parts (Row k) (row_line k l)

  column_once : (k : ℕ) → k < length lines.columns → count_by (λ child. is_among child.columns (numbered lines.columns k)) (map (set_in lines) parts) ≡ 1
  column_once k l = count_map (set_in lines) (λ child. is_among child.columns (numbered lines.columns k)) (λ p. set_of p (Column k)) parts (column_same k l)
      ∙ counted_once (part m lines) parts are_parts (Column k) l

  both_same : (i j : ℕ) → i < length lines.rows → j < length lines.columns → (qs : List LineSet) → AllByRecursion (λ p. is_among (set_in lines p).rows (numbered lines.rows i) ≡ set_of p (Row i)) qs
      → AllByRecursion (λ p. is_among (set_in lines p).columns (numbered lines.columns j) ≡ set_of p (Column j)) qs
      → AllByRecursion (λ p. (is_among (set_in lines p).rows (numbered lines.rows i) && is_among (set_in lines p).columns (numbered lines.columns j)) ≡ (set_of p (Row i) && set_of p (Column j))) qs
  both_same i j h k [] a b = tt
  both_same i j h k (q ∷ qs) a b = (ap₂ (λ x y. x && y) a.0 b.0, both_same i j h k qs a.1 b.1)

  together : (i j : ℕ) → i < length lines.rows → j < length lines.columns → entry m (numbered lines.rows i) (numbered lines.columns j) ≢ pos 0
      → list_any (λ child. is_among child.rows (numbered lines.rows i) && is_among child.columns (numbered lines.columns j)) (map (set_in lines) parts) ≡ true
  together i j h k d =
      any_map (set_in lines) (λ child. is_among child.rows (numbered lines.rows i) && is_among child.columns (numbered lines.columns j)) (λ p. set_of p (Row i) && set_of p (Column j)) parts (both_same i j h k parts (row_same i h) (column_same j k))
      ∙ any_at (λ p. set_of p (Row i) && set_of p (Column j)) parts here.0 here.1 (is_and (set_of (part_at parts here.0) (Row i)) (set_of (part_at parts here.0) (Column j)) in_row (crossing here.0 here.1 in_row (set_of (part_at parts here.0) (Column j)) refl))
    where
      here : (a : ℕ) × (a < length parts) × HasLine (part_at parts a).rows (part_at parts a).columns (Row i)
      here = are_parts.all (Row i) (row_line i h)

      in_row : set_of (part_at parts here.0) (Row i) ≡ true
      in_row = set_from_has (part_at parts here.0) (Row i) here.2

      crossing : (a : ℕ) → a < length parts → set_of (part_at parts a) (Row i) ≡ true → (b : Bool) → set_of (part_at parts a) (Column j) ≡ b → set_of (part_at parts a) (Column j) ≡ true
      crossing a l e true f = f
      crossing a l e false f = absurd (d (sym (entry_in m lines i j h k) ∙ (are_parts.components a l).apart.upper i j
          (contains_first_lines (height (part m lines)) i (row_line i h)) (contains_first_lines (length lines.columns) j k) (listed_from_set (part_at parts a) (Row i) e) (not_listed (part_at parts a) (Column j) f)))

  filled_part : (p : LineSet) → IsPartOf (part m lines) p → 0 < size_of (set_in lines p)
  filled_part p is = go is.connected.some.0 (set_from_listed p is.connected.some.0 is.connected.some.2)
    where
      some_member : (xs : List ℕ) (x : ℕ) → IsIn x xs → 0 < length xs
      some_member [] x h = absurd h
      some_member (y ∷ ys) x h = omega arith

      go : (x : Line) → set_of p x ≡ true → 0 < size_of (set_in lines p)
      go (Row r) e = let l = some_member p.rows r (among_in p.rows r e) in let a = length-map p.rows (numbered lines.rows) in omega (arith, l, a)
      go (Column c) e = let l = some_member p.columns c (among_in p.columns c e) in let a = length-map p.columns (numbered lines.columns) in omega (arith, l, a)

  pub parts_apart : AreApart (entry m) lines (map (set_in lines) parts)
  parts_apart = record {
    two = subst (λ k. 2 ≤ k) (sym (length-map parts (set_in lines))) more;
    filled = all_mapped (IsPartOf (part m lines)) (λ child. 0 < size_of child) (set_in lines) filled_part parts each;
    rows = all_of_members (λ row. count_by (λ child. is_among child.rows row) (map (set_in lines) parts) ≡ 1) lines.rows
        (λ row h. let w = place_is row lines.rows h in subst (λ x. count_by (λ child. is_among child.rows x) (map (set_in lines) parts) ≡ 1) w.there (row_once (place_of row lines.rows) w.in_range));
    columns = all_of_members (λ column. count_by (λ child. is_among child.columns column) (map (set_in lines) parts) ≡ 1) lines.columns
        (λ column h. let w = place_is column lines.columns h in subst (λ x. count_by (λ child. is_among child.columns x) (map (set_in lines) parts) ≡ 1) w.there (column_once (place_of column lines.columns) w.in_range));
    nonzeros = λ row column h k d.
        let a = place_is row lines.rows (in_from_contains lines.rows row h) in
        let b = place_is column lines.columns (in_from_contains lines.columns column k) in
        subst (λ x. list_any (λ child. is_among child.rows x && is_among child.columns column) (map (set_in lines) parts) ≡ true) a.there
        (subst (λ y. list_any (λ child. is_among child.rows (numbered lines.rows (place_of row lines.rows)) && is_among child.columns y) (map (set_in lines) parts) ≡ true) b.there
        (together (place_of row lines.rows) (place_of column lines.columns) a.in_range b.in_range (λ z. d (ap₂ (entry m) (sym a.there) (sym b.there) ∙ z))));
  }
