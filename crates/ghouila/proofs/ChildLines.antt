-- The children of a separation, as the lines of one side and a few lines of the other side.
use Rattle.std.proofs.Common.{◌≡◌, ◌≢◌, ◌⊎◌, inl, inr, ◌||◌, not, nat_eq, ℕ, pos, negsuc, Bool, true, false, List, [], ◌∷◌, sym, subst, arith}
use Rattle.std.specs.List.{Contains, list_any}
use Rattle.std.proofs.lemmas.Bool.{false≢true}
use Rattle.std.proofs.lemmas.Bool.Decides.{nat_tests}
use Rattle.cmr_base.specs.declared.line.Line.{Line}
use Rattle.cmr_base.specs.declared.line.Line.TheVariants.{Row, Column}
use Rattle.cmr_base.specs.declared.separation.Connector.{Connector}
use Rattle.cmr_base.specs.declared.separation.Form.{Form}
use Rattle.cmr_base.specs.declared.separation.Form.TheVariants.{Delta, YForm, Mixed, Concentrated}
use Rattle.cmr_base.specs.Matrix.{Matrix, entry, HasTernaryEntries}
use Rattle.cmr_base.specs.Signing.{IsSign}
use Rattle.cmr_base.specs.Violator.{IsViolator}
use Rattle.cmr_base.specs.Separations.{Lines, is_same_line, rows_in, columns_in, child_one, child_two, IsTwoSeparation, IsThreeSeparation, AreOn, HasBlocks, product_at, IsTied, AreCrossing, first_is_flat, second_is_flat, connector_lines, corner_product, HaveCornerSign}
use Rattle.cmr_base.proofs.SignEntries.{sign_of_entry}
use Rattle.cmr_base.proofs.ListsWithout.{in_from_contains, contains_from_in}
use Rattle.cmr_base.proofs.RowLists.{filter_in, in_filter}
use Rattle.ghouila.specs.SumLaws.{ChildrenDecide}
use Rattle.ghouila.proofs.ViolatedLines.{FreeIn, narrower, free_from_submatrix, submatrix_from_free}
use Rattle.ghouila.proofs.Sides.{On, IsFirstOther, IsSecondOther, ConnectorRow, ConnectorColumn, With}
use Rattle.ghouila.proofs.TwoSides.{two_separation}
use Rattle.ghouila.proofs.CornerSigns.{corners_violate}
use Rattle.ghouila.proofs.ThreeSides.{three_separation}
use Rattle.ghouila.proofs.ConcentratedSeparations.{concentrated_separation}
use Rattle.cmr_base.proofs.Booleans.{is_not, not_is, or_is, or_left, or_right}

-- ---- lines of a set

equal : (x y : ℕ) → nat_eq x y ≡ true → y ≡ x
equal x y e = grind (arith, nat_tests)

itself : (x y : ℕ) → y ≡ x → nat_eq x y ≡ true
itself x y e = grind (arith, nat_tests)

module _ (lines : Lines) (rows columns : List ℕ) where
  row_from : (r : ℕ) → Contains (rows_in lines rows) r → Contains rows r × (lines (Row r) ≡ true)
  row_from r h = let g = in_filter (λ row. lines (Row row)) r rows (in_from_contains (rows_in lines rows) r h) in (contains_from_in rows r g.0, g.1)

  row_to : (r : ℕ) → Contains rows r → lines (Row r) ≡ true → Contains (rows_in lines rows) r
  row_to r h e = contains_from_in (rows_in lines rows) r (filter_in (λ row. lines (Row row)) r rows (in_from_contains rows r h) e)

  column_from : (c : ℕ) → Contains (columns_in lines columns) c → Contains columns c × (lines (Column c) ≡ true)
  column_from c h = let g = in_filter (λ column. lines (Column column)) c columns (in_from_contains (columns_in lines columns) c h) in (contains_from_in columns c g.0, g.1)

  column_to : (c : ℕ) → Contains columns c → lines (Column c) ≡ true → Contains (columns_in lines columns) c
  column_to c h e = contains_from_in (columns_in lines columns) c (filter_in (λ column. lines (Column column)) c columns (in_from_contains columns c h) e)

-- ---- the law for a separation whose children have these lines

module _ (m : Matrix) (rows columns : List ℕ) (side : Lines) (first second : List Line) (P1 Q1 P2 Q2 : ℕ → Type 0)
    (p1 : (r : ℕ) → P1 r → Contains rows r × (child_one side second (Row r) ≡ true)) (p1' : (r : ℕ) → Contains rows r → child_one side second (Row r) ≡ true → P1 r)
    (q1 : (c : ℕ) → Q1 c → Contains columns c × (child_one side second (Column c) ≡ true)) (q1' : (c : ℕ) → Contains columns c → child_one side second (Column c) ≡ true → Q1 c)
    (p2 : (r : ℕ) → P2 r → Contains rows r × (child_two side first (Row r) ≡ true)) (p2' : (r : ℕ) → Contains rows r → child_two side first (Row r) ≡ true → P2 r)
    (q2 : (c : ℕ) → Q2 c → Contains columns c × (child_two side first (Column c) ≡ true)) (q2' : (c : ℕ) → Contains columns c → child_two side first (Column c) ≡ true → Q2 c) where
  abbrev R1 : List ℕ
  R1 = rows_in (child_one side second) rows

  abbrev C1 : List ℕ
  C1 = columns_in (child_one side second) columns

  abbrev R2 : List ℕ
  R2 = rows_in (child_two side first) rows

  abbrev C2 : List ℕ
  C2 = columns_in (child_two side first) columns

  children_decide : (FreeIn (entry m) (Contains rows) (Contains columns) → FreeIn (entry m) P1 Q1 × FreeIn (entry m) P2 Q2) × (FreeIn (entry m) P1 Q1 × FreeIn (entry m) P2 Q2 → FreeIn (entry m) (Contains rows) (Contains columns))
      → ChildrenDecide m rows columns side first second
  children_decide law = (
    λ none. let both = law.0 (free_from_submatrix m rows columns none) in (
      submatrix_from_free m R1 C1 (narrower (entry m) P1 Q1 (Contains R1) (Contains C1) (λ r h. let g = row_from (child_one side second) rows columns r h in p1' r g.0 g.1) (λ c h. let g = column_from (child_one side second) rows columns c h in q1' c g.0 g.1) both.0),
      submatrix_from_free m R2 C2 (narrower (entry m) P2 Q2 (Contains R2) (Contains C2) (λ r h. let g = row_from (child_two side first) rows columns r h in p2' r g.0 g.1) (λ c h. let g = column_from (child_two side first) rows columns c h in q2' c g.0 g.1) both.1),
    ),
    λ both. submatrix_from_free m rows columns (law.1 (
      narrower (entry m) (Contains R1) (Contains C1) P1 Q1 (λ r h. let g = p1 r h in row_to (child_one side second) rows columns r g.0 g.1) (λ c h. let g = q1 c h in column_to (child_one side second) rows columns c g.0 g.1) (free_from_submatrix m R1 C1 both.0),
      narrower (entry m) (Contains R2) (Contains C2) P2 Q2 (λ r h. let g = p2 r h in row_to (child_two side first) rows columns r g.0 g.1) (λ c h. let g = q2 c h in column_to (child_two side first) rows columns c g.0 g.1) (free_from_submatrix m R2 C2 both.1),
    )),
  )

-- ---- lines of a connector

abbrev row_test : Lines → ℕ → Bool
row_test side r = side (Row r)

abbrev column_test : Lines → ℕ → Bool
column_test side c = side (Column c)

abbrev is_named : List Line → Line → Bool
is_named lines line = list_any (is_same_line line) lines

row_among : (flat : Bool) (connector : Connector) (r : ℕ) → list_any (is_same_line (Row r)) (connector_lines flat connector) ≡ true → ConnectorRow flat connector.row connector.other r
row_among true connector r e = elim (or_is (nat_eq connector.row r) false e) [
  | inl h ↦ equal connector.row r h
  | inr h ↦ absurd (false≢true h)
]
row_among false connector r e = elim (or_is (nat_eq connector.row r) (nat_eq connector.other r || false) e) [
  | inl h ↦ inl (equal connector.row r h)
  | inr h ↦ elim (or_is (nat_eq connector.other r) false h) [
    | inl g ↦ inr (equal connector.other r g)
    | inr g ↦ absurd (false≢true g)
  ]
]

row_listed : (flat : Bool) (connector : Connector) (r : ℕ) → ConnectorRow flat connector.row connector.other r → list_any (is_same_line (Row r)) (connector_lines flat connector) ≡ true
row_listed true connector r h = or_left (nat_eq connector.row r) false (itself connector.row r h)
row_listed false connector r (inl h) = or_left (nat_eq connector.row r) (nat_eq connector.other r || false) (itself connector.row r h)
row_listed false connector r (inr h) = or_right (nat_eq connector.row r) (nat_eq connector.other r || false) (or_left (nat_eq connector.other r) false (itself connector.other r h))

column_among : (flat : Bool) (connector : Connector) (c : ℕ) → list_any (is_same_line (Column c)) (connector_lines flat connector) ≡ true → ConnectorColumn flat connector.column connector.other c
column_among true connector c e = elim (or_is (nat_eq connector.column c) (nat_eq connector.other c || false) e) [
  | inl h ↦ inl (equal connector.column c h)
  | inr h ↦ elim (or_is (nat_eq connector.other c) false h) [
    | inl g ↦ inr (equal connector.other c g)
    | inr g ↦ absurd (false≢true g)
  ]
]
column_among false connector c e = elim (or_is (nat_eq connector.column c) false e) [
  | inl h ↦ equal connector.column c h
  | inr h ↦ absurd (false≢true h)
]

column_listed : (flat : Bool) (connector : Connector) (c : ℕ) → ConnectorColumn flat connector.column connector.other c → list_any (is_same_line (Column c)) (connector_lines flat connector) ≡ true
column_listed true connector c (inl h) = or_left (nat_eq connector.column c) (nat_eq connector.other c || false) (itself connector.column c h)
column_listed true connector c (inr h) = or_right (nat_eq connector.column c) (nat_eq connector.other c || false) (or_left (nat_eq connector.other c) false (itself connector.other c h))
column_listed false connector c h = or_left (nat_eq connector.column c) false (itself connector.column c h)

-- ---- the two laws

one_row : (i r : ℕ) → (nat_eq i r || false) ≡ true → r ≡ i
one_row i r e = elim (or_is (nat_eq i r) false e) [
  | inl h ↦ equal i r h
  | inr h ↦ absurd (false≢true h)
]

no_more : (s : Bool) → (s || false) ≡ true → s ≡ true
no_more s e = elim (or_is s false e) [
  | inl h ↦ h
  | inr h ↦ absurd (false≢true h)
]

pub two_separations_decide : (m : Matrix) (rows columns : List ℕ) (side : Lines) (i j : ℕ) → HasTernaryEntries m
    → IsTwoSeparation (entry m) rows columns side i j → ChildrenDecide m rows columns side (Column j ∷ []) (Row i ∷ [])
two_separations_decide m rows columns side i j ternary s = children_decide m rows columns side (Column j ∷ []) (Row i ∷ [])
    (With (Contains rows) (row_test side) true (λ r. r ≡ i)) (On (Contains columns) (column_test side) true) (On (Contains rows) (row_test side) false) (With (Contains columns) (column_test side) false (λ c. c ≡ j))
    p1 p1' (λ c h. (h.0, or_left (side (Column c)) false h.1)) (λ c h e. (h, no_more (side (Column c)) e))
    (λ r h. (h.0, or_left (not (side (Row r))) false (is_not (side (Row r)) h.1))) (λ r h e. (h, not_is (side (Row r)) (no_more (not (side (Row r))) e))) q2 q2'
    (two_separation (entry m) (Contains rows) (Contains columns) (row_test side) (column_test side) i j (record {
      row = s.two.0;
      column = s.one.0;
      unit = sign_of_entry (entry m i j) (ternary i j) s.nonzero;
      zero = λ r c h g. s.blocks.upper r c h.0 g.0 h.1 g.1;
      product = λ r c h g. s.blocks.lower r c h.0 g.0 h.1 g.1;
    }))
  where
    p1 : (r : ℕ) → With (Contains rows) (row_test side) true (λ r. r ≡ i) r → Contains rows r × (child_one side (Row i ∷ []) (Row r) ≡ true)
    p1 r (inl h) = (h.0, or_left (side (Row r)) (nat_eq i r || false) h.1)
    p1 r (inr e) = (subst (Contains rows) (sym e) s.two.0.0, or_right (side (Row r)) (nat_eq i r || false) (or_left (nat_eq i r) false (itself i r e)))

    p1' : (r : ℕ) → Contains rows r → child_one side (Row i ∷ []) (Row r) ≡ true → With (Contains rows) (row_test side) true (λ r. r ≡ i) r
    p1' r h e = elim (or_is (side (Row r)) (nat_eq i r || false) e) [
      | inl g ↦ inl (h, g)
      | inr g ↦ inr (one_row i r g)
    ]

    q2 : (c : ℕ) → With (Contains columns) (column_test side) false (λ c. c ≡ j) c → Contains columns c × (child_two side (Column j ∷ []) (Column c) ≡ true)
    q2 c (inl h) = (h.0, or_left (not (side (Column c))) (nat_eq j c || false) (is_not (side (Column c)) h.1))
    q2 c (inr e) = (subst (Contains columns) (sym e) s.one.0.0, or_right (not (side (Column c))) (nat_eq j c || false) (or_left (nat_eq j c) false (itself j c e)))

    q2' : (c : ℕ) → Contains columns c → child_two side (Column j ∷ []) (Column c) ≡ true → With (Contains columns) (column_test side) false (λ c. c ≡ j) c
    q2' c h e = elim (or_is (not (side (Column c))) (nat_eq j c || false) e) [
      | inl g ↦ inl (h, not_is (side (Column c)) g)
      | inr g ↦ inr (one_row j c g)
    ]

module _ (rows columns : List ℕ) (side : Lines) (one : Bool) (flat : Bool) (connector : Connector) (on : AreOn rows columns side one (connector_lines flat connector)) where
  corner_row : Contains rows connector.row × (side (Row connector.row) ≡ one)
  corner_row = go flat on
    where
      go : (f : Bool) → AreOn rows columns side one (connector_lines f connector) → Contains rows connector.row × (side (Row connector.row) ≡ one)
      go true h = h.0
      go false h = h.0

  corner_column : Contains columns connector.column × (side (Column connector.column) ≡ one)
  corner_column = go flat on
    where
      go : (f : Bool) → AreOn rows columns side one (connector_lines f connector) → Contains columns connector.column × (side (Column connector.column) ≡ one)
      go true h = h.1.0
      go false h = h.1.0

  connector_row_in : (r : ℕ) → ConnectorRow flat connector.row connector.other r → Contains rows r
  connector_row_in r h = go flat on h
    where
      go : (f : Bool) → AreOn rows columns side one (connector_lines f connector) → ConnectorRow f connector.row connector.other r → Contains rows r
      go true g e = subst (Contains rows) (sym e) g.0.0
      go false g (inl e) = subst (Contains rows) (sym e) g.0.0
      go false g (inr e) = subst (Contains rows) (sym e) g.1.1.0.0

  connector_column_in : (c : ℕ) → ConnectorColumn flat connector.column connector.other c → Contains columns c
  connector_column_in c h = go flat on h
    where
      go : (f : Bool) → AreOn rows columns side one (connector_lines f connector) → ConnectorColumn f connector.column connector.other c → Contains columns c
      go true g (inl e) = subst (Contains columns) (sym e) g.1.0.0
      go true g (inr e) = subst (Contains columns) (sym e) g.1.1.0.0
      go false g e = subst (Contains columns) (sym e) g.1.0.0

-- the law for a separation whose connectors are of these kinds
module _ (m : Matrix) (rows columns : List ℕ) (side : Lines) (flat1 flat2 : Bool) (first second : Connector)
    (one : AreOn rows columns side true (connector_lines flat1 first)) (two : AreOn rows columns side false (connector_lines flat2 second)) where
  abbrev ChildRows1 : ℕ → Type 0
  ChildRows1 = With (Contains rows) (row_test side) true (ConnectorRow flat2 second.row second.other)

  abbrev ChildColumns1 : ℕ → Type 0
  ChildColumns1 = With (Contains columns) (column_test side) true (ConnectorColumn flat2 second.column second.other)

  abbrev ChildRows2 : ℕ → Type 0
  ChildRows2 = With (Contains rows) (row_test side) false (ConnectorRow flat1 first.row first.other)

  abbrev ChildColumns2 : ℕ → Type 0
  ChildColumns2 = With (Contains columns) (column_test side) false (ConnectorColumn flat1 first.column first.other)

  connected_children_decide : (FreeIn (entry m) (Contains rows) (Contains columns) → FreeIn (entry m) ChildRows1 ChildColumns1 × FreeIn (entry m) ChildRows2 ChildColumns2)
      × (FreeIn (entry m) ChildRows1 ChildColumns1 × FreeIn (entry m) ChildRows2 ChildColumns2 → FreeIn (entry m) (Contains rows) (Contains columns))
      → ChildrenDecide m rows columns side (connector_lines flat1 first) (connector_lines flat2 second)
  connected_children_decide = children_decide m rows columns side (connector_lines flat1 first) (connector_lines flat2 second) ChildRows1 ChildColumns1 ChildRows2 ChildColumns2 p1 p1' q1 q1' p2 p2' q2 q2'
    where
      p1 : (r : ℕ) → ChildRows1 r → Contains rows r × (child_one side (connector_lines flat2 second) (Row r) ≡ true)
      p1 r (inl h) = (h.0, or_left (side (Row r)) (is_named (connector_lines flat2 second) (Row r)) h.1)
      p1 r (inr e) = (connector_row_in rows columns side false flat2 second two r e, or_right (side (Row r)) (is_named (connector_lines flat2 second) (Row r)) (row_listed flat2 second r e))

      p1' : (r : ℕ) → Contains rows r → child_one side (connector_lines flat2 second) (Row r) ≡ true → ChildRows1 r
      p1' r h e = elim (or_is (side (Row r)) (is_named (connector_lines flat2 second) (Row r)) e) [
        | inl g ↦ inl (h, g)
        | inr g ↦ inr (row_among flat2 second r g)
      ]

      q1 : (c : ℕ) → ChildColumns1 c → Contains columns c × (child_one side (connector_lines flat2 second) (Column c) ≡ true)
      q1 c (inl h) = (h.0, or_left (side (Column c)) (is_named (connector_lines flat2 second) (Column c)) h.1)
      q1 c (inr e) = (connector_column_in rows columns side false flat2 second two c e, or_right (side (Column c)) (is_named (connector_lines flat2 second) (Column c)) (column_listed flat2 second c e))

      q1' : (c : ℕ) → Contains columns c → child_one side (connector_lines flat2 second) (Column c) ≡ true → ChildColumns1 c
      q1' c h e = elim (or_is (side (Column c)) (is_named (connector_lines flat2 second) (Column c)) e) [
        | inl g ↦ inl (h, g)
        | inr g ↦ inr (column_among flat2 second c g)
      ]

      p2 : (r : ℕ) → ChildRows2 r → Contains rows r × (child_two side (connector_lines flat1 first) (Row r) ≡ true)
      p2 r (inl h) = (h.0, or_left (not (side (Row r))) (is_named (connector_lines flat1 first) (Row r)) (is_not (side (Row r)) h.1))
      p2 r (inr e) = (connector_row_in rows columns side true flat1 first one r e, or_right (not (side (Row r))) (is_named (connector_lines flat1 first) (Row r)) (row_listed flat1 first r e))

      p2' : (r : ℕ) → Contains rows r → child_two side (connector_lines flat1 first) (Row r) ≡ true → ChildRows2 r
      p2' r h e = elim (or_is (not (side (Row r))) (is_named (connector_lines flat1 first) (Row r)) e) [
        | inl g ↦ inl (h, not_is (side (Row r)) g)
        | inr g ↦ inr (row_among flat1 first r g)
      ]

      q2 : (c : ℕ) → ChildColumns2 c → Contains columns c × (child_two side (connector_lines flat1 first) (Column c) ≡ true)
      q2 c (inl h) = (h.0, or_left (not (side (Column c))) (is_named (connector_lines flat1 first) (Column c)) (is_not (side (Column c)) h.1))
      q2 c (inr e) = (connector_column_in rows columns side true flat1 first one c e, or_right (not (side (Column c))) (is_named (connector_lines flat1 first) (Column c)) (column_listed flat1 first c e))

      q2' : (c : ℕ) → Contains columns c → child_two side (connector_lines flat1 first) (Column c) ≡ true → ChildColumns2 c
      q2' c h e = elim (or_is (not (side (Column c))) (is_named (connector_lines flat1 first) (Column c)) e) [
        | inl g ↦ inl (h, not_is (side (Column c)) g)
        | inr g ↦ inr (column_among flat1 first c g)
      ]

module _ (m : Matrix) (rows columns : List ℕ) (side : Lines) (ternary : HasTernaryEntries m) where
  sign : (r c : ℕ) → entry m r c ≢ pos 0 → IsSign (entry m r c)
  sign r c h = sign_of_entry (entry m r c) (ternary r c) h

  crossing_decide : (flat1 flat2 : Bool) (first second : Connector) → AreOn rows columns side true (connector_lines flat1 first) → AreOn rows columns side false (connector_lines flat2 second)
      → entry m first.row first.column ≢ pos 0 → entry m second.row second.column ≢ pos 0 → AreCrossing (entry m) flat1 flat2 first second
      → HasBlocks (entry m) rows columns side (product_at (entry m) first.row second.column) (product_at (entry m) second.row first.column) → corner_product (entry m) first second ≡ pos 1
      → ChildrenDecide m rows columns side (connector_lines flat1 first) (connector_lines flat2 second)
  crossing_decide flat1 flat2 first second one two first_corner second_corner crossing blocks plus = connected_children_decide m rows columns side flat1 flat2 first second one two
      (three_separation (entry m) (Contains rows) (Contains columns) (row_test side) (column_test side) flat1 flat2 first.row first.column second.row second.column first.other second.other (record {
        row1 = corner_row rows columns side true flat1 first one;
        column1 = corner_column rows columns side true flat1 first one;
        row2 = corner_row rows columns side false flat2 second two;
        column2 = corner_column rows columns side false flat2 second two;
        unit_ip = sign first.row first.column first_corner;
        unit_kj = sign second.row second.column second_corner;
        unit_ij = sign first.row second.column crossing.upper;
        unit_kp = sign second.row first.column crossing.lower;
        other1 = first_other flat1 one crossing.first_tied;
        other2 = second_other flat2 two crossing.second_tied;
        right = λ r c h g. blocks.upper r c h.0 g.0 h.1 g.1;
        below = λ r c h g. blocks.lower r c h.0 g.0 h.1 g.1;
      }) plus)
    where
      first_other : (f : Bool) → AreOn rows columns side true (connector_lines f first) → IsTied (entry m) f first second.row second.column
          → IsFirstOther (entry m) (Contains rows) (Contains columns) (row_test side) (column_test side) f first.row first.column second.row second.column first.other
      first_other true on tied = (on.1.1.0, tied.0, sign second.row first.other tied.1)
      first_other false on tied = (on.1.1.0, tied.0, sign first.other second.column tied.1)

      second_other : (f : Bool) → AreOn rows columns side false (connector_lines f second) → IsTied (entry m) f second first.row first.column
          → IsSecondOther (entry m) (Contains rows) (Contains columns) (row_test side) (column_test side) f first.row first.column second.row second.column second.other
      second_other true on tied = (on.1.1.0, tied.0, sign first.row second.other tied.1)
      second_other false on tied = (on.1.1.0, tied.0, sign second.other first.column tied.1)

  concentrated_decide : (first second : Connector) → IsThreeSeparation (entry m) rows columns side Concentrated first second
      → ChildrenDecide m rows columns side (connector_lines true first) (connector_lines false second)
  concentrated_decide first second s = connected_children_decide m rows columns side true false first second s.one s.two
      (concentrated_separation (entry m) (Contains rows) (Contains columns) (row_test side) (column_test side) first.row first.column second.row second.column first.other second.other (record {
        row_i = s.one.0;
        column_p = s.one.1.0;
        column_q = s.one.1.1.0;
        row_k = s.two.0;
        row_o = s.two.1.1.0;
        column_j = s.two.1.0;
        unit_ip = sign first.row first.column s.connectors.first_corner;
        unit_iq = sign first.row first.other s.connectors.tied.first_other;
        unit_kj = sign second.row second.column s.connectors.second_corner;
        unit_oj = sign second.other second.column s.connectors.tied.second_other;
        unit_determinant = s.connectors.tied.determinant;
        zero = λ r c h g. s.blocks.upper r c h.0 g.0 h.1 g.1;
        below = λ r c h g. s.blocks.lower r c h.0 g.0 h.1 g.1;
      }))

  pub three_separations_decide : (form : Form) (first second : Connector) → IsThreeSeparation (entry m) rows columns side form first second
      → HaveCornerSign (entry m) form first second → ChildrenDecide m rows columns side (connector_lines (first_is_flat form) first) (connector_lines (second_is_flat form) second)
  three_separations_decide Delta first second s plus = crossing_decide true true first second s.one s.two s.connectors.first_corner s.connectors.second_corner s.connectors.tied s.blocks plus
  three_separations_decide YForm first second s plus = crossing_decide false false first second s.one s.two s.connectors.first_corner s.connectors.second_corner s.connectors.tied s.blocks plus
  three_separations_decide Mixed first second s plus = crossing_decide true false first second s.one s.two s.connectors.first_corner s.connectors.second_corner s.connectors.tied s.blocks plus
  three_separations_decide Concentrated first second s _ = concentrated_decide first second s

pub corners_decide : (m : Matrix) (first second : Connector) → HasTernaryEntries m → entry m first.row first.column ≢ pos 0
    → entry m first.row second.column ≢ pos 0 → entry m second.row first.column ≢ pos 0 → entry m second.row second.column ≢ pos 0
    → (corner_product (entry m) first second ≡ pos 1)
    ⊎ ((corner_product (entry m) first second ≡ negsuc 0) × IsViolator (entry m) (first.row ∷ second.row ∷ []) (first.column ∷ second.column ∷ []))
corners_decide m first second ternary a b c d = corners_violate (entry m) first.row first.column second.row second.column
    (sign_of_entry (entry m first.row first.column) (ternary first.row first.column) a) (sign_of_entry (entry m first.row second.column) (ternary first.row second.column) b)
    (sign_of_entry (entry m second.row first.column) (ternary second.row first.column) c) (sign_of_entry (entry m second.row second.column) (ternary second.row second.column) d)
