-- A separation has a good seed, and the side of a good seed is a separation.
use Rattle.std.proofs.Common.{◌≡◌, ◌≢◌, ◌<◌, ◌≤◌, ◌∙◌, ℕ, ℤ, zero, suc, pos, Bool, true, false, not, cond, List, [], ◌∷◌, length, ap, sym, subst, refl, arith}
use Rattle.std.proofs.lemmas.Bool.{false≢true}
use Rattle.std.specs.List.{AllByRecursion}
use Rattle.cmr_base.specs.declared.line.Line.{Line}
use Rattle.cmr_base.specs.declared.line.Line.TheVariants.{Row, Column}
use Rattle.cmr_base.specs.declared.separation.Connector.{Connector}
use Rattle.cmr_base.specs.declared.separation.Form.{Form}
use Rattle.cmr_base.specs.declared.separation.Form.TheVariants.{Delta, YForm, Mixed, Concentrated}
use Rattle.cmr_base.specs.LineSets.{first_lines}
use Rattle.cmr_base.specs.Separations.{Lines, opposite, count_lines_in, AreEnough, AreOn, zeros, product_at, IsTwoSeparation, IsTied, AreConnectors, upper_block, lower_block, first_is_flat, second_is_flat, connector_lines, IsThreeSeparation}
use Rattle.cmr_base.specs.Seeds.{IsLine, line_number, form_number, IsClosed, HasAll, IsGood, IsGoodTwo, IsGoodThree}
use Rattle.cmr_base.proofs.Lists.{all_weaker, all_both}
use Rattle.cmr_base.proofs.ListedLines.{has_line_from_line, line_from_has_line}
use Rattle.cmr_base.proofs.LineCounts.{count, count_inside, inside_is, outside_is, AreApart, one_beside, at_least}
use Rattle.cmr_base.proofs.GrownSets.{grown_exists}
use Rattle.cmr_base.proofs.Booleans.{false_is}

pub count_grows : (p q : ℕ → Bool) (k : ℕ) → ((y : ℕ) → y < k → p y ≡ true → q y ≡ true) → count p k ≤ count q k
count_grows p q zero h = omega arith
count_grows p q (suc k) h = go (p k) (q k) (h k (omega arith)) (count_grows p q k (λ y l. h y (omega arith)))
  where
    go : (s t : Bool) → (s ≡ true → t ≡ true) → count p k ≤ count q k → cond s (suc (count p k)) (count p k) ≤ cond t (suc (count q k)) (count q k)
    go true true f l = omega arith
    go true false f l = absurd (false≢true (f refl))
    go false true f l = omega arith
    go false false f l = l

inside_grows : (m n : ℕ) (S T : Lines) → ((x : Line) → IsLine m n x → S x ≡ true → T x ≡ true) → count_inside m n S ≤ count_inside m n T
inside_grows m n S T h =
    let r = count_grows (λ r. S (Row r)) (λ r. T (Row r)) m (λ y l. h (Row y) l) in
    let c = count_grows (λ c. S (Column c)) (λ c. T (Column c)) n (λ y l. h (Column y) l) in
    omega arith

back_not : (s t : Bool) → (t ≡ true → s ≡ true) → not s ≡ true → not t ≡ true
back_not true t h e = absurd (false≢true e)
back_not false true h e = absurd (false≢true (h refl))
back_not false false h e = refl

-- a larger set leaves fewer lines
pub outside_grows : (m n : ℕ) (S T : Lines) → ((x : Line) → IsLine m n x → S x ≡ true → T x ≡ true)
    → count_lines_in (opposite T) (first_lines m) (first_lines n) ≤ count_lines_in (opposite S) (first_lines m) (first_lines n)
outside_grows m n S T h =
    let g = inside_grows m n (λ x. not (T x)) (λ x. not (S x)) (λ x l e. back_not (T x) (S x) (h x l) e) in
    let a = outside_is m n S in
    let b = outside_is m n T in
    omega arith

module _ (m n low : ℕ) (M : ℕ → ℕ → ℤ) (upper lower : ℕ → ℕ → ℤ) (first second : List Line) (in_range : AllByRecursion (IsLine m n) first) (second_in_range : AllByRecursion (IsLine m n) second) (far : AreApart first) (few : low ≡ suc (length first)) where
  differ_from : (T : Lines) (x : Line) (xs : List Line) → T x ≡ true → AllByRecursion (λ y. T y ≡ false) xs → AllByRecursion (λ y. x ≢ y) xs
  differ_from T x xs e all = all_weaker (λ y. T y ≡ false) (λ y. x ≢ y) (λ y f g. false≢true (sym f ∙ (ap T (sym g) ∙ e))) xs all

  pub good_seed : (T : Lines) → IsClosed m n M upper lower T → HasAll T first → AllByRecursion (λ y. T y ≡ false) second → AreEnough (first_lines m) (first_lines n) T low
      → (x : Line) × (S : Lines) × IsGood m n low M upper lower first second x S
  good_seed T closed one two enough =
      let h = one_beside m n first T (let a = inside_is m n T in let b = enough.one in omega arith) in
      let g = grown_exists m n M upper lower (h.0 ∷ first) in
      let part = λ (y : Line) (l : IsLine m n y) (e : g.0 y ≡ true). g.1.least T closed (h.2, one) y l e in (
        h.0,
        g.0,
        record {
          line = h.1;
          not_first = h.3;
          not_second = differ_from T h.0 second h.2 two;
          grown = g.1;
          two = all_both (IsLine m n) (λ y. T y ≡ false) (λ y. g.0 y ≡ false) (λ y l e. false_is (g.0 y) (λ f. false≢true (sym e ∙ part y l f))) second second_in_range two;
          enough = let k = outside_grows m n g.0 T part in let b = enough.two in omega arith;
        },
      )

  pub enough_lines : (x : Line) (S : Lines) → IsGood m n low M upper lower first second x S → AreEnough (first_lines m) (first_lines n) S low
  enough_lines x S g = record {
    one = let a = inside_is m n S in let b = at_least m n (x ∷ first) S (g.line, in_range) g.grown.has (g.not_first, far) in omega arith;
    two = g.enough;
  }

on_sides : (m n : ℕ) (S : Lines) (b : Bool) (xs : List Line) → AllByRecursion (IsLine m n) xs → AllByRecursion (λ x. S x ≡ b) xs → AreOn (first_lines m) (first_lines n) S b xs
on_sides m n S b xs ls es = all_both (IsLine m n) (λ x. S x ≡ b) (λ x. _) (λ x l e. (has_line_from_line m n x l, e)) xs ls es

in_ranges : (m n : ℕ) (S : Lines) (b : Bool) (xs : List Line) → AreOn (first_lines m) (first_lines n) S b xs → AllByRecursion (IsLine m n) xs
in_ranges m n S b xs on = all_weaker (λ x. _) (IsLine m n) (λ x h. line_from_has_line m n x h.0) xs on

values : (rows columns : List ℕ) (S : Lines) (b : Bool) (xs : List Line) → AreOn rows columns S b xs → AllByRecursion (λ x. S x ≡ b) xs
values rows columns S b xs on = all_weaker (λ x. _) (λ x. S x ≡ b) (λ x h. h.1) xs on

-- ---- two-separations

module _ (m n : ℕ) (M : ℕ → ℕ → ℤ) (i j : ℕ) where
  pub good_two_seed : (T : Lines) → IsTwoSeparation M (first_lines m) (first_lines n) T i j → (x : Line) × (S : Lines) × IsGoodTwo m n M i j x S
  good_two_seed T s =
      let row = line_from_has_line m n (Row i) s.two.0.0 in
      let column = line_from_has_line m n (Column j) s.one.0.0 in
      let g = good_seed m n 2 M zeros (product_at M i j) (Column j ∷ []) (Row i ∷ []) (column, tt) (row, tt) (tt, tt) refl T s.blocks (s.one.0.1, tt) (s.two.0.1, tt) s.enough in
      (g.0, g.1, (record { row = row; column = column; nonzero = s.nonzero }, g.2))

  pub two_separation_of_seed : (x : Line) (S : Lines) → IsGoodTwo m n M i j x S → IsTwoSeparation M (first_lines m) (first_lines n) S i j
  two_separation_of_seed x S g = record {
    one = on_sides m n S true (Column j ∷ []) (g.0.column, tt) g.1.grown.has.1;
    two = on_sides m n S false (Row i ∷ []) (g.0.row, tt) g.1.two;
    nonzero = g.0.nonzero;
    blocks = g.1.grown.closed;
    enough = enough_lines m n 2 M zeros (product_at M i j) (Column j ∷ []) (Row i ∷ []) (g.0.column, tt) (g.0.row, tt) (tt, tt) refl x S g.1;
  }

-- ---- three-separations

number : Line → ℕ
number (Row r) = r
number (Column c) = c

is_row : Line → Type 0
is_row (Row r) = Unit {0}
is_row (Column c) = ⊥

pub row_not_column : (r c : ℕ) → Row r ≢ Column c
unfolding is_row
row_not_column r c e = subst is_row e tt

rows_apart : (r r' : ℕ) → r ≢ r' → Row r ≢ Row r'
unfolding number
rows_apart r r' h e = h (ap number e)

columns_apart : (c c' : ℕ) → c ≢ c' → Column c ≢ Column c'
unfolding number
columns_apart c c' h e = h (ap number e)

tied_apart : (M : ℕ → ℕ → ℤ) (flat : Bool) (one : Connector) (row column : ℕ) → M one.row one.column ≢ pos 0 → IsTied M flat one row column → AreApart (connector_lines flat one)
tied_apart M true one row column u v = ((row_not_column one.row one.column, (row_not_column one.row one.other, tt)), ((columns_apart one.column one.other (λ e. u (ap (λ (c : ℕ). M one.row c) e ∙ v.0)), tt), (tt, tt)))
tied_apart M false one row column u v = ((row_not_column one.row one.column, (rows_apart one.row one.other (λ e. u (ap (λ (r : ℕ). M r one.column) e ∙ v.0)), tt)), ((λ e. row_not_column one.other one.column (sym e), tt), (tt, tt)))

first_apart : (M : ℕ → ℕ → ℤ) (form : Form) (one two : Connector) → AreConnectors M form one two → AreApart (connector_lines (first_is_flat form) one)
first_apart M Delta one two c = tied_apart M true one two.row two.column c.first_corner c.tied.first_tied
first_apart M YForm one two c = tied_apart M false one two.row two.column c.first_corner c.tied.first_tied
first_apart M Mixed one two c = tied_apart M true one two.row two.column c.first_corner c.tied.first_tied
first_apart M Concentrated one two c =
    ((row_not_column one.row one.column, (row_not_column one.row one.other, tt)), ((columns_apart one.column one.other (λ e. let l = c.tied.columns_increase in omega (arith, e)), tt), (tt, tt)))

module _ (m n : ℕ) (M : ℕ → ℕ → ℤ) (form : Form) (one two : Connector) where
  three_more : (flat : Bool) → 4 ≡ suc (length (connector_lines flat one))
  three_more true = refl
  three_more false = refl

  pub good_three_seed : (T : Lines) → IsThreeSeparation M (first_lines m) (first_lines n) T form one two → (x : Line) × (S : Lines) × IsGoodThree m n M form one two x S
  good_three_seed T s =
      let f = connector_lines (first_is_flat form) one in
      let k = connector_lines (second_is_flat form) two in
      let ls = in_ranges m n T true f s.one in
      let ks = in_ranges m n T false k s.two in
      let g = good_seed m n 4 M (upper_block M form one two) (lower_block M form one two) f k ls ks (first_apart M form one two s.connectors) (three_more (first_is_flat form)) T s.blocks
      (values (first_lines m) (first_lines n) T true f s.one) (values (first_lines m) (first_lines n) T false k s.two) s.enough in
      (g.0, g.1, (record { values = s.connectors; first_lines = ls; second_lines = ks }, g.2))

  pub three_separation_of_seed : (x : Line) (S : Lines) → IsGoodThree m n M form one two x S → IsThreeSeparation M (first_lines m) (first_lines n) S form one two
  three_separation_of_seed x S g =
      let f = connector_lines (first_is_flat form) one in
      let k = connector_lines (second_is_flat form) two in
      record {
        one = on_sides m n S true f g.0.first_lines g.1.grown.has.1;
        two = on_sides m n S false k g.0.second_lines g.1.two;
        connectors = g.0.values;
        blocks = g.1.grown.closed;
        enough = enough_lines m n 4 M (upper_block M form one two) (lower_block M form one two) f k g.0.first_lines g.0.second_lines
            (first_apart M form one two g.0.values) (three_more (first_is_flat form)) x S g.1;
      }

-- ---- lines and forms by their numbers

pub line_is : (m n : ℕ) (x y : Line) → IsLine m n x → IsLine m n y → line_number m x ≡ line_number m y → x ≡ y
line_is m n (Row r) (Row s) lx ly e = ap Row e
line_is m n (Row r) (Column c) lx ly e = absurd (omega arith)
line_is m n (Column c) (Row r) lx ly e = absurd (omega arith)
line_is m n (Column c) (Column d) lx ly e = ap Column (omega arith)

pub form_is : (a b : Form) → form_number a ≡ form_number b → a ≡ b
form_is Delta Delta e = refl
form_is Delta YForm e = absurd (omega arith)
form_is Delta Mixed e = absurd (omega arith)
form_is Delta Concentrated e = absurd (omega arith)
form_is YForm Delta e = absurd (omega arith)
form_is YForm YForm e = refl
form_is YForm Mixed e = absurd (omega arith)
form_is YForm Concentrated e = absurd (omega arith)
form_is Mixed Delta e = absurd (omega arith)
form_is Mixed YForm e = absurd (omega arith)
form_is Mixed Mixed e = refl
form_is Mixed Concentrated e = absurd (omega arith)
form_is Concentrated Delta e = absurd (omega arith)
form_is Concentrated YForm e = absurd (omega arith)
form_is Concentrated Mixed e = absurd (omega arith)
form_is Concentrated Concentrated e = refl
