-- The search for the first good seed, level by level.
use Rattle.std.proofs.Common.{ℕ, ◌+◌, Bool, true, false, List, [], ◌∷◌, ◌++◌, ◌≡◌, ◌≢◌, ◌<◌, ◌∙◌, sym, ap, refl, arith, subst, inl, inr, length, get_or, pos, Option, Some, None, Result, Ok, Err, IfOk, MatchOption}
use Rattle.std.proofs.lemmas.Bool.{cases_lt}
use Rattle.std.specs.List.{AllByRecursion}
use Rattle.cmr_base.specs.declared.line.Line.{Line}
use Rattle.cmr_base.specs.declared.line.Line.TheVariants.{Row, Column}
use Rattle.cmr_base.specs.Matrix.{Matrix, height, entry}
use Rattle.cmr_base.proofs.RowLists.{same_or_not}
use Rattle.cmr_base.proofs.Booleans.{not_both}
use Rattle.cmr_base.proofs.SeedLemmas.{line_is, form_is, three_separation_of_seed}
use Rattle.cuts.specs.declared.groups.Groups.{Groups}
use Rattle.cuts.specs.declared.corners.Corners.{Corners}
use Rattle.cmr_base.specs.declared.separation.Connector.{Connector}
use Rattle.cmr_base.specs.declared.separation.Form.{Form}
use Rattle.cmr_base.specs.declared.separation.Form.TheVariants.{Delta, YForm, Mixed, Concentrated}
use Rattle.cmr_base.specs.declared.separation.Three.{Three}
use Rattle.cmr_base.specs.Separations.{AreCrossing, IsTied, Lines, connector_lines, first_is_flat, second_is_flat}
use Rattle.cmr_base.specs.Seeds.{IsLine, form_number, line_number, IsBefore}
use Rattle.three_sep.specs.NumberedSeeds.{Seed, IsBeside, IsCrossing, IsGoodSeed, seed_key, HasLines, seed_of}
use Rattle.cuts.specs.LineCuts.{AreInside, IsCutAt, IsCut, HasNames, HoldTogether, name_of}
use Rattle.three_sep.specs.Searches.{BeginsWith, HasNoGood, IsFirstOf, IsFoundSeparation, HasNoneBelow, corner_prefix, corners_of, first_at, line_count, other_line, HasNoColumn, HasNoRow, LacksColumn, LacksRow, IsNoSecondRow, IsNoSecondColumn}
use Rattle.three_sep.specs.declared.connectors.Connectors.{Connectors}
use Rattle.three_sep.specs.Connectors.{all_prefix, connectors_at}
use Rattle.three_sep.proofs.CrossingLemmas.{closed_crossing, crossing_from}

-- ---- the lines of a connector

-- a property of all lines of a connector, for its row, its column and its other line
pub of_connector : (P : Line → Type 0) (flat : Bool) (d : Connector) → AllByRecursion P (connector_lines flat d) → P (Row d.row) × P (Column d.column) × P (other_line flat d.other)
of_connector P true d h = (h.0, h.1.0, h.1.1.0)
of_connector P false d h = (h.0, h.1.0, h.1.1.0)

pub to_connector : (P : Line → Type 0) (flat : Bool) (d : Connector) → P (Row d.row) → P (Column d.column) → P (other_line flat d.other) → AllByRecursion P (connector_lines flat d)
to_connector P true d row column other = (row, (column, (other, tt)))
to_connector P false d row column other = (row, (column, (other, tt)))

-- ---- good seeds as cuts

module _ (m : Matrix) (s : Seed) (S : Lines) (good : IsGoodSeed m s S) where
  first_in : IsLine (height m) m.width (Row s.pair.first.row) × IsLine (height m) m.width (Column s.pair.first.column) × IsLine (height m) m.width (other_line (first_is_flat s.form) s.pair.first.other)
  first_in = of_connector (IsLine (height m) m.width) (first_is_flat s.form) s.pair.first good.0.first_lines

  second_in : IsLine (height m) m.width (Row s.pair.second.row) × IsLine (height m) m.width (Column s.pair.second.column) × IsLine (height m) m.width (other_line (second_is_flat s.form) s.pair.second.other)
  second_in = of_connector (IsLine (height m) m.width) (second_is_flat s.form) s.pair.second good.0.second_lines

  pub first_has : (S (Row s.pair.first.row) ≡ true) × (S (Column s.pair.first.column) ≡ true) × (S (other_line (first_is_flat s.form) s.pair.first.other) ≡ true)
  first_has = of_connector (λ x. S x ≡ true) (first_is_flat s.form) s.pair.first good.1.grown.has.1

  pub second_out : (S (Row s.pair.second.row) ≡ false) × (S (Column s.pair.second.column) ≡ false) × (S (other_line (second_is_flat s.form) s.pair.second.other) ≡ false)
  second_out = of_connector (λ x. S x ≡ false) (second_is_flat s.form) s.pair.second good.1.two

  pub good_inside : AreInside m (corners_of s.pair)
  good_inside = record { row_one = first_in.0; column_one = first_in.1; row_two = second_in.0; column_two = second_in.1 }

  module _ (crossing : IsCrossing s.form) where
    -- the side of a good seed is a cut
    pub good_is_cut_at : IsCutAt m (corners_of s.pair) S
    good_is_cut_at = record {
      closed = closed_crossing (entry m) s.pair.first s.pair.second (height m) m.width S s.form crossing good.1.grown.closed;
      row_one = first_has.0;
      column_one = first_has.1;
      row_two = second_out.0;
      column_two = second_out.1;
      enough = (three_separation_of_seed (height m) m.width (entry m) s.form s.pair.first s.pair.second s.line S good).enough;
    }

    pub good_is_cut : IsCut m S
    good_is_cut =
        let ties = crossing_from (entry m) s.pair.first s.pair.second s.form crossing good.0.values.tied in
        record { corners = corners_of s.pair; are_inside = good_inside; upper = ties.upper; lower = ties.lower; cut = good_is_cut_at }

-- ---- prefixes

pub next_number : (prefix ys : List ℕ) → BeginsWith prefix ys → length prefix < length ys → (b : ℕ) × BeginsWith (prefix ++ b ∷ []) ys
next_number [] [] h l = absurd (omega arith)
next_number [] (y ∷ ys) h l = (y, (refl, tt))
next_number (x ∷ xs) [] h l = absurd h
next_number (x ∷ xs) (y ∷ ys) h l = let (b, g) = next_number xs ys h.1 (omega arith) in (b, (h.0, g))

pub begins_shorter : (prefix ys : List ℕ) (b : ℕ) → BeginsWith (prefix ++ b ∷ []) ys → BeginsWith prefix ys
begins_shorter [] ys b h = tt
begins_shorter (x ∷ xs) [] b h = absurd h
begins_shorter (x ∷ xs) (y ∷ ys) b h = (h.0, begins_shorter xs ys b h.1)

pub not_before : (prefix ys zs : List ℕ) (a b : ℕ) → BeginsWith (prefix ++ b ∷ []) ys → BeginsWith (prefix ++ a ∷ []) zs → a < b → ¬ (IsBefore ys zs)
not_before [] [] zs a b hb ha l h = absurd hb
not_before [] (y ∷ ys) [] a b hb ha l h = absurd ha
not_before [] (y ∷ ys) (z ∷ zs) a b hb ha l (inl low) = let e = hb.0 in let f = ha.0 in omega arith
not_before [] (y ∷ ys) (z ∷ zs) a b hb ha l (inr same) = let e = hb.0 in let f = ha.0 in let g = same.0 in omega arith
not_before (x ∷ xs) [] zs a b hb ha l h = absurd hb
not_before (x ∷ xs) (y ∷ ys) [] a b hb ha l h = absurd ha
not_before (x ∷ xs) (y ∷ ys) (z ∷ zs) a b hb ha l (inl low) = let e = hb.0 in let f = ha.0 in omega arith
not_before (x ∷ xs) (y ∷ ys) (z ∷ zs) a b hb ha l (inr same) = not_before xs ys zs a b hb.1 ha.1 l same.1

pub level_ends : (m : Matrix) (prefix : List ℕ) (bound : ℕ) → length prefix < 8 → HasNoneBelow m prefix bound
    → ((s : Seed) (S : Lines) (b : ℕ) → IsGoodSeed m s S → BeginsWith (prefix ++ b ∷ []) (seed_key m s) → b < bound) → HasNoGood m prefix
level_ends m prefix bound short none within s S begins good =
    let (b, h) = next_number prefix (seed_key m s) begins (omega arith) in
    none b (within s S b good h) s S h good

pub none_below_more : (m : Matrix) (prefix : List ℕ) (a : ℕ) → HasNoneBelow m prefix a → HasNoGood m (prefix ++ a ∷ []) → HasNoneBelow m prefix (a + 1)
none_below_more m prefix a before here b l = elim (same_or_not b a) [
  | inl e ↦ subst (λ (z : ℕ). HasNoGood m (prefix ++ z ∷ [])) (sym e) here
  | inr n ↦ before b (omega (arith, n))
]

pub level_found : (m : Matrix) (prefix : List ℕ) (a : ℕ) (three : Three) → length prefix < 8 → HasNoneBelow m prefix a → IsFirstOf m (prefix ++ a ∷ []) three → IsFirstOf m prefix three
level_found m prefix a three short before found = record {
  x = found.x;
  side = found.side;
  begins = begins_shorter prefix (seed_key m (seed_of three found.x)) a found.begins;
  good = found.good;
  first = λ other T begins good.
      let (b, h) = next_number prefix (seed_key m other) begins (omega arith) in
      elim (cases_lt b a) [
        | inl l ↦ absurd (before b l other T h good)
        | inr ge ↦ elim (same_or_not b a) [
          | inl e ↦ found.first other T (subst (λ (z : ℕ). BeginsWith (prefix ++ z ∷ []) (seed_key m other)) e h) good
          | inr n ↦ not_before prefix (seed_key m other) (seed_key m (seed_of three found.x)) a b h found.begins (omega (arith, n))
        ]
      ];
  lines = found.lines;
}

-- ---- seeds by their prefixes

abbrev pub seed_at : Form → Connectors → Line → Seed
seed_at form d x = record { form = form; pair = d; line = x }

seed_is : (s : Seed) (kind : Form) (i p k j q o : ℕ) (x : Line) → kind ≡ s.form → i ≡ s.pair.first.row → p ≡ s.pair.first.column → k ≡ s.pair.second.row
    → j ≡ s.pair.second.column → q ≡ s.pair.first.other → o ≡ s.pair.second.other → x ≡ s.line
    → s ≡ record { form = kind; pair = record { first = record { row = i; column = p; other = q }; second = record { row = k; column = j; other = o } }; line = x }
seed_is s kind i p k j q o x e1 e2 e3 e4 e5 e6 e7 e8 = rw (e1, e2, e3, e4, e5, e6, e7, e8) refl

pub seed_from_corners : (m : Matrix) (form : Form) (c : Corners) (s : Seed) → BeginsWith (corner_prefix form c) (seed_key m s)
    → s ≡ seed_at form (connectors_at c s.pair.first.other s.pair.second.other) s.line
seed_from_corners m form c s h = seed_is s form c.one.row c.one.column c.two.row c.two.column s.pair.first.other s.pair.second.other s.line (form_is form s.form h.0) h.1.0 h.1.1.0 h.1.1.1.0 h.1.1.1.1.0 refl refl refl

pub seed_from_first : (m : Matrix) (form : Form) (c : Corners) (q : ℕ) (s : Seed) → BeginsWith (corner_prefix form c ++ q ∷ []) (seed_key m s)
    → s ≡ seed_at form (connectors_at c q s.pair.second.other) s.line
seed_from_first m form c q s h = seed_is s form c.one.row c.one.column c.two.row c.two.column q s.pair.second.other s.line (form_is form s.form h.0) h.1.0 h.1.1.0 h.1.1.1.0 h.1.1.1.1.0 h.1.1.1.1.1.0 refl refl

pub seed_from_second : (m : Matrix) (form : Form) (d : Connectors) (s : Seed) → BeginsWith (all_prefix form d) (seed_key m s) → s ≡ seed_at form d s.line
seed_from_second m form d s h = seed_is s form d.first.row d.first.column d.second.row d.second.column d.first.other d.second.other s.line (form_is form s.form h.0) h.1.0 h.1.1.0 h.1.1.1.0 h.1.1.1.1.0 h.1.1.1.1.1.0 h.1.1.1.1.1.1.0 refl

pub seed_from_all : (m : Matrix) (form : Form) (d : Connectors) (place : ℕ) (x : Line) (s : Seed) → IsLine (height m) m.width x → IsLine (height m) m.width s.line → line_number (height m) x ≡ place
    → BeginsWith (all_prefix form d ++ place ∷ []) (seed_key m s) → s ≡ seed_at form d x
seed_from_all m form d place x s lx ls e h =
    seed_is s form d.first.row d.first.column d.second.row d.second.column d.first.other d.second.other x (form_is form s.form h.0) h.1.0 h.1.1.0 h.1.1.1.0 h.1.1.1.1.0 h.1.1.1.1.1.0 h.1.1.1.1.1.1.0
    (line_is (height m) m.width x s.line lx ls (e ∙ h.1.1.1.1.1.1.1.0))

-- ---- seeds that are not good

pub no_good_corner : (m : Matrix) (kind i p : ℕ) → entry m i p ≡ pos 0 → HasNoGood m (kind ∷ i ∷ p ∷ [])
no_good_corner m kind i p e s S h g = g.0.values.first_corner (rw (sym h.1.0, sym h.1.1.0) e)

pub no_second_corner : (m : Matrix) (kind i p k j : ℕ) → entry m k j ≡ pos 0 → HasNoGood m (kind ∷ i ∷ p ∷ k ∷ j ∷ [])
no_second_corner m kind i p k j e s S h g = g.0.values.second_corner (rw (sym h.1.1.1.0, sym h.1.1.1.1.0) e)

module _ (m : Matrix) (form : Form) (crossing : IsCrossing form) where
  is_crossing : (s : Seed) → form_number form ≡ form_number s.form → IsCrossing s.form
  is_crossing s e = subst IsCrossing (form_is form s.form e) crossing

  ties : (s : Seed) (S : Lines) → form_number form ≡ form_number s.form → IsGoodSeed m s S → AreCrossing (entry m) (first_is_flat s.form) (second_is_flat s.form) s.pair.first s.pair.second
  ties s S e g = crossing_from (entry m) s.pair.first s.pair.second s.form (is_crossing s e) g.0.values.tied

  pub no_good_whole : (groups : Groups) (i : ℕ) → HasNames m groups → HoldTogether (IsCut m) m groups
      → ((k l : ℕ) → k < length groups.names.items → l < length groups.names.items → get_or groups.names.items k 0 ≡ get_or groups.names.items l 0) → HasNoGood m (form_number form ∷ i ∷ [])
  no_good_whole groups i names hold one s S h g =
      let within = good_inside m s S g in
      let li : s.pair.first.row < length groups.names.items = let l = within.row_one in omega (arith, names, l) in
      let lk : s.pair.second.row < length groups.names.items = let l = within.row_two in omega (arith, names, l) in
      not_both (S (Row s.pair.first.row)) (first_has m s S g).0 (hold S (good_is_cut m s S g (is_crossing s h.0)) (Row s.pair.first.row) (Row s.pair.second.row) within.row_one within.row_two (one s.pair.first.row s.pair.second.row li lk) ∙ (second_out m s S g).0)

  module _ (groups : Groups) (hold : HoldTogether (IsCut m) m groups) where
    -- the other line of a connector is not in the group of a line of the other side
    first_apart : (s : Seed) (S : Lines) → form_number form ≡ form_number s.form → IsGoodSeed m s S → (y : Line) → S y ≡ false → IsLine (height m) m.width y
        → name_of m groups (other_line (first_is_flat s.form) s.pair.first.other) ≢ name_of m groups y
    first_apart s S e g y out ly same =
        let x = other_line (first_is_flat s.form) s.pair.first.other in
        not_both (S x) (first_has m s S g).2 (hold S (good_is_cut m s S g (is_crossing s e)) x y (first_in m s S g).2 ly same ∙ out)

    second_apart : (s : Seed) (S : Lines) → form_number form ≡ form_number s.form → IsGoodSeed m s S → (y : Line) → S y ≡ true → IsLine (height m) m.width y
        → name_of m groups (other_line (second_is_flat s.form) s.pair.second.other) ≢ name_of m groups y
    second_apart s S e g y within ly same =
        let x = other_line (second_is_flat s.form) s.pair.second.other in
        not_both (S x) (hold S (good_is_cut m s S g (is_crossing s e)) x y (second_in m s S g).2 ly same ∙ within) (second_out m s S g).2

    no_first_column : (s : Seed) (S : Lines) → form_number form ≡ form_number s.form → IsGoodSeed m s S → first_is_flat s.form ≡ true → HasNoColumn m groups s.pair.first.row s.pair.second.row → ⊥
    no_first_column s S e g flat none =
        let line : IsLine (height m) m.width (other_line true s.pair.first.other) = subst (λ (z : Bool). IsLine (height m) m.width (other_line z s.pair.first.other)) flat (first_in m s S g).2 in
        let tied = subst (λ (z : Bool). IsTied (entry m) z s.pair.first s.pair.second.row s.pair.second.column) flat (ties s S e g).first_tied in
        first_apart s S e g (Row s.pair.second.row) (second_out m s S g).0 (second_in m s S g).0
        (ap (λ (z : Bool). name_of m groups (other_line z s.pair.first.other)) flat ∙ none s.pair.first.other line tied.0 tied.1)

    no_second_column : (s : Seed) (S : Lines) → form_number form ≡ form_number s.form → IsGoodSeed m s S → second_is_flat s.form ≡ true → HasNoColumn m groups s.pair.second.row s.pair.first.row → ⊥
    no_second_column s S e g flat none =
        let line : IsLine (height m) m.width (other_line true s.pair.second.other) = subst (λ (z : Bool). IsLine (height m) m.width (other_line z s.pair.second.other)) flat (second_in m s S g).2 in
        let tied = subst (λ (z : Bool). IsTied (entry m) z s.pair.second s.pair.first.row s.pair.first.column) flat (ties s S e g).second_tied in
        second_apart s S e g (Row s.pair.first.row) (first_has m s S g).0 (first_in m s S g).0
        (ap (λ (z : Bool). name_of m groups (other_line z s.pair.second.other)) flat ∙ none s.pair.second.other line tied.0 tied.1)

    no_first_row : (s : Seed) (S : Lines) → form_number form ≡ form_number s.form → IsGoodSeed m s S → first_is_flat s.form ≡ false → HasNoRow m groups s.pair.first.column s.pair.second.column → ⊥
    no_first_row s S e g tall none =
        let line : IsLine (height m) m.width (other_line false s.pair.first.other) = subst (λ (z : Bool). IsLine (height m) m.width (other_line z s.pair.first.other)) tall (first_in m s S g).2 in
        let tied = subst (λ (z : Bool). IsTied (entry m) z s.pair.first s.pair.second.row s.pair.second.column) tall (ties s S e g).first_tied in
        first_apart s S e g (Column s.pair.second.column) (second_out m s S g).1 (second_in m s S g).1
        (ap (λ (z : Bool). name_of m groups (other_line z s.pair.first.other)) tall ∙ none s.pair.first.other line tied.0 tied.1)

    no_second_row : (s : Seed) (S : Lines) → form_number form ≡ form_number s.form → IsGoodSeed m s S → second_is_flat s.form ≡ false → HasNoRow m groups s.pair.second.column s.pair.first.column → ⊥
    no_second_row s S e g tall none =
        let line : IsLine (height m) m.width (other_line false s.pair.second.other) = subst (λ (z : Bool). IsLine (height m) m.width (other_line z s.pair.second.other)) tall (second_in m s S g).2 in
        let tied = subst (λ (z : Bool). IsTied (entry m) z s.pair.second s.pair.first.row s.pair.first.column) tall (ties s S e g).second_tied in
        second_apart s S e g (Column s.pair.first.column) (first_has m s S g).1 (first_in m s S g).1
        (ap (λ (z : Bool). name_of m groups (other_line z s.pair.second.other)) tall ∙ none s.pair.second.other line tied.0 tied.1)

    lacks_column : (i p k : ℕ) → LacksColumn m groups form i k → HasNoGood m (form_number form ∷ i ∷ p ∷ k ∷ [])
    lacks_column i p k lacks s S h g =
        let kind = form_is form s.form h.0 in
        let here : LacksColumn m groups s.form s.pair.first.row s.pair.second.row = rw (sym kind, sym h.1.0, sym h.1.1.1.0) lacks in
        elim here [
          | inl none ↦ no_first_column s S h.0 g none.0 none.1
          | inr none ↦ no_second_column s S h.0 g none.0 none.1
        ]

    lacks_row : (i p k j : ℕ) → LacksRow m groups form p j → HasNoGood m (form_number form ∷ i ∷ p ∷ k ∷ j ∷ [])
    lacks_row i p k j lacks s S h g =
        let kind = form_is form s.form h.0 in
        let here : LacksRow m groups s.form s.pair.first.column s.pair.second.column = rw (sym kind, sym h.1.1.0, sym h.1.1.1.1.0) lacks in
        elim here [
          | inl none ↦ no_first_row s S h.0 g none.0 none.1
          | inr none ↦ no_second_row s S h.0 g none.0 none.1
        ]

  pub no_good_second_row : (groups : Groups) (i p k : ℕ) → HoldTogether (IsCut m) m groups → IsNoSecondRow m groups form i p k → HasNoGood m (form_number form ∷ i ∷ p ∷ k ∷ [])
  no_good_second_row groups i p k hold (inl lacks) s S h g = lacks_column groups hold i p k lacks s S h g
  no_good_second_row groups i p k hold (inr no_row) s S h g =
      let (row_one, column_one, other_one) = first_has m s S g in
      let (row_two, column_two, other_two) = second_out m s S g in
      let within = good_inside m s S g in
      let T = hold S (good_is_cut m s S g (is_crossing s h.0)) in
      elim no_row [
        | inl e ↦ (ties s S h.0 g).lower (rw (sym h.1.1.0, sym h.1.1.1.0) e)
        | inr (inl e) ↦ not_both (S (Row s.pair.first.row)) row_one (T (Row s.pair.first.row) (Row s.pair.second.row) within.row_one within.row_two (rw (sym h.1.0, sym h.1.1.1.0) e) ∙ row_two)
        | inr (inr e) ↦ not_both (S (Column s.pair.first.column)) column_one (T (Column s.pair.first.column) (Row s.pair.second.row) within.column_one within.row_two (rw (sym h.1.1.0, sym h.1.1.1.0) e) ∙ row_two)
      ]

  pub no_good_second_column : (groups : Groups) (i p k j : ℕ) → HoldTogether (IsCut m) m groups → IsNoSecondColumn m groups form i p k j → HasNoGood m (form_number form ∷ i ∷ p ∷ k ∷ j ∷ [])
  no_good_second_column groups i p k j hold (inl lacks) s S h g = lacks_row groups hold i p k j lacks s S h g
  no_good_second_column groups i p k j hold (inr no_column) s S h g =
      let (row_one, column_one, other_one) = first_has m s S g in
      let (row_two, column_two, other_two) = second_out m s S g in
      let within = good_inside m s S g in
      let T = hold S (good_is_cut m s S g (is_crossing s h.0)) in
      elim no_column [
        | inl e ↦ no_second_corner m (form_number form) i p k j e s S h g
        | inr (inl e) ↦ (ties s S h.0 g).upper (rw (sym h.1.0, sym h.1.1.1.1.0) e)
        | inr (inr (inl e)) ↦ not_both (S (Row s.pair.first.row)) row_one (T (Row s.pair.first.row) (Column s.pair.second.column) within.row_one within.column_two (rw (sym h.1.0, sym h.1.1.1.1.0) e) ∙ column_two)
        | inr (inr (inr e)) ↦ not_both (S (Column s.pair.first.column)) column_one (T (Column s.pair.first.column) (Column s.pair.second.column) within.column_one within.column_two (rw (sym h.1.1.0, sym h.1.1.1.1.0) e) ∙ column_two)
      ]

  pub no_good_first : (c : Corners) (q : ℕ) → ¬ (IsTied (entry m) (first_is_flat form) (first_at c q) c.two.row c.two.column) → HasNoGood m (corner_prefix form c ++ q ∷ [])
  no_good_first c q none s S h g = none (subst (λ (z : Seed). IsTied (entry m) (first_is_flat z.form) z.pair.first z.pair.second.row z.pair.second.column) (seed_from_first m form c q s h) (ties s S h.0 g).first_tied)

  pub no_good_second : (d : Connectors) → ¬ (IsTied (entry m) (second_is_flat form) d.second d.first.row d.first.column) → HasNoGood m (all_prefix form d)
  no_good_second d none s S h g = none (subst (λ (z : Seed). IsTied (entry m) (second_is_flat z.form) z.pair.second z.pair.first.row z.pair.first.column) (seed_from_second m form d s h) (ties s S h.0 g).second_tied)

-- a line x that is in one of the connectors
pub no_good_beside : (m : Matrix) (form : Form) (d : Connectors) (place : ℕ) (x : Line) → IsLine (height m) m.width x → line_number (height m) x ≡ place
    → ¬ (IsBeside (first_is_flat form) d.first x × IsBeside (second_is_flat form) d.second x) → HasNoGood m (all_prefix form d ++ place ∷ [])
no_good_beside m form d place x lx number among s S h g0 =
    let g = subst (λ (z : Seed). IsGoodSeed m z S) (seed_from_all m form d place x s lx g0.1.line number h) g0 in
    among (g.1.not_first, g.1.not_second)

-- ---- first good seeds

pub not_before_itself : (ys : List ℕ) → ¬ (IsBefore ys ys)
not_before_itself [] h = h
not_before_itself (y ∷ ys) (inl l) = omega arith
not_before_itself (y ∷ ys) (inr h) = not_before_itself ys h.1

module _ (m : Matrix) (form : Form) (d : Connectors) (place : ℕ) (x : Line) (S : Lines) (three : Three) where
  pub three_is : three.form ≡ form → three.first ≡ d.first → three.second ≡ d.second → seed_of three x ≡ seed_at form d x
  three_is e1 e2 e3 = rw (e1, e2, e3) refl

  pub found_here : seed_of three x ≡ seed_at form d x → IsGoodSeed m (seed_at form d x) S → IsLine (height m) m.width x → line_number (height m) x ≡ place
      → HasLines (height m) m.width S three.side.rows three.side.columns → IsFirstOf m (all_prefix form d ++ place ∷ []) three
  found_here e good lx number lines = record {
    x = x;
    side = S;
    begins = subst (λ (z : Seed). BeginsWith (all_prefix form d ++ place ∷ []) (seed_key m z)) (sym e) (refl, (refl, (refl, (refl, (refl, (refl, (refl, (sym number, tt))))))));
    good = subst (λ (z : Seed). IsGoodSeed m z S) (sym e) good;
    first = λ other T begins g before.
        not_before_itself (seed_key m other)
        (subst (λ (z : Seed). IsBefore (seed_key m other) (seed_key m z)) (e ∙ sym (seed_from_all m form d place x other lx g.1.line number begins)) before);
    lines = lines;
  }

-- ---- all forms

pub none_of_forms : (m : Matrix) → HasNoneBelow m [] 3 → HasNoGood m (3 ∷ []) → HasNoGood m []
none_of_forms m before last s S h g = go s.form refl
  where
    go : (f : Form) → s.form ≡ f → ⊥
    go Delta e = before 0 (omega arith) s S (ap form_number (sym e), tt) g
    go YForm e = before 1 (omega arith) s S (ap form_number (sym e), tt) g
    go Mixed e = before 2 (omega arith) s S (ap form_number (sym e), tt) g
    go Concentrated e = last s S (ap form_number (sym e), tt) g

pub below_none : (m : Matrix) → HasNoneBelow m [] 0
below_none m b l = absurd (omega arith)

-- ---- answers of calls

pub found_some : (m : Matrix) (prefix : List ℕ) (a : ℕ) (o : Option Three) (three : Three) → length prefix < 8 → HasNoneBelow m prefix a → o ≡ Some three
    → IsFoundSeparation m (prefix ++ a ∷ []) o → IsFirstOf m prefix three
found_some m prefix a o three short before e h = level_found m prefix a three short before (subst (IsFoundSeparation m (prefix ++ a ∷ [])) e h)

pub none_more : (m : Matrix) (prefix : List ℕ) (a : ℕ) (o : Option Three) → HasNoneBelow m prefix a → o ≡ None → IsFoundSeparation m (prefix ++ a ∷ []) o → HasNoneBelow m prefix (a + 1)
none_more m prefix a o before e h = none_below_more m prefix a before (subst (IsFoundSeparation m (prefix ++ a ∷ [])) e h)

pub none_of : (P : Type 0) (Q : Three → Type 0) (o : Option Three) → o ≡ None → MatchOption o P Q → P
none_of P Q o e h = subst (λ (z : Option Three). MatchOption z P Q) e h

-- what follows from an answer in each of its cases
pub map_found : {E : Type 0} (P P' : Type 0) (Q Q' : Three → Type 0) (r : Result (Option Three) E) → (P → P') → ((x : Three) → Q x → Q' x)
    → IfOk r (λ a. MatchOption a P Q) → IfOk r (λ a. MatchOption a P' Q')
map_found P P' Q Q' (Ok None) none some h = none h
map_found P P' Q Q' (Ok (Some x)) none some h = some x h
map_found P P' Q Q' (Err e) none some h = tt

pub found_in_last_form : {E : Type 0} (m : Matrix) (r : Result (Option Three) E) → HasNoneBelow m [] 3 → IfOk r (IsFoundSeparation m (3 ∷ [])) → IfOk r (IsFoundSeparation m [])
found_in_last_form m r before h =
    map_found (HasNoGood m (3 ∷ [])) (HasNoGood m []) (IsFirstOf m (3 ∷ [])) (IsFirstOf m []) r (none_of_forms m before) (λ x first. level_found m [] 3 x (omega arith) before first) h

-- ---- other lines

line_below : (m : Matrix) (flat : Bool) (b : ℕ) → IsLine (height m) m.width (other_line flat b) → b < line_count m flat
line_below m true b l = l
line_below m false b l = l

pub below_line : (m : Matrix) (flat : Bool) (b : ℕ) → b < line_count m flat → IsLine (height m) m.width (other_line flat b)
below_line m true b l = l
below_line m false b l = l

pub first_below : (m : Matrix) (form : Form) (c : Corners) (s : Seed) (S : Lines) (b : ℕ) → IsGoodSeed m s S → BeginsWith (corner_prefix form c ++ b ∷ []) (seed_key m s)
    → b < line_count m (first_is_flat form)
first_below m form c s S b g0 h =
    let g = subst (λ (z : Seed). IsGoodSeed m z S) (seed_from_first m form c b s h) g0 in
    line_below m (first_is_flat form) b (first_in m (seed_at form (connectors_at c b s.pair.second.other) s.line) S g).2

pub second_below : (m : Matrix) (form : Form) (c : Corners) (q : ℕ) (s : Seed) (S : Lines) (b : ℕ) → IsGoodSeed m s S → BeginsWith (corner_prefix form c ++ q ∷ b ∷ []) (seed_key m s)
    → b < line_count m (second_is_flat form)
second_below m form c q s S b g0 h =
    let g = subst (λ (z : Seed). IsGoodSeed m z S) (seed_from_second m form (connectors_at c q b) s h) g0 in
    line_below m (second_is_flat form) b (second_in m (seed_at form (connectors_at c q b) s.line) S g).2

pub place_below : (m : Matrix) (kind : Form) (d : Connectors) (rows columns : ℕ) → rows ≡ height m → columns ≡ m.width
    → (s : Seed) (S : Lines) (b : ℕ) → IsGoodSeed m s S → BeginsWith (all_prefix kind d ++ b ∷ []) (seed_key m s) → b < rows + columns
place_below m kind d rows columns er ec s S b g h = go s.line g.1.line h.1.1.1.1.1.1.1.0
  where
    go : (x : Line) → IsLine (height m) m.width x → b ≡ line_number (height m) x → b < rows + columns
    go (Row r) l e = omega arith
    go (Column k) l e = omega arith
