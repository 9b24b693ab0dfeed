-- Good seeds of cuts: each gives a cut, each cut has one, and the lines of the first one are the answer of the search.
use Rattle.std.proofs.Common.{ℕ, ◌+◌, ◌<◌, Bool, true, false, List, [], ◌∷◌, ◌++◌, ◌≡◌, ◌≢◌, ◌∙◌, sym, ap, refl, arith, subst, ◌⊎◌, inl, inr, length, get_or, Option, Some, None}
use Rattle.std.specs.List.{AllByRecursion}
use Rattle.std.proofs.lemmas.Bool.{cases_lt}
use Rattle.std.proofs.lemmas.Option.{MatchOption-at_none, MatchOption-at_some}
use Rattle.cmr_base.specs.declared.line.Line.{Line}
use Rattle.cmr_base.specs.declared.line.Line.TheVariants.{Row, Column}
use Rattle.cmr_base.specs.declared.line_set.LineSet.{LineSet}
use Rattle.cmr_base.specs.LineSets.{first_lines}
use Rattle.cmr_base.specs.Matrix.{Matrix, height, entry}
use Rattle.cmr_base.specs.Separations.{AreEnough, Lines, listed, product_at}
use Rattle.cmr_base.specs.Seeds.{IsBefore, IsLine, line_number}
use Rattle.cmr_base.proofs.Booleans.{not_both, same_test}
use Rattle.cmr_base.proofs.LineCounts.{inside_is, one_beside}
use Rattle.cmr_base.proofs.Lists.{all_both}
use Rattle.cmr_base.proofs.ListedLines.{in_from_listed, listed_from_in, first_lines_contain}
use Rattle.cmr_base.proofs.RemovedLines.{in_first_lines, row_set_from_within, column_set_from_within}
use Rattle.cmr_base.proofs.RowLists.{same_or_not}
use Rattle.cmr_base.proofs.SeedLemmas.{enough_lines, good_seed, line_is, outside_grows, row_not_column}
use Rattle.cuts.specs.declared.corners.Corners.{Corners}
use Rattle.cuts.specs.declared.groups.Groups.{Groups}
use Rattle.cuts.specs.LineCuts.{HasNames, HoldTogether, IsCut, IsCutAt, name_of}
use Rattle.line_growth.specs.declared.growing_set.GrowingSet.{GrowingSet}
use Rattle.line_growth.specs.declared.rule.GrowthRule.{GrowthRule}
use Rattle.line_growth.specs.GrowingSets.{HasNoLeaving, IsGrowing, IsLeaving, DecidesLeaving}
use Rattle.line_growth.specs.Rules.{lower_of, upper_of}
use Rattle.three_sep.specs.Connectors.{HasNoneParting, rule_of}
use Rattle.three_sep.specs.CutSeeds.{HasBlockCorners, HasNoCutSeed, HasNoCutSeedBelow, IsFirstCutWith, IsFoundCut, IsNoCutColumn, IsNoCutRow, IsNoThird, IsOtherNumber, cut_prefix}
use Rattle.three_sep.specs.FirstCuts.{CutSeed, HasNoCut, IsFirstCutOn, IsGoodCut, cut_key, first_corner, second_corner}
use Rattle.three_sep.specs.NumberedSeeds.{HasLines}
use Rattle.three_sep.specs.Searches.{BeginsWith}
use Rattle.three_sep.proofs.SearchLemmas.{begins_shorter, next_number, not_before, not_before_itself}

-- ---- the side of a good seed is a cut

module _ (m : Matrix) (s : CutSeed) (S : Lines) (good : IsGoodCut m s S) where
  in_range : AllByRecursion (IsLine (height m) m.width) (s.third ∷ first_corner s.corners)
  in_range = (good.third, (good.inside.row_one, (good.inside.column_one, tt)))

  second_in_range : AllByRecursion (IsLine (height m) m.width) (second_corner s.corners)
  second_in_range = (good.inside.row_two, (good.inside.column_two, tt))

  enough_sides : AreEnough (first_lines (height m)) (first_lines m.width) S 4
  enough_sides =
      enough_lines (height m) m.width 4 (entry m) (product_at (entry m) s.corners.one.row s.corners.two.column) (product_at (entry m) s.corners.two.row s.corners.one.column) (s.third ∷ first_corner s.corners) (second_corner s.corners)
      in_range second_in_range (good.not_first, ((row_not_column s.corners.one.row s.corners.one.column, tt), (tt, tt))) refl s.fourth S good.good

  pub seed_is_cut_at : IsCutAt m s.corners S
  seed_is_cut_at = record {
    closed = good.good.grown.closed;
    row_one = good.good.grown.has.1.1.0;
    column_one = good.good.grown.has.1.1.1.0;
    row_two = good.good.two.0;
    column_two = good.good.two.1.0;
    enough = enough_sides;
  }

  pub seed_is_cut : IsCut m S
  seed_is_cut = record { corners = s.corners; are_inside = good.inside; upper = good.upper; lower = good.lower; cut = seed_is_cut_at }

-- ---- each cut has a good seed

pub seed_of_cut : (m : Matrix) (T : Lines) → IsCut m T → (s : CutSeed) × (S : Lines) × IsGoodCut m s S
seed_of_cut m T w =
    let c = w.corners in
    let inside = w.are_inside in
    let (x, lx, ex, beside) = one_beside (height m) m.width (first_corner c) T (let a = inside_is (height m) m.width T in let b = w.cut.enough.one in omega arith) in
    let (y, S, good) =
    good_seed (height m) m.width 4 (entry m) (product_at (entry m) c.one.row c.two.column) (product_at (entry m) c.two.row c.one.column) (x ∷ first_corner c) (second_corner c) (lx, (inside.row_one, (inside.column_one, tt)))
    (inside.row_two, (inside.column_two, tt)) (beside, ((row_not_column c.one.row c.one.column, tt), (tt, tt))) refl T w.cut.closed (ex, (w.cut.row_one, (w.cut.column_one, tt))) (w.cut.row_two, (w.cut.column_two, tt)) w.cut.enough in (
      record { corners = c; third = x; fourth = y },
      S,
      record { inside = inside; upper = w.upper; lower = w.lower; third = lx; not_first = beside; good = good },
    )

pub no_cut : (m : Matrix) → HasNoCutSeed m [] → HasNoCut m
no_cut m none T w = let (s, S, good) = seed_of_cut m T w in none s S tt good

-- ---- levels of the search

pub cut_level_ends : (m : Matrix) (prefix : List ℕ) (bound : ℕ) → length prefix < 6 → HasNoCutSeedBelow m prefix bound
    → ((s : CutSeed) (S : Lines) (b : ℕ) → IsGoodCut m s S → BeginsWith (prefix ++ b ∷ []) (cut_key m s) → b < bound) → HasNoCutSeed m prefix
cut_level_ends m prefix bound short none within s S begins good =
    let (b, h) = next_number prefix (cut_key m s) begins (omega arith) in
    none b (within s S b good h) s S h good

pub no_cut_below_more : (m : Matrix) (prefix : List ℕ) (a : ℕ) → HasNoCutSeedBelow m prefix a → HasNoCutSeed m (prefix ++ a ∷ []) → HasNoCutSeedBelow m prefix (a + 1)
no_cut_below_more m prefix a before here b l = elim (same_or_not b a) [
  | inl e ↦ subst (λ (z : ℕ). HasNoCutSeed m (prefix ++ z ∷ [])) (sym e) here
  | inr n ↦ before b (omega (arith, n))
]

pub cut_level_found : (m : Matrix) (prefix : List ℕ) (a : ℕ) (lines : LineSet) → length prefix < 6 → HasNoCutSeedBelow m prefix a
    → IsFirstCutWith m (prefix ++ a ∷ []) lines → IsFirstCutWith m prefix lines
cut_level_found m prefix a lines short before found = record {
  seed = found.seed;
  side = found.side;
  begins = begins_shorter prefix (cut_key m found.seed) a found.begins;
  good = found.good;
  first = λ other T begins good.
      let (b, h) = next_number prefix (cut_key m other) begins (omega arith) in
      elim (cases_lt b a) [
        | inl l ↦ absurd (before b l other T h good)
        | inr ge ↦ elim (same_or_not b a) [
          | inl e ↦ found.first other T (subst (λ (z : ℕ). BeginsWith (prefix ++ z ∷ []) (cut_key m other)) e h) good
          | inr n ↦ not_before prefix (cut_key m other) (cut_key m found.seed) a b h found.begins (omega (arith, n))
        ]
      ];
  has = found.has;
}

-- answers of calls
pub cut_some : (m : Matrix) (prefix : List ℕ) (a : ℕ) (o : Option LineSet) (lines : LineSet) → length prefix < 6 → HasNoCutSeedBelow m prefix a → o ≡ Some lines
    → IsFoundCut m (prefix ++ a ∷ []) o → IsFirstCutWith m prefix lines
cut_some m prefix a o lines short before e h = cut_level_found m prefix a lines short before (MatchOption-at_some (HasNoCutSeed m (prefix ++ a ∷ [])) (IsFirstCutWith m (prefix ++ a ∷ [])) lines e h)

pub cut_none : (m : Matrix) (prefix : List ℕ) (a : ℕ) (o : Option LineSet) → HasNoCutSeedBelow m prefix a → o ≡ None → IsFoundCut m (prefix ++ a ∷ []) o → HasNoCutSeedBelow m prefix (a + 1)
cut_none m prefix a o before e h = no_cut_below_more m prefix a before (MatchOption-at_none (HasNoCutSeed m (prefix ++ a ∷ [])) (IsFirstCutWith m (prefix ++ a ∷ [])) e h)

-- ---- seeds by their prefixes

abbrev pub cut_seed_at : Corners → Line → Line → CutSeed
cut_seed_at c x y = record { corners = c; third = x; fourth = y }

cut_seed_is : (s : CutSeed) (i p k j : ℕ) (x y : Line) → i ≡ s.corners.one.row → p ≡ s.corners.one.column → k ≡ s.corners.two.row → j ≡ s.corners.two.column → x ≡ s.third → y ≡ s.fourth → s ≡ record { corners = record { one = record { row = i; column = p }; two = record { row = k; column = j } }; third = x; fourth = y }
cut_seed_is s i p k j x y e1 e2 e3 e4 e5 e6 = rw (e1, e2, e3, e4, e5, e6) refl

pub cut_seed_from_corners : (m : Matrix) (c : Corners) (s : CutSeed) → BeginsWith (cut_prefix c) (cut_key m s) → s ≡ cut_seed_at c s.third s.fourth
cut_seed_from_corners m c s h = cut_seed_is s c.one.row c.one.column c.two.row c.two.column s.third s.fourth h.0 h.1.0 h.1.1.0 h.1.1.1.0 refl refl

pub cut_seed_from_third : (m : Matrix) (c : Corners) (place : ℕ) (x : Line) (s : CutSeed) → IsLine (height m) m.width x → IsLine (height m) m.width s.third → line_number (height m) x ≡ place
    → BeginsWith (cut_prefix c ++ place ∷ []) (cut_key m s) → s ≡ cut_seed_at c x s.fourth
cut_seed_from_third m c place x s lx ls e h = cut_seed_is s c.one.row c.one.column c.two.row c.two.column x s.fourth h.0 h.1.0 h.1.1.0 h.1.1.1.0 (line_is (height m) m.width x s.third lx ls (e ∙ h.1.1.1.1.0)) refl

pub cut_seed_from_fourth : (m : Matrix) (c : Corners) (third fourth : ℕ) (x y : Line) (s : CutSeed) → IsLine (height m) m.width x → IsLine (height m) m.width y
    → IsLine (height m) m.width s.third → IsLine (height m) m.width s.fourth
    → line_number (height m) x ≡ third → line_number (height m) y ≡ fourth → BeginsWith (cut_prefix c ++ third ∷ fourth ∷ []) (cut_key m s) → s ≡ cut_seed_at c x y
cut_seed_from_fourth m c third fourth x y s lx ly ls lt ex ey h =
    cut_seed_is s c.one.row c.one.column c.two.row c.two.column x y h.0 h.1.0 h.1.1.0 h.1.1.1.0 (line_is (height m) m.width x s.third lx ls (ex ∙ h.1.1.1.1.0)) (line_is (height m) m.width y s.fourth ly lt (ey ∙ h.1.1.1.1.1.0))

-- ---- what is passed over

-- a line's name by its number
pub name_at : (m : Matrix) (groups : Groups) (x : Line) → name_of m groups x ≡ get_or groups.names.items (line_number (height m) x) 0
name_at m groups (Row r) = refl
name_at m groups (Column c) = refl

module _ (m : Matrix) (groups : Groups) (hold : HoldTogether (IsCut m) m groups) where
  -- a line in side one and a line in side two are in different groups
  parted : (s : CutSeed) (S : Lines) → IsGoodCut m s S → (x y : Line) → IsLine (height m) m.width x → IsLine (height m) m.width y → S x ≡ true → S y ≡ false → name_of m groups x ≢ name_of m groups y
  parted s S g x y lx ly ex ey same = not_both (S x) ex (hold S (seed_is_cut m s S g) x y lx ly same ∙ ey)

  pub no_seed_in_one_group : (i : ℕ) → HasNames m groups
      → ((k l : ℕ) → k < length groups.names.items → l < length groups.names.items → get_or groups.names.items k 0 ≡ get_or groups.names.items l 0)
      → HasNoCutSeed m (i ∷ [])
  no_seed_in_one_group i names one s S h g =
      let li : s.corners.one.row < length groups.names.items = let l = g.inside.row_one in omega (arith, names, l) in
      let lk : s.corners.two.row < length groups.names.items = let l = g.inside.row_two in omega (arith, names, l) in
      let at = seed_is_cut_at m s S g in
      parted s S g (Row s.corners.one.row) (Row s.corners.two.row) g.inside.row_one g.inside.row_two at.row_one at.row_two (one s.corners.one.row s.corners.two.row li lk)

  pub no_seed_with_row : (i p k : ℕ) → IsNoCutRow m groups i p k → HasNoCutSeed m (i ∷ p ∷ k ∷ [])
  no_seed_with_row i p k refused s S h g =
      let at = seed_is_cut_at m s S g in
      elim refused [
        | inl e ↦ g.lower (rw (sym h.1.0, sym h.1.1.0) e)
        | inr (inl e) ↦ parted s S g (Row s.corners.one.row) (Row s.corners.two.row) g.inside.row_one g.inside.row_two at.row_one at.row_two (rw (sym h.0, sym h.1.1.0) e)
        | inr (inr e) ↦ parted s S g (Column s.corners.one.column) (Row s.corners.two.row) g.inside.column_one g.inside.row_two at.column_one at.row_two (rw (sym h.1.0, sym h.1.1.0) e)
      ]

  pub no_seed_with_column : (i p k j : ℕ) → IsNoCutColumn m groups i p j → HasNoCutSeed m (i ∷ p ∷ k ∷ j ∷ [])
  no_seed_with_column i p k j refused s S h g =
      let at = seed_is_cut_at m s S g in
      elim refused [
        | inl e ↦ g.upper (rw (sym h.0, sym h.1.1.1.0) e)
        | inr (inl e) ↦ parted s S g (Row s.corners.one.row) (Column s.corners.two.column) g.inside.row_one g.inside.column_two at.row_one at.column_two (rw (sym h.0, sym h.1.1.1.0) e)
        | inr (inr e) ↦ parted s S g (Column s.corners.one.column) (Column s.corners.two.column) g.inside.column_one g.inside.column_two at.column_one at.column_two (rw (sym h.1.0, sym h.1.1.1.0) e)
      ]

  pub no_seed_with_third : (c : Corners) (place : ℕ) → IsNoThird m groups c place → HasNoCutSeed m (cut_prefix c ++ place ∷ [])
  no_seed_with_third c place refused s S h g =
      let at = seed_is_cut_at m s S g in
      let number = h.1.1.1.1.0 in
      let x = s.third in
      let named = ap (λ (z : ℕ). get_or groups.names.items z 0) number ∙ sym (name_at m groups x) in
      let in_side = g.good.grown.has.1.0 in
      elim refused [
        | inl e ↦ g.not_first.0 (line_is (height m) m.width x (Row s.corners.one.row) g.third g.inside.row_one (sym number ∙ e ∙ h.0))
        | inr (inl e) ↦ g.not_first.1.0 (line_is (height m) m.width x (Column s.corners.one.column) g.third g.inside.column_one (sym number ∙ e ∙ ap (λ (z : ℕ). height m + z) h.1.0))
        | inr (inr (inl e)) ↦ parted s S g x (Row s.corners.two.row) g.third g.inside.row_two in_side at.row_two (sym (ap (λ (z : ℕ). name_of m groups (Row z)) (sym h.1.1.0) ∙ e ∙ named))
        | inr (inr (inr e)) ↦ parted s S g x (Column s.corners.two.column) g.third g.inside.column_two in_side at.column_two (sym (ap (λ (z : ℕ). name_of m groups (Column z)) (sym h.1.1.1.0) ∙ e ∙ named))
      ]

module _ (m : Matrix) (c : Corners) where
  pub no_seed_parting : HasNoneParting m (rule_of c) (first_corner c) (second_corner c) → HasNoCutSeed m (cut_prefix c)
  no_seed_parting refused s S h g0 =
      let g = subst (λ (z : CutSeed). IsGoodCut m z S) (cut_seed_from_corners m c s h) g0 in
      refused S g.good.grown.closed g.good.grown.has.1.1 g.good.two (seed_is_cut_at m (cut_seed_at c s.third s.fourth) S g).enough

  pub no_seed_beside : (place : ℕ) (x : Line) → IsLine (height m) m.width x → line_number (height m) x ≡ place
      → HasNoLeaving m (rule_of c) (x ∷ first_corner c) (second_corner c) 4 → HasNoCutSeed m (cut_prefix c ++ place ∷ [])
  no_seed_beside place x lx number refused s S h g0 =
      let g = subst (λ (z : CutSeed). IsGoodCut m z S) (cut_seed_from_third m c place x s lx g0.third number h) g0 in
      refused S g.good.grown.closed g.good.grown.has.1 (record { none = g.good.two; enough = g.good.enough })

  module _ (third fourth : ℕ) (x y : Line) (lx : IsLine (height m) m.width x) (ly : IsLine (height m) m.width y) (ex : line_number (height m) x ≡ third) (ey : line_number (height m) y ≡ fourth) where
    seed_here : (s : CutSeed) (S : Lines) → IsGoodCut m s S → BeginsWith (cut_prefix c ++ third ∷ fourth ∷ []) (cut_key m s) → s ≡ cut_seed_at c x y
    seed_here s S g h = cut_seed_from_fourth m c third fourth x y s lx ly g.third g.good.line ex ey h

    pub no_seed_with_both : HasNoLeaving m (rule_of c) (y ∷ x ∷ first_corner c) (second_corner c) 4 → HasNoCutSeed m (cut_prefix c ++ third ∷ fourth ∷ [])
    no_seed_with_both refused s S h g0 =
        let g = subst (λ (z : CutSeed). IsGoodCut m z S) (seed_here s S g0 h) g0 in
        refused S g.good.grown.closed g.good.grown.has (record { none = g.good.two; enough = g.good.enough })

    -- the fourth line is the third one, or in the first corner
    pub no_fourth : (fourth ≡ third) ⊎ (fourth ≡ c.one.row) ⊎ (fourth ≡ height m + c.one.column) → HasNoCutSeed m (cut_prefix c ++ third ∷ fourth ∷ [])
    no_fourth named s S h g0 =
        let g = subst (λ (z : CutSeed). IsGoodCut m z S) (seed_here s S g0 h) g0 in
        let other = g.good.not_first in
        elim named [
          | inl e ↦ other.0 (line_is (height m) m.width y x ly lx (ey ∙ e ∙ sym ex))
          | inr (inl e) ↦ other.1.0 (line_is (height m) m.width y (Row c.one.row) ly g.inside.row_one (ey ∙ e))
          | inr (inr e) ↦ other.1.1.0 (line_is (height m) m.width y (Column c.one.column) ly g.inside.column_one (ey ∙ e))
        ]

    module _ (corners : HasBlockCorners m c) (third_other : IsOtherNumber m c third) (fourth_other : IsOtherNumber m c fourth) (different : fourth ≢ third) (S : Lines)
        (leaving : IsLeaving m (rule_of c) (y ∷ x ∷ first_corner c) (second_corner c) 4 S) where
      unlike : (n : ℕ) (z w : Line) → line_number (height m) z ≡ n → n ≢ line_number (height m) w → z ≢ w
      unlike n z w e other same = other (sym e ∙ ap (line_number (height m)) same)

      out : AllByRecursion (λ line. S line ≡ false) (second_corner c)
      out = leaving.leaves.none

      not_second : AllByRecursion (λ line. y ≢ line) (second_corner c)
      not_second = (
        (λ e. not_both (S y) leaving.grown.has.0 (ap S e ∙ out.0)),
        ((λ e. not_both (S y) leaving.grown.has.0 (ap S e ∙ out.1.0)), tt),
      )

      pub good_here : IsGoodCut m (cut_seed_at c x y) S
      good_here = record {
        inside = corners.inside;
        upper = corners.upper;
        lower = corners.lower;
        third = lx;
        not_first = (unlike third x (Row c.one.row) ex third_other.row, (unlike third x (Column c.one.column) ex third_other.column, tt));
        good = record {
          line = ly;
          not_first = (unlike fourth y x ey (λ e. different (e ∙ ex)), (unlike fourth y (Row c.one.row) ey fourth_other.row, (unlike fourth y (Column c.one.column) ey fourth_other.column, tt)));
          not_second = not_second;
          grown = leaving.grown;
          two = out;
          enough = leaving.leaves.enough;
        };
      }

      pub found_cut_here : (lines : LineSet) → HasLines (height m) m.width S lines.rows lines.columns → IsFirstCutWith m (cut_prefix c ++ third ∷ fourth ∷ []) lines
      found_cut_here lines has = record {
        seed = cut_seed_at c x y;
        side = S;
        begins = (refl, (refl, (refl, (refl, (sym ex, (sym ey, tt))))));
        good = good_here;
        first = λ other T begins g before. not_before_itself (cut_key m other) (subst (λ (z : CutSeed). IsBefore (cut_key m other) (cut_key m z)) (sym (seed_here other T g begins)) before);
        has = has;
      }

-- what the test of the side with the fourth line decides, by the rule of the corners
pub decided_with : (m : Matrix) (c : Corners) (x y : Line) (rule : GrowthRule) → rule ≡ rule_of c → (side : GrowingSet) (answer : Bool) (S : Lines)
    → IsGrowing m (upper_of m (rule_of c)) (lower_of m (rule_of c)) (x ∷ first_corner c) side
    → ((first : List Line) → IsGrowing m (upper_of m rule) (lower_of m rule) first side → DecidesLeaving m rule (y ∷ first) (second_corner c) 4 answer S)
    → DecidesLeaving m (rule_of c) (y ∷ x ∷ first_corner c) (second_corner c) 4 answer S
decided_with m c x y rule same side answer S growing decided =
    subst (λ (r : GrowthRule). DecidesLeaving m r (y ∷ x ∷ first_corner c) (second_corner c) 4 answer S) same
    (decided (x ∷ first_corner c) (subst (λ (r : GrowthRule). IsGrowing m (upper_of m r) (lower_of m r) (x ∷ first_corner c) side) (sym same) growing))

-- numbers of lines are below their count
number_below : (m : Matrix) (x : Line) → IsLine (height m) m.width x → (b rows columns : ℕ) → rows ≡ height m → columns ≡ m.width → b ≡ line_number (height m) x → b < rows + columns
number_below m (Row r) l b rows columns er ec e = omega arith
number_below m (Column c) l b rows columns er ec e = omega arith

pub third_below : (m : Matrix) (c : Corners) (rows columns : ℕ) → rows ≡ height m → columns ≡ m.width → (s : CutSeed) (S : Lines) (b : ℕ) → IsGoodCut m s S
    → BeginsWith (cut_prefix c ++ b ∷ []) (cut_key m s) → b < rows + columns
third_below m c rows columns er ec s S b g h = number_below m s.third g.third b rows columns er ec h.1.1.1.1.0

pub fourth_below : (m : Matrix) (c : Corners) (third rows columns : ℕ) → rows ≡ height m → columns ≡ m.width → (s : CutSeed) (S : Lines) (b : ℕ)
    → IsGoodCut m s S → BeginsWith (cut_prefix c ++ third ∷ b ∷ []) (cut_key m s) → b < rows + columns
fourth_below m c third rows columns er ec s S b g h = number_below m s.fourth g.good.line b rows columns er ec h.1.1.1.1.1.0

-- ---- the answer of the whole search

-- a good seed with the same lines of the matrix
good_cut_same : (m : Matrix) (s : CutSeed) (S T : Lines) → ((y : Line) → IsLine (height m) m.width y → S y ≡ T y) → IsGoodCut m s S → IsGoodCut m s T
good_cut_same m s S T same g = record {
  inside = g.inside;
  upper = g.upper;
  lower = g.lower;
  third = g.third;
  not_first = g.not_first;
  good = record {
    line = g.good.line;
    not_first = g.good.not_first;
    not_second = g.good.not_second;
    grown = record {
      closed = record {
        upper = λ r c hr hc e f. g.good.grown.closed.upper r c hr hc (same (Row r) (first_lines_contain (height m) r hr) ∙ e) (same (Column c) (first_lines_contain m.width c hc) ∙ f);
        lower = λ r c hr hc e f. g.good.grown.closed.lower r c hr hc (same (Row r) (first_lines_contain (height m) r hr) ∙ e) (same (Column c) (first_lines_contain m.width c hc) ∙ f);
      };
      has = (
        sym (same s.fourth g.good.line) ∙ g.good.grown.has.0,
        all_both (IsLine (height m) m.width) (λ y. S y ≡ true) (λ y. T y ≡ true) (λ y l e. sym (same y l) ∙ e) (s.third ∷ first_corner s.corners) (in_range m s S g) g.good.grown.has.1,
      );
      least = λ U closed has y l e. g.good.grown.least U closed has y l (same y l ∙ e);
    };
    two = all_both (IsLine (height m) m.width) (λ y. S y ≡ false) (λ y. T y ≡ false) (λ y l e. sym (same y l) ∙ e) (second_corner s.corners) (second_in_range m s S g) g.good.two;
    enough = let a = outside_grows (height m) m.width T S (λ y l e. same y l ∙ e) in let b = g.good.enough in omega arith;
  };
}

module _ (m : Matrix) (lines : LineSet) (f : IsFirstCutWith m [] lines) where
  abbrev side : Lines
  side = listed lines.rows lines.columns

  same_lines : (y : Line) → IsLine (height m) m.width y → f.side y ≡ side y
  same_lines (Row r) l = same_test (f.side (Row r)) (side (Row r)) (λ e. listed_from_in r lines.rows ((f.has.rows_are r).1 (l, e))) (λ e. ((f.has.rows_are r).0 (in_from_listed r lines.rows e)).1)
  same_lines (Column c) l = same_test (f.side (Column c)) (side (Column c)) (λ e. listed_from_in c lines.columns ((f.has.columns_are c).1 (l, e))) (λ e. ((f.has.columns_are c).0 (in_from_listed c lines.columns e)).1)

  good_listed : IsGoodCut m f.seed side
  good_listed = good_cut_same m f.seed f.side side same_lines f.good

  pub first_cut_on : IsFirstCutOn m lines.rows lines.columns
  first_cut_on = record {
    row_set = row_set_from_within m lines.rows f.has.rows_increasing (λ r h. in_first_lines (height m) r ((f.has.rows_are r).0 h).0);
    column_set = column_set_from_within m lines.columns f.has.columns_increasing (λ c h. in_first_lines m.width c ((f.has.columns_are c).0 h).0);
    first = record { seed = f.seed; good = good_listed; earliest = λ other T g. f.first other T tt g };
    cut = seed_is_cut m f.seed side good_listed;
  }
