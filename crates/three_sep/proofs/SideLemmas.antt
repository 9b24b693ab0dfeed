-- Facts on a side that grows from the lines of one connector and leaves the lines of another.
use Rattle.std.proofs.Common.{ℕ, ℤ, true, false, not, List, [], ◌∷◌, ◌++◌, ◌≡◌, sym, ap, subst, inl, inr, filter}
use Rattle.std.proofs.lemmas.List.Kept.{IsStrictlyIncreasing-filter}
use Rattle.cmr_base.specs.declared.line.Line.{Line}
use Rattle.cmr_base.specs.declared.line.Line.TheVariants.{Row, Column}
use Rattle.cmr_base.specs.declared.separation.Form.{Form}
use Rattle.cmr_base.specs.LineSets.{first_lines}
use Rattle.cmr_base.specs.Matrix.{Matrix, height, entry}
use Rattle.cmr_base.specs.Separations.{AreEnough, IsTied, Lines, first_is_flat, opposite, product_at, second_is_flat, lower_block, upper_block}
use Rattle.cmr_base.specs.Seeds.{HasAll, IsGrown, IsLine, line_number}
use Rattle.cmr_base.proofs.Booleans.{not_both}
use Rattle.cmr_base.proofs.Lists.{all_weaker}
use Rattle.cmr_base.proofs.RemovedLines.{first_lines_increase, first_lines_in, in_first_lines}
use Rattle.cmr_base.proofs.RowLists.{filter_in, in_filter, two_cases}
use Rattle.cmr_base.proofs.SeedLemmas.{three_separation_of_seed}
use Rattle.cuts.specs.declared.corners.Corners.{Corners}
use Rattle.cuts.specs.LineCuts.{AreInside}
use Rattle.cuts.proofs.CutLemmas.{other_closed, other_enough}
use Rattle.line_growth.specs.declared.rule.GrowthRule.{GrowthRule}
use Rattle.line_growth.specs.GrowingSets.{HasNoLeaving, HasNone, IsClosedIn, IsLeaving, Leaves}
use Rattle.line_growth.specs.Rules.{IsRuleOf, exchanged, lower_of, upper_of}
use Rattle.three_sep.specs.declared.connectors.Connectors.{Connectors}
use Rattle.three_sep.specs.Connectors.{AreConnectorsOf, HasNoneParting, all_prefix, connectors_at, firsts, rule_of, seconds}
use Rattle.three_sep.specs.NumberedSeeds.{HasLines, IsBeside, IsCrossing, IsGoodSeed, Seed}
use Rattle.three_sep.specs.Searches.{HasCorners, HasNoGood, corner_prefix, first_at, held_lines, other_line, second_at}
use Rattle.three_sep.specs.TiedLines.{AreRefused}
use Rattle.three_sep.proofs.CrossingLemmas.{closed_crossing, crossing_from, crossing_to, lower_crossing, upper_crossing}
use Rattle.three_sep.proofs.TiedLemmas.{tied_other}
use Rattle.three_sep.proofs.SearchLemmas.{first_has, of_connector, second_out, seed_at, seed_from_all, seed_from_corners, seed_from_first, seed_from_second, to_connector}

-- ---- separations that do not exist

module _ (m : Matrix) (rule : GrowthRule) (first second : List Line) where
  pub none_leaving : HasNoLeaving m rule first second 4 → HasNoneParting m rule first second
  none_leaving none T closed has out enough = none T closed has (record { none = out; enough = enough.two })

  other_has : (T : Lines) (lines : List Line) → HasNone T lines → HasAll (opposite T) lines
  other_has T lines none = all_weaker (λ x. T x ≡ false) (λ x. not (T x) ≡ true) (λ x e. ap not e) lines none

  other_leaves : (T : Lines) → HasAll T first → AreEnough (first_lines (height m)) (first_lines m.width) T 4 → Leaves m first 4 (opposite T)
  other_leaves T has enough = record {
    none = all_weaker (λ x. T x ≡ true) (λ x. not (T x) ≡ false) (λ x e. ap not e) first has;
    enough = (other_enough m T 4 enough).two;
  }

  pub none_left : HasNoLeaving m (exchanged rule) second first 4 → HasNoneParting m rule first second
  none_left none T closed has out enough = none (opposite T) (other_closed m T closed) (other_has T second out) (other_leaves T has enough)

  -- a line that can be on neither side
  pub none_refused : (x : Line) → HasNoLeaving m rule (x ∷ first) second 4 → HasNoLeaving m (exchanged rule) (x ∷ second) first 4 → HasNoneParting m rule first second
  none_refused x one two T closed has out enough = elim (two_cases (T x)) [
    | inl e ↦ one T closed (e, has) (record { none = out; enough = enough.two })
    | inr e ↦ two (opposite T) (other_closed m T closed) (ap not e, other_has T second out) (other_leaves T has enough)
  ]

-- ---- seeds

module _ (m : Matrix) (form : Form) (rule : GrowthRule) (d : Connectors) (are : AreConnectorsOf m form rule d) where
  module _ (x : Line) (S : Lines) (good : IsGoodSeed m (seed_at form d x) S) where
    closed : IsClosedIn m (upper_of m rule) (lower_of m rule) S
    closed = subst (λ (u : ℕ → ℕ → ℤ). IsClosedIn m u (lower_of m rule) S) (sym are.upper) (subst (λ (l : ℕ → ℕ → ℤ). IsClosedIn m (upper_block (entry m) form d.first d.second) l S) (sym are.lower) good.1.grown.closed)

    unless : HasNoLeaving m rule (x ∷ firsts form d) (seconds form d) 4 → ⊥
    unless refused = refused S closed good.1.grown.has (record { none = good.1.two; enough = good.1.enough })

    unless_parting : HasNoneParting m rule (firsts form d) (seconds form d) → ⊥
    unless_parting refused = refused S closed good.1.grown.has.1 good.1.two (three_separation_of_seed (height m) m.width (entry m) form d.first d.second x S good).enough

  pub no_good_line : (place : ℕ) (x : Line) → IsLine (height m) m.width x → line_number (height m) x ≡ place
      → HasNoLeaving m rule (x ∷ firsts form d) (seconds form d) 4 → HasNoGood m (all_prefix form d ++ place ∷ [])
  no_good_line place x lx number refused s S h g = unless x S (subst (λ (z : Seed). IsGoodSeed m z S) (seed_from_all m form d place x s lx g.1.line number h) g) refused

  pub no_good_parting : HasNoneParting m rule (firsts form d) (seconds form d) → HasNoGood m (all_prefix form d)
  no_good_parting refused s S h g = unless_parting s.line S (subst (λ (z : Seed). IsGoodSeed m z S) (seed_from_second m form d s h) g) refused

  -- a side that leaves the second connector is the side of a good seed
  pub good_from_leaving : (x : Line) (S : Lines) → IsLine (height m) m.width x → IsBeside (first_is_flat form) d.first x
      → IsBeside (second_is_flat form) d.second x → IsLeaving m rule (x ∷ firsts form d) (seconds form d) 4 S → IsGoodSeed m (seed_at form d x) S
  good_from_leaving x S lx beside_first beside_second is = (
    are.pair,
    record {
      line = lx;
      not_first = beside_first;
      not_second = beside_second;
      grown = subst (λ (u : ℕ → ℕ → ℤ). IsGrown (height m) m.width (entry m) u (lower_block (entry m) form d.first d.second) (x ∷ firsts form d) S) are.upper
          (subst (λ (l : ℕ → ℕ → ℤ). IsGrown (height m) m.width (entry m) (upper_of m rule) l (x ∷ firsts form d) S) are.lower is.grown);
      two = is.leaves.none;
      enough = is.leaves.enough;
    },
  )

-- ---- the forms whose blocks are both products

pub rule_inside : (m : Matrix) (c : Corners) → AreInside m c → IsRuleOf m (rule_of c)
rule_inside m c inside = record { upper = (inside.row_one, inside.column_two); lower = (inside.row_two, inside.column_one) }

module _ (m : Matrix) (form : Form) (crossing : IsCrossing form) (c : Corners) where
  module _ (q o : ℕ) (x : Line) (S : Lines) (good : IsGoodSeed m (seed_at form (connectors_at c q o) x) S) where
    crossing_closed : IsClosedIn m (product_at (entry m) c.one.row c.two.column) (product_at (entry m) c.two.row c.one.column) S
    crossing_closed = closed_crossing (entry m) (first_at c q) (second_at c o) (height m) m.width S form crossing good.1.grown.closed

    corners_has : HasAll S (Row c.one.row ∷ Column c.one.column ∷ [])
    corners_has = let has = first_has m (seed_at form (connectors_at c q o) x) S good in (has.0, (has.1, tt))

    corners_none : HasNone S (Row c.two.row ∷ Column c.two.column ∷ [])
    corners_none = let none = second_out m (seed_at form (connectors_at c q o) x) S good in (none.0, (none.1, tt))

  pub no_good_refused : AreRefused m c → HasNoGood m (corner_prefix form c)
  no_good_refused refused s S h g0 =
      let q = s.pair.first.other in
      let o = s.pair.second.other in
      let seed = seed_at form (connectors_at c q o) s.line in
      let g = subst (λ (z : Seed). IsGoodSeed m z S) (seed_from_corners m form c s h) g0 in
      let ties = crossing_from (entry m) (first_at c q) (second_at c o) form crossing g.0.values.tied in
      let first_line = (of_connector (IsLine (height m) m.width) (first_is_flat form) (first_at c q) g.0.first_lines).2 in
      let second_line = (of_connector (IsLine (height m) m.width) (second_is_flat form) (second_at c o) g.0.second_lines).2 in
      let enough = (three_separation_of_seed (height m) m.width (entry m) form (first_at c q) (second_at c o) s.line S g).enough in
      not_both (S (other_line (second_is_flat form) o))
      (refused.no_tied S (crossing_closed q o s.line S g) (corners_has q o s.line S g) (corners_none q o s.line S g) enough
      (other_line (first_is_flat form) q) (other_line (second_is_flat form) o) first_line second_line
      (tied_other (entry m) (first_is_flat form) c.one c.two q ties.first_tied) (tied_other (entry m) (second_is_flat form) c.two c.one o ties.second_tied) (first_has m seed S g).2)
      (second_out m seed S g).2

  pub no_good_side : (q : ℕ) → HasNoLeaving m (rule_of c) (held_lines form c q) (Row c.two.row ∷ Column c.two.column ∷ []) 4 → HasNoGood m (corner_prefix form c ++ q ∷ [])
  no_good_side q refused s S h g0 =
      let o = s.pair.second.other in
      let g = subst (λ (z : Seed). IsGoodSeed m z S) (seed_from_first m form c q s h) g0 in
      refused S (crossing_closed q o s.line S g) g.1.grown.has.1 (record { none = corners_none q o s.line S g; enough = g.1.enough })

  -- the closure of the first connector has the other line of the second connector
  pub no_good_held : (q o : ℕ) (L : Lines)
      → IsGrown (height m) m.width (entry m) (product_at (entry m) c.one.row c.two.column) (product_at (entry m) c.two.row c.one.column) (held_lines form c q) L
      → IsLine (height m) m.width (other_line (second_is_flat form) o)
      → L (other_line (second_is_flat form) o) ≡ true → HasNoGood m (corner_prefix form c ++ q ∷ o ∷ [])
  no_good_held q o L least line held s S h g0 =
      let d = connectors_at c q o in
      let g = subst (λ (z : Seed). IsGoodSeed m z S) (seed_from_second m form d s h) g0 in
      not_both (S (other_line (second_is_flat form) o)) (least.least S (crossing_closed q o s.line S g) g.1.grown.has.1 (other_line (second_is_flat form) o) line held) (second_out m (seed_at form d s.line) S g).2

  -- two connectors with their rule
  pub crossing_connectors : (q o : ℕ) → HasCorners m c → IsTied (entry m) (first_is_flat form) (first_at c q) c.two.row c.two.column
      → IsTied (entry m) (second_is_flat form) (second_at c o) c.one.row c.one.column → IsLine (height m) m.width (other_line (first_is_flat form) q)
      → IsLine (height m) m.width (other_line (second_is_flat form) o) → AreConnectorsOf m form (rule_of c) (connectors_at c q o)
  crossing_connectors q o are first second line_first line_second = record {
    pair = record {
      values = record {
        first_corner = are.first;
        second_corner = are.second;
        tied = crossing_to (entry m) (first_at c q) (second_at c o) form crossing (record { upper = are.upper; lower = are.lower; first_tied = first; second_tied = second });
      };
      first_lines = to_connector (IsLine (height m) m.width) (first_is_flat form) (first_at c q) are.inside.row_one are.inside.column_one line_first;
      second_lines = to_connector (IsLine (height m) m.width) (second_is_flat form) (second_at c o) are.inside.row_two are.inside.column_two line_second;
    };
    inside = rule_inside m c are.inside;
    upper = sym (upper_crossing (entry m) (first_at c q) (second_at c o) form crossing);
    lower = sym (lower_crossing (entry m) (first_at c q) (second_at c o) form crossing);
  }

-- ---- lists of lines

pub lines_of_filters : (m n : ℕ) (S : Lines) (rows columns : List ℕ) → rows ≡ filter (λ r. S (Row r)) (first_lines m)
    → columns ≡ filter (λ c. S (Column c)) (first_lines n) → HasLines m n S rows columns
lines_of_filters m n S rows columns er ec =
    subst (λ (xs : List ℕ). HasLines m n S xs columns) (sym er) (subst (λ (xs : List ℕ). HasLines m n S (filter (λ r. S (Row r)) (first_lines m)) xs) (sym ec) (record {
      rows_increasing = IsStrictlyIncreasing-filter (λ r. S (Row r)) (first_lines m) (first_lines_increase m);
      columns_increasing = IsStrictlyIncreasing-filter (λ c. S (Column c)) (first_lines n) (first_lines_increase n);
      rows_are = λ r. (
        (λ h. let k = in_filter (λ y. S (Row y)) r (first_lines m) h in (first_lines_in m r k.0, k.1)),
        λ h. filter_in (λ y. S (Row y)) r (first_lines m) (in_first_lines m r h.0) h.1,
      );
      columns_are = λ r. (
        (λ h. let k = in_filter (λ y. S (Column y)) r (first_lines n) h in (first_lines_in n r k.0, k.1)),
        λ h. filter_in (λ y. S (Column y)) r (first_lines n) (in_first_lines n r h.0) h.1,
      );
    }))
