-- Good seeds of the concentrated form.
use Rattle.std.proofs.Common.{ℕ, ℤ, pos, ◌+◌, ◌<◌, ◌≤◌, ◌*ℤ◌, ◌+ℤ◌, ◌-ℤ◌, true, false, [], ◌∷◌, ◌++◌, ◌≡◌, ◌≢◌, ◌∙◌, sym, ap, refl, arith, subst, ◌⊎◌, inl, inr, Option, Some, MatchOption}
use Rattle.std.proofs.lemmas.Bool.{cases_lt}
use Rattle.cmr_base.specs.declared.line.Line.{Line}
use Rattle.cmr_base.specs.declared.line.Line.TheVariants.{Row, Column}
use Rattle.cmr_base.specs.declared.separation.Connector.{Connector}
use Rattle.cmr_base.specs.declared.separation.Form.{Form}
use Rattle.cmr_base.specs.declared.separation.Form.TheVariants.{Concentrated}
use Rattle.cmr_base.specs.declared.separation.Three.{Three}
use Rattle.cmr_base.specs.BitSets.{Bits}
use Rattle.cmr_base.specs.ColumnSets.{has_column}
use Rattle.cmr_base.specs.Matrix.{Matrix, height, entry}
use Rattle.cmr_base.specs.LineSets as sets
use Rattle.cmr_base.specs.Signing.{IsSign}
use Rattle.cmr_base.specs.Separations.{Lines, zeros, spread_at, core_determinant, IsThreeSeparation}
use Rattle.cmr_base.specs.Seeds.{IsConnectorPair, IsGoodThree, IsLine}
use Rattle.cmr_base.specs.Trees.{support}
use Rattle.cmr_base.proofs.Booleans.{false_is, not_both, true_is, zero_is}
use Rattle.cmr_base.proofs.Integers.{sums, products}
use Rattle.cmr_base.proofs.ListedLines.{first_lines_contain, has_line_from_line}
use Rattle.cmr_base.proofs.SeedLemmas.{good_three_seed, three_separation_of_seed, form_is}
use Rattle.cuts.specs.declared.corners.Corners.{Corners}
use Rattle.cuts.specs.LineCuts.{AreInside}
use Rattle.cuts.proofs.CutLemmas.{lower_at, upper_at}
use Rattle.line_growth.specs.declared.rule.GrowthRule.{GrowthRule}
use Rattle.line_growth.specs.GrowingSets.{IsClosedIn}
use Rattle.line_growth.specs.Rules.{IsRuleOf, lower_of, upper_of}
use Rattle.three_sep.specs.declared.connectors.Connectors.{Connectors}
use Rattle.three_sep.specs.NumberedSeeds.{IsGoodSeed, Seed}
use Rattle.three_sep.specs.Connectors.{AreConnectorsOf, all_prefix, connectors_at}
use Rattle.three_sep.specs.Searches.{HasNoGood, HasNoneBelow, IsFirstOf, corner_prefix, first_at, second_at}
use Rattle.three_sep.specs.Concentrated.{AreCandidates, AreConcentratedCorners, AreForcedWith, HasNoneBetween, IsFirstPair, IsForcedWith, IsNoOtherColumn, IsOtherColumn, IsOtherRow, PullsOther}
use Rattle.three_sep.proofs.SearchLemmas.{good_inside, level_found, no_second_corner, seed_at, seed_from_first, seed_from_second}
use Rattle.three_sep.proofs.SpreadLemmas.{spread_parts, spread_same}

-- ---- entries of a good seed

module _ (m : Matrix) (a b : Connector) (x : Line) (S : Lines) (good : IsGoodThree (height m) m.width (entry m) Concentrated a b x S) where
  -- side one has each column in which a row of side one is not 0, and side two each row in which a column of side two is not 0
  columns_one : (row column : ℕ) → row < height m → column < m.width → S (Row row) ≡ true → entry m row column ≢ pos 0 → S (Column column) ≡ true
  columns_one row column lr lc inside n = true_is (S (Column column)) (λ out. n (upper_at m good.1.grown.closed row column lr lc inside out))

  rows_two : (row column : ℕ) → row < height m → column < m.width → S (Column column) ≡ false → entry m row column ≢ pos 0 → S (Row row) ≡ false
  rows_two row column lr lc out n = false_is (S (Row row)) (λ inside. n (upper_at m good.1.grown.closed row column lr lc inside out))

  -- a column of the lower block from columns p and q
  abbrev determinant : ℤ
  determinant = core_determinant (entry m) a b

  abbrev of_first : ℕ → ℤ
  of_first column = determinant *ℤ (entry m b.other a.other *ℤ entry m b.row column -ℤ entry m b.row a.other *ℤ entry m b.other column)

  abbrev of_other : ℕ → ℤ
  of_other column = determinant *ℤ (entry m b.row a.column *ℤ entry m b.other column -ℤ entry m b.other a.column *ℤ entry m b.row column)

  parts : (row column : ℕ) → row < height m → column < m.width → S (Row row) ≡ false → S (Column column) ≡ true
      → entry m row column ≡ of_first column *ℤ entry m row a.column +ℤ of_other column *ℤ entry m row a.other
  parts row column lr lc er ec =
      lower_at m good.1.grown.closed row column lr lc er ec
      ∙ spread_parts determinant (entry m b.row a.column) (entry m b.row a.other) (entry m b.other a.column) (entry m b.other a.other) (entry m row a.column) (entry m row a.other) (entry m b.row column) (entry m b.other column)

  -- other connectors, of which the row i is in side one and the column j in side two
  module _ (d : Connectors) (pair : IsConnectorPair (height m) m.width (entry m) Concentrated d.first d.second) (row_one : S (Row d.first.row) ≡ true) (column_two : S (Column d.second.column) ≡ false) where
    p_one : S (Column d.first.column) ≡ true
    p_one = columns_one d.first.row d.first.column pair.first_lines.0 pair.first_lines.1.0 row_one pair.values.first_corner

    q_one : S (Column d.first.other) ≡ true
    q_one = columns_one d.first.row d.first.other pair.first_lines.0 pair.first_lines.1.1.0 row_one pair.values.tied.first_other

    k_two : S (Row d.second.row) ≡ false
    k_two = rows_two d.second.row d.second.column pair.second_lines.0 pair.second_lines.1.0 column_two pair.values.second_corner

    o_two : S (Row d.second.other) ≡ false
    o_two = rows_two d.second.other d.second.column pair.second_lines.1.1.0 pair.second_lines.1.0 column_two pair.values.tied.second_other

    closed_elsewhere : IsClosedIn m zeros (spread_at (entry m) d.first d.second) S
    closed_elsewhere = record {
      upper = good.1.grown.closed.upper;
      lower = λ r k hr hk er ek.
          let lr = first_lines_contain (height m) r hr in
          let lk = first_lines_contain m.width k hk in
          let p' = d.first.column in
          let q' = d.first.other in
          let k' = d.second.row in
          let o' = d.second.other in
          let lp = pair.first_lines.1.0 in
          let lq = pair.first_lines.1.1.0 in
          let lk' = pair.second_lines.0 in
          let lo = pair.second_lines.1.1.0 in
          spread_same (entry m r a.column) (entry m r a.other) (entry m k' a.column) (entry m k' a.other) (entry m o' a.column) (entry m o' a.other) (of_first k) (of_other k) (of_first p') (of_other p') (of_first q') (of_other q')
          (core_determinant (entry m) d.first d.second) (entry m k' p') (entry m k' q') (entry m o' p') (entry m o' q') (entry m r p') (entry m r q') (entry m k' k) (entry m o' k) (entry m r k) pair.values.tied.determinant refl
          (parts k' p' lk' lp k_two p_one) (parts k' q' lk' lq k_two q_one) (parts o' p' lo lp o_two p_one) (parts o' q' lo lq o_two q_one)
          (parts r p' lr lp er p_one) (parts r q' lr lq er q_one) (parts k' k lk' lk k_two ek) (parts o' k lo lk o_two ek) (parts r k lr lk er ek);
    }

    separation_elsewhere : IsThreeSeparation (entry m) (sets.first_lines (height m)) (sets.first_lines m.width) S Concentrated d.first d.second
    separation_elsewhere =
        let on : (y : Line) → IsLine (height m) m.width y → _ = has_line_from_line (height m) m.width in
        record {
          one = (
            (on (Row d.first.row) pair.first_lines.0, row_one),
            ((on (Column d.first.column) pair.first_lines.1.0, p_one), ((on (Column d.first.other) pair.first_lines.1.1.0, q_one), tt)),
          );
          two = (
            (on (Row d.second.row) pair.second_lines.0, k_two),
            ((on (Column d.second.column) pair.second_lines.1.0, column_two), ((on (Row d.second.other) pair.second_lines.1.1.0, o_two), tt)),
          );
          connectors = pair.values;
          blocks = closed_elsewhere;
          enough = (three_separation_of_seed (height m) m.width (entry m) Concentrated a b x S good).enough;
        }

    -- there is a good seed with these connectors
    some_elsewhere : HasNoGood m (all_prefix Concentrated d) → ⊥
    some_elsewhere none =
        let (y, T, other) = good_three_seed (height m) m.width (entry m) Concentrated d.first d.second S separation_elsewhere in
        none (seed_at Concentrated d y) T (refl, (refl, (refl, (refl, (refl, (refl, (refl, tt))))))) other

    -- a column that a row of column j pulls is in side two
    none_pulled : (rule : GrowthRule) (candidates : Bits) (row : ℕ) → lower_of m rule ≡ spread_at (entry m) d.first d.second → row < height m → entry m row d.second.column ≢ pos 0
        → (pulled : PullsOther m rule candidates row) → S (Column pulled.column) ≡ true → ⊥
    none_pulled rule candidates row lower inside nonzero pulled column_one =
        pulled.unlike (lower_at m closed_elsewhere row pulled.column inside pulled.inside (rows_two row d.second.column inside pair.second_lines.1.0 column_two nonzero) column_one
        ∙ sym (ap (λ (u : ℕ → ℕ → ℤ). u row pulled.column) lower))

-- ---- seeds that are not good

module _ (m : Matrix) where
  concentrated_seed : (s : Seed) (S : Lines) → s.form ≡ Concentrated → IsGoodSeed m s S → IsGoodThree (height m) m.width (entry m) Concentrated s.pair.first s.pair.second s.line S
  concentrated_seed s S e g = subst (λ (f : Form). IsGoodThree (height m) m.width (entry m) f s.pair.first s.pair.second s.line S) e g

  -- if two connectors are in no good seed, no good seed has their row i in side one and their column j in side two
  pub none_between : (d : Connectors) → IsConnectorPair (height m) m.width (entry m) Concentrated d.first d.second → HasNoGood m (all_prefix Concentrated d)
      → HasNoneBetween m d.first.row d.second.column
  none_between d pair none s S ef g row_one =
      true_is (S (Column d.second.column)) (λ out. some_elsewhere m s.pair.first s.pair.second s.line S (concentrated_seed s S ef g) d pair row_one out none)

  -- a row of column j pulls a column that is in side one with row i
  pub none_past : (d : Connectors) (rule : GrowthRule) (candidates : Bits) (row : ℕ)
      → IsConnectorPair (height m) m.width (entry m) Concentrated d.first d.second → lower_of m rule ≡ spread_at (entry m) d.first d.second
      → AreCandidates m d.first.row candidates → row < height m → entry m row d.second.column ≢ pos 0 → PullsOther m rule candidates row → HasNoneBetween m d.first.row d.second.column
  none_past d rule candidates row pair lower are inside nonzero pulled s S ef g row_one =
      true_is (S (Column d.second.column)) (λ out.
      none_pulled m s.pair.first s.pair.second s.line S (concentrated_seed s S ef g) d pair row_one out rule candidates row lower inside nonzero pulled
      (are.others pulled.column pulled.inside pulled.passed s S ef g row_one))

  -- a column that is in side one with row i
  pub none_at_forced : (i j : ℕ) → IsForcedWith m i j → HasNoneBetween m i j
  none_at_forced i j forced s S ef g0 row_one = let g = concentrated_seed s S ef g0 in forced s.pair S g.1.grown.closed row_one

  -- no good seed has such a row i and column j in its connectors
  none_of_seed : (i j : ℕ) → HasNoneBetween m i j → (s : Seed) (S : Lines) → s.form ≡ Concentrated → i ≡ s.pair.first.row → j ≡ s.pair.second.column → ¬ (IsGoodSeed m s S)
  none_of_seed i j none s S ef ei ej g0 =
      let g = concentrated_seed s S ef g0 in
      not_both (S (Column j)) (none s S ef g0 (ap (λ (z : ℕ). S (Row z)) ei ∙ g.1.grown.has.1.0)) (ap (λ (z : ℕ). S (Column z)) ej ∙ g.1.two.1.0)

  pub no_candidate : (i p k j : ℕ) → HasNoneBetween m i j → HasNoGood m (3 ∷ i ∷ p ∷ k ∷ j ∷ [])
  no_candidate i p k j none s S h g = none_of_seed i j none s S (sym (form_is Concentrated s.form h.0)) h.1.0 h.1.1.1.1.0 g

  pub no_candidates : (i p : ℕ) (candidates : Bits) → AreCandidates m i candidates → ((j : ℕ) → has_column candidates.words j ≡ false) → HasNoGood m (3 ∷ i ∷ p ∷ [])
  no_candidates i p candidates are none s S h g =
      none_of_seed i s.pair.second.column (are.others s.pair.second.column (good_inside m s S g).column_two (none s.pair.second.column)) s S (sym (form_is Concentrated s.form h.0)) h.1.0 refl g

  zero_determinant : (x y z w : ℤ) → x ≡ pos 0 → y ≡ pos 0 → ¬ (IsSign (x *ℤ w -ℤ y *ℤ z))
  zero_determinant x y z w ex ey (inl e) = let k : x *ℤ w -ℤ y *ℤ z ≡ pos 0 = rw (ex, ey) (simp products (omega (arith, sums))) in let l = sym k ∙ e in absurd (omega (arith, sums))
  zero_determinant x y z w ex ey (inr e) = let k : x *ℤ w -ℤ y *ℤ z ≡ pos 0 = rw (ex, ey) (simp products (omega (arith, sums))) in let l = sym k ∙ e in absurd (omega (arith, sums))

  pub no_column : (c : Corners) (q : ℕ) → IsNoOtherColumn (entry m) c q → HasNoGood m (corner_prefix Concentrated c ++ q ∷ [])
  no_column c q refused s S h g0 =
      let g = subst (λ (z : Seed). IsGoodSeed m z S) (seed_from_first m Concentrated c q s h) g0 in
      elim refused [
        | inl l ↦ let r = g.0.values.tied.columns_increase in absurd (omega arith)
        | inr (inl e) ↦ g.0.values.tied.first_other e
        | inr (inr (ep, eq)) ↦ zero_determinant (entry m c.two.row c.one.column) (entry m c.two.row q) (entry m s.pair.second.other c.one.column) (entry m s.pair.second.other q) ep eq g.0.values.tied.determinant
      ]

  -- columns up to p, and columns in which row i is 0
  pub none_to_first : (c : Corners) → HasNoneBelow m (corner_prefix Concentrated c) (c.one.column + 1)
  none_to_first c b l = no_column c b (inl (omega arith))

  pub none_over_zeros : (c : Corners) (from q : ℕ) → HasNoneBelow m (corner_prefix Concentrated c) from
      → ((column : ℕ) → from ≤ column → column < q → support m c.one.row column ≡ false) → HasNoneBelow m (corner_prefix Concentrated c) q
  none_over_zeros c from q before zeros b l = elim (cases_lt b from) [
    | inl low ↦ before b low
    | inr high ↦ no_column c b (inr (inl (zero_is (entry m c.one.row b) (zeros b high l))))
  ]

  pub no_row : (c : Corners) (q o : ℕ) → ¬ (IsOtherRow (entry m) c q o) → HasNoGood m (corner_prefix Concentrated c ++ q ∷ o ∷ [])
  no_row c q o refused s S h g0 =
      let g = subst (λ (z : Seed). IsGoodSeed m z S) (seed_from_second m Concentrated (connectors_at c q o) s h) g0 in
      let tied = g.0.values.tied in
      refused (record { increases = tied.rows_increase; nonzero = tied.second_other; determinant = tied.determinant })

  -- rows up to k, and rows in which column j is 0
  pub none_to_second : (c : Corners) (q : ℕ) → HasNoneBelow m (corner_prefix Concentrated c ++ q ∷ []) (c.two.row + 1)
  none_to_second c q b l = no_row c q b (λ other. let r = other.increases in omega arith)

  pub none_over_zero_rows : (c : Corners) (q from o : ℕ) → HasNoneBelow m (corner_prefix Concentrated c ++ q ∷ []) from
      → ((row : ℕ) → from ≤ row → row < o → support m row c.two.column ≡ false) → HasNoneBelow m (corner_prefix Concentrated c ++ q ∷ []) o
  none_over_zero_rows c q from o before zeros b l = elim (cases_lt b from) [
    | inl low ↦ before b low
    | inr high ↦ no_row c q b (λ other. other.nonzero (zero_is (entry m b c.two.column) (zeros b high l)))
  ]

-- connectors that were found, and their rule
pub pair_of : (m : Matrix) (c : Corners) (q o : ℕ) → AreInside m c → AreConcentratedCorners (entry m) c → q < m.width → o < height m
    → IsOtherColumn (entry m) c q → IsOtherRow (entry m) c q o → IsConnectorPair (height m) m.width (entry m) Concentrated (first_at c q) (second_at c o)
pair_of m c q o inside corners lq lo column row = record {
  values = record {
    first_corner = corners.first;
    second_corner = corners.second;
    tied = record { first_other = column.nonzero; second_other = row.nonzero; columns_increase = column.increases; rows_increase = row.increases; determinant = row.determinant };
  };
  first_lines = (inside.row_one, (inside.column_one, (lq, tt)));
  second_lines = (inside.row_two, (inside.column_two, (lo, tt)));
}

pub spread_connectors : (m : Matrix) (rule : GrowthRule) (d : Connectors) → IsConnectorPair (height m) m.width (entry m) Concentrated d.first d.second
    → IsRuleOf m rule → upper_of m rule ≡ zeros → lower_of m rule ≡ spread_at (entry m) d.first d.second → AreConnectorsOf m Concentrated rule d
spread_connectors m rule d pair inside upper lower = record { pair = pair; inside = inside; upper = upper; lower = lower }

-- ---- candidates

pub one_less : (m : Matrix) (i j : ℕ) (before after : Bits) → AreCandidates m i before → HasNoneBetween m i j → after.size ≡ before.size
    → ((x : ℕ) → has_column after.words x ≡ false → (x ≡ j) ⊎ (has_column before.words x ≡ false)) → AreCandidates m i after
one_less m i j before after are none size only = record {
  size = size ∙ are.size;
  others = λ x l e. elim (only x e) [
    | inl here ↦ subst (λ (z : ℕ). HasNoneBetween m i z) (sym here) none
    | inr other ↦ are.others x l other
  ];
}

-- all columns except the forced columns
pub other_candidates : (m : Matrix) (i : ℕ) (forced candidates : Bits) → AreForcedWith m i (has_column forced.words) → forced.size ≡ m.width → candidates.size ≡ forced.size
    → ((x : ℕ) → x < forced.size → has_column forced.words x ≡ false → has_column candidates.words x ≡ true) → AreCandidates m i candidates
other_candidates m i forced candidates are size same all = record {
  size = same ∙ size;
  others = λ j l e. none_at_forced m i j (are j (true_is (has_column forced.words j) (λ out. not_both (has_column candidates.words j) (all j (omega (arith, l, size)) out) e)));
}

-- the second columns are the candidates in which row k is not 0
pub no_second : (m : Matrix) (i p k j : ℕ) (candidates : Bits) → AreCandidates m i candidates → (support m k j ≡ false) ⊎ (has_column candidates.words j ≡ false) → HasNoGood m (3 ∷ i ∷ p ∷ k ∷ j ∷ [])
no_second m i p k j candidates are (inl e) = no_second_corner m 3 i p k j (zero_is (entry m k j) e)
no_second m i p k j candidates are (inr e) = λ s S h g. none_of_seed m i j (are.others j (let l = (good_inside m s S g).column_two in let n = h.1.1.1.1.0 in omega arith) e) s S (sym (form_is Concentrated s.form h.0)) h.1.0 h.1.1.1.1.0 g

pub none_between_seconds : (m : Matrix) (i p k from j : ℕ) (columns candidates : Bits) → AreCandidates m i candidates
    → ((x : ℕ) → has_column columns.words x ≡ false → (support m k x ≡ false) ⊎ (has_column candidates.words x ≡ false))
    → HasNoneBelow m (3 ∷ i ∷ p ∷ k ∷ []) from → ((x : ℕ) → from ≤ x → x < j → has_column columns.words x ≡ false) → HasNoneBelow m (3 ∷ i ∷ p ∷ k ∷ []) j
none_between_seconds m i p k from j columns candidates are others before none b l = elim (cases_lt b from) [
  | inl low ↦ before b low
  | inr high ↦ no_second m i p k b candidates are (others b (none b high l))
]

-- row k is 0 in each candidate
pub no_common : (m : Matrix) (i p k : ℕ) (candidates : Bits) → AreCandidates m i candidates
    → ((x : ℕ) → (support m k x ≡ false) ⊎ (has_column candidates.words x ≡ false)) → HasNoGood m (3 ∷ i ∷ p ∷ k ∷ [])
no_common m i p k candidates are none s S h g = no_second m i p k s.pair.second.column candidates are (none s.pair.second.column) s S (h.0, (h.1.0, (h.1.1.0, (h.1.1.1.0, (refl, tt))))) g

-- ---- the first connectors with two corners

module _ (m : Matrix) (c : Corners) (d : Connectors) (is : IsFirstPair m c d) where
  pub pair_found : (o : Option Three) (three : Three) → o ≡ Some three
      → MatchOption o (HasNoneBetween m d.first.row d.second.column) (IsFirstOf m (all_prefix Concentrated d))
      → IsFirstOf m (corner_prefix Concentrated c) three
  pair_found o three e h =
      let here : IsFirstOf m (corner_prefix Concentrated c ++ d.first.other ∷ d.second.other ∷ []) three =
      subst (λ (z : Corners). IsFirstOf m (corner_prefix Concentrated z ++ d.first.other ∷ d.second.other ∷ []) three) is.corners (subst (λ (z : Option Three). MatchOption z (HasNoneBetween m d.first.row d.second.column) (IsFirstOf m (all_prefix Concentrated d))) e h) in
      level_found m (corner_prefix Concentrated c) d.first.other three (omega arith) is.columns (level_found m (corner_prefix Concentrated c ++ d.first.other ∷ []) d.second.other three (omega arith) is.rows here)

  pub none_at_pair : HasNoneBetween m d.first.row d.second.column → HasNoneBetween m c.one.row c.two.column
  none_at_pair none = subst (λ (z : Corners). HasNoneBetween m z.one.row z.two.column) is.corners none
