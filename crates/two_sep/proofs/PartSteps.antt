-- Another connected part.
use Rattle.std.proofs.Common.{◌≡◌, ◌<◌, ◌≤◌, ◌+◌, ◌⊎◌, inl, inr, ◌∙◌, ◌++◌, ◌||◌, not, cond, filter, nat_eq, ℕ, zero, suc, ℤ, Bool, true, false, List, [], ◌∷◌, length, ap, ap₂, sym, subst, refl, arith}
use Rattle.std.specs.List.{list_any}
use Rattle.std.proofs.lemmas.Bool.{false≢true, cases_lt}
use Rattle.std.proofs.lemmas.List.Kept.{IsStrictlyIncreasing-filter}
use Rattle.cmr_base.specs.declared.line.Line.{Line}
use Rattle.cmr_base.specs.declared.line.Line.TheVariants.{Row, Column}
use Rattle.cmr_base.specs.declared.line_set.LineSet.{LineSet}
use Rattle.cmr_base.specs.Matrix.{Matrix, height, entry}
use Rattle.cmr_base.specs.LineSets.{IsRowSet, IsColumnSet, first_lines}
use Rattle.cmr_base.specs.Members.{IsIn}
use Rattle.cmr_base.specs.Reductions.{HasLine}
use Rattle.cmr_base.specs.Separations.{Lines, listed, opposite, zeros}
use Rattle.cmr_base.specs.Components.{IsApart, IsComponent, AreComponents, part_at, first_number}
use Rattle.cmr_base.proofs.ListedLines.{has_line_from_listed, listed_from_has_line, first_lines_contain}
use Rattle.cmr_base.proofs.ListsWithout.{in_from_contains, contains_from_in}
use Rattle.cmr_base.proofs.RowLists.{two_cases, in_filter}
use Rattle.cmr_base.proofs.RemovedLines.{first_lines_increase, row_set_from_within, column_set_from_within}
use Rattle.cmr_base.proofs.Booleans.{not_is, or_is, or_left, or_right, not_false, false_is}
use Rattle.cmr_base.specs.Seeds.{IsGrown, IsLine, line_number}
use Rattle.cmr_base.proofs.SeedLemmas.{line_is}
use Rattle.cmr_base.specs.ColumnSets.{has_column}
use Rattle.cmr_base.specs.LineMasks.{as_set}
use Rattle.cmr_base.specs.declared.line_mask.LineMask.{LineMask}
use Rattle.line_growth.specs.declared.growing_set.GrowingSet.{GrowingSet}
use Rattle.line_growth.specs.GrowingSets.{set_of}
use Rattle.two_sep.specs.declared.parts.FoundParts.{FoundParts}
use Rattle.two_sep.specs.FoundParts.{HasFound, HasPartLine, ArePartsFound}
use Rattle.two_sep.proofs.LineNumbers.{number_in}
use Rattle.cmr_base.proofs.FilteredLines.{filter_more}
use Rattle.two_sep.proofs.FirstTwo.{listed_filter}

-- ---- lists

part_prefix : (parts : List LineSet) (p : LineSet) (a : ℕ) → a < length parts → part_at (parts ++ p ∷ []) a ≡ part_at parts a
part_prefix [] p a l = absurd (omega arith)
part_prefix (x ∷ xs) p zero l = refl
part_prefix (x ∷ xs) p (suc a) l = part_prefix xs p a (omega arith)

part_last : (parts : List LineSet) (p : LineSet) → part_at (parts ++ p ∷ []) (length parts) ≡ p
part_last [] p = refl
part_last (x ∷ xs) p = part_last xs p

length-more : (parts : List LineSet) (p : LineSet) → length (parts ++ p ∷ []) ≡ suc (length parts)
length-more [] p = refl
length-more (x ∷ xs) p = ap suc (length-more xs p)

-- the first number that passes a test
none_pass : (p : ℕ → Bool) (n : ℕ) → ((k : ℕ) → k < n → p k ≡ false) → filter p (first_lines n) ≡ []
none_pass p zero h = refl
none_pass p (suc n) h =
    let e : suc n ≡ n + 1 = omega arith in
    ap (λ (k : ℕ). filter p (first_lines k)) e ∙ filter_more p n ∙ ap (λ (t : Bool). cond t (filter p (first_lines n) ++ n ∷ []) (filter p (first_lines n))) (h n (omega arith)) ∙ none_pass p n (λ k l. h k (omega arith))

first_pass : (p : ℕ → Bool) (n k : ℕ) → k < n → p k ≡ true → ((q : ℕ) → q < k → p q ≡ false) → (rest : List ℕ) × (filter p (first_lines n) ≡ k ∷ rest)
first_pass p zero k l e h = absurd (omega arith)
first_pass p (suc n) k l e h = go (cases_lt k n) (λ m. first_pass p n k m e h)
  where
    next : suc n ≡ n + 1
    next = omega arith

    more : filter p (first_lines (suc n)) ≡ cond (p n) (filter p (first_lines n) ++ n ∷ []) (filter p (first_lines n))
    more = ap (λ (k : ℕ). filter p (first_lines k)) next ∙ filter_more p n

    go : (k < n) ⊎ (n ≤ k) → (k < n → (rest : List ℕ) × (filter p (first_lines n) ≡ k ∷ rest)) → (rest : List ℕ) × (filter p (first_lines (suc n)) ≡ k ∷ rest)
    go (inl m) before = pick (p n) refl (before m)
      where
        pick : (t : Bool) → p n ≡ t → (rest : List ℕ) × (filter p (first_lines n) ≡ k ∷ rest) → (rest : List ℕ) × (filter p (first_lines (suc n)) ≡ k ∷ rest)
        pick true f (rest, g) = (rest ++ n ∷ [], more ∙ ap (λ (t : Bool). cond t (filter p (first_lines n) ++ n ∷ []) (filter p (first_lines n))) f ∙ ap (λ (xs : List ℕ). xs ++ n ∷ []) g)
        pick false f (rest, g) = (rest, more ∙ ap (λ (t : Bool). cond t (filter p (first_lines n) ++ n ∷ []) (filter p (first_lines n))) f ∙ g)
    go (inr m) before =
        let q : n ≡ k = omega arith in
        ([], more ∙ ap (λ (t : Bool). cond t (filter p (first_lines n) ++ n ∷ []) (filter p (first_lines n))) (ap p q ∙ e) ∙ ap (λ (xs : List ℕ). xs ++ n ∷ []) (none_pass p n (λ r l. h r (omega arith))) ∙ ap (λ (z : ℕ). z ∷ []) q)

opposite_apart : (m n : ℕ) (M : ℕ → ℕ → ℤ) (S : Lines) → IsApart m n M S → IsApart m n M (opposite S)
opposite_apart m n M S s = record {
  upper = λ r c hr hc e f. s.lower r c hr hc (not_is (S (Row r)) e) (not_false (S (Column c)) f);
  lower = λ r c hr hc e f. s.upper r c hr hc (not_false (S (Row r)) e) (not_is (S (Column c)) f);
}

-- the lines seen before, with the lines of a set
pub seen_joined : (before after : LineMask) (part : GrowingSet) → ((r : ℕ) → has_column after.rows.words r ≡ (has_column before.rows.words r || has_column part.rows.inside.words r))
    → ((c : ℕ) → has_column after.columns.words c ≡ (has_column before.columns.words c || has_column part.columns.inside.words c)) → (x : Line) → as_set after x ≡ (as_set before x || set_of part x)
seen_joined before after part rows columns (Row r) = rows r
seen_joined before after part rows columns (Column c) = columns c

module _ (m : Matrix) where
  abbrev h : ℕ
  h = height m

  pub found_none : (seen : Lines) → ((line : Line) → seen line ≡ false) → ArePartsFound m [] seen 0
  found_none seen e = record {
    row_sets = λ a l. absurd (omega arith);
    column_sets = λ a l. absurd (omega arith);
    components = λ a l. absurd (omega arith);
    seen_in = λ line l f. absurd (false≢true (sym (e line) ∙ f));
    in_seen = λ a line l. absurd (omega arith);
    passed = λ line l k. absurd (omega arith);
    once = λ a b line l. absurd (omega arith);
    ordered = λ a b k l. absurd (omega arith);
    early = λ a l. absurd (omega arith);
  }

  module _ (parts : List LineSet) (seen : Lines) (number : ℕ) (found : ArePartsFound m parts seen number) (line : Line) (inside : IsLine (height m) m.width line) (number_is : line_number (height m) line ≡ number) where
    -- a line with this number is this line
    line_here : (other : Line) → IsLine h m.width other → number ≤ line_number h other → line_number h other < number + 1 → other ≡ line
    line_here other l low high = line_is h m.width other line l inside (omega arith)

    pub found_passes : seen line ≡ true → ArePartsFound m parts seen (number + 1)
    found_passes here = record {
      row_sets = found.row_sets;
      column_sets = found.column_sets;
      components = found.components;
      seen_in = found.seen_in;
      in_seen = found.in_seen;
      passed = λ other l k. elim (cases_lt (line_number h other) number) [
        | inl a ↦ found.passed other l a
        | inr a ↦ ap seen (line_here other l a k) ∙ here
      ];
      once = found.once;
      ordered = found.ordered;
      early = λ a l. let e = found.early a l in omega arith;
    }

    -- the lines seen so far have no nonzeros in common with the rest
    unseen_apart : IsApart h m.width (entry m) (opposite seen)
    unseen_apart = record {
      upper = λ r c hr hc er ec.
          let a = found.seen_in (Column c) (first_lines_contain m.width c hc) (not_false (seen (Column c)) ec) in
          let part = part_at parts a.0 in
          (found.components a.0 a.1).apart.lower r c hr hc
          (false_is (listed part.rows part.columns (Row r)) (λ t. false≢true (sym (not_is (seen (Row r)) er) ∙ found.in_seen a.0 (Row r) a.1 (has_line_from_listed part.rows part.columns (Row r) t))))
          (listed_from_has_line part.rows part.columns (Column c) a.2);
      lower = λ r c hr hc er ec.
          let a = found.seen_in (Row r) (first_lines_contain h r hr) (not_false (seen (Row r)) er) in
          let part = part_at parts a.0 in
          (found.components a.0 a.1).apart.upper r c hr hc (listed_from_has_line part.rows part.columns (Row r) a.2)
          (false_is (listed part.rows part.columns (Column c)) (λ t. false≢true (sym (not_is (seen (Column c)) ec) ∙ found.in_seen a.0 (Column c) a.1 (has_line_from_listed part.rows part.columns (Column c) t))));
    }

    module _ (new : seen line ≡ false) (S : Lines) (grown : IsGrown (height m) m.width (entry m) zeros zeros (line ∷ []) S)
        (part : LineSet) (rows_are : part.rows ≡ filter (λ x. S (Row x)) (first_lines (height m))) (columns_are : part.columns ≡ filter (λ x. S (Column x)) (first_lines m.width)) where
      abbrev T : Lines
      T = listed part.rows part.columns

      same_lines : (other : Line) → IsLine h m.width other → listed part.rows part.columns other ≡ S other
      same_lines (Row x) l = ap (λ (xs : List ℕ). list_any (λ y. nat_eq y x) xs) rows_are ∙ listed_filter (λ y. S (Row y)) h x l
      same_lines (Column x) l = ap (λ (xs : List ℕ). list_any (λ y. nat_eq y x) xs) columns_are ∙ listed_filter (λ y. S (Column y)) m.width x l

      first_in : (n x : ℕ) → IsIn x (first_lines n) → x < n
      first_in n x i = first_lines_contain n x (contains_from_in (first_lines n) x i)

      -- lines of the part are lines of the matrix
      in_part : (other : Line) → HasLine part.rows part.columns other → IsLine h m.width other
      in_part (Row x) k = first_in h x (in_filter (λ y. S (Row y)) x (first_lines h) (subst (λ (xs : List ℕ). IsIn x xs) rows_are (in_from_contains part.rows x k))).0
      in_part (Column x) k = first_in m.width x (in_filter (λ y. S (Column y)) x (first_lines m.width) (subst (λ (xs : List ℕ). IsIn x xs) columns_are (in_from_contains part.columns x k))).0

      inside_of : (other : Line) → HasLine part.rows part.columns other → S other ≡ true
      inside_of other k = sym (same_lines other (in_part other k)) ∙ listed_from_has_line part.rows part.columns other k

      unseen : (other : Line) → IsLine h m.width other → S other ≡ true → seen other ≡ false
      unseen other l e = not_is (seen other) (grown.least (opposite seen) unseen_apart (ap not new, tt) other l e)

      apart : IsApart h m.width (entry m) T
      apart = record {
        upper = λ x y hx hy e f. grown.closed.upper x y hx hy (sym (same_lines (Row x) (first_lines_contain h x hx)) ∙ e) (sym (same_lines (Column y) (first_lines_contain m.width y hy)) ∙ f);
        lower = λ x y hx hy e f. grown.closed.lower x y hx hy (sym (same_lines (Row x) (first_lines_contain h x hx)) ∙ e) (sym (same_lines (Column y) (first_lines_contain m.width y hy)) ∙ f);
      }

      within_other : (other : Lines) → IsApart h m.width (entry m) other → other line ≡ true → (x : Line) → IsLine h m.width x → T x ≡ true → other x ≡ true
      within_other other is_apart e x l t = grown.least other is_apart (e, tt) x l (sym (same_lines x l) ∙ t)

      component : IsComponent h m.width (entry m) T
      component = record {
        apart = apart;
        some = (line, inside, same_lines line inside ∙ grown.has.0);
        least = λ other is_apart some within x l t. elim (two_cases (other line)) [
          | inl e ↦ within_other other is_apart e x l t
          | inr e ↦
              let out = within_other (opposite other) (opposite_apart h m.width (entry m) other is_apart) (ap not e) some.0 some.1 (within some.0 some.1 some.2) in
              absurd (false≢true (sym (not_is (other some.0) out) ∙ some.2))
        ];
      }

      first_is : first_number h part ≡ number
      first_is = go line refl
        where
          before : (other : Line) → IsLine h m.width other → line_number h other < number → S other ≡ false
          before other l k = false_is (S other) (λ e. false≢true (sym (unseen other l e) ∙ found.passed other l k))

          by_lists : (rows columns : List ℕ) → part.rows ≡ rows → part.columns ≡ columns → first_number h part ≡ first_number h (record { rows = rows; columns = columns })
          by_lists rows columns e f = ap₂ (λ (a b : List ℕ). first_number h (record { rows = a; columns = b })) e f

          go : (x : Line) → line ≡ x → first_number h part ≡ number
          go (Row r) e =
              let l = subst (λ (z : Line). IsLine h m.width z) e inside in
              let at : r ≡ number = sym (ap (line_number h) e) ∙ number_is in
              let f = first_pass (λ x. S (Row x)) h r l (sym (ap S e) ∙ grown.has.0) (λ q k. before (Row q) (omega arith) (omega arith)) in
              by_lists (r ∷ f.0) part.columns (rows_are ∙ f.1) refl ∙ at
          go (Column c) e =
              let l = subst (λ (z : Line). IsLine h m.width z) e inside in
              let at : h + c ≡ number = sym (ap (line_number h) e) ∙ number_is in
              let f = first_pass (λ x. S (Column x)) m.width c l (sym (ap S e) ∙ grown.has.0) (λ q k. before (Column q) (omega arith) (omega arith)) in
              by_lists [] (c ∷ f.0) (rows_are ∙ none_pass (λ x. S (Row x)) h (λ k a. before (Row k) a (omega arith))) (columns_are ∙ f.1) ∙ at

      -- the parts with this part
      pub found_more : (seen' : Lines) → ((x : Line) → seen' x ≡ (seen x || S x)) → ArePartsFound m (parts ++ part ∷ []) seen' (number + 1)
      found_more seen' is = record {
        row_sets = λ a l. each (λ p. IsRowSet m p.rows) found.row_sets (subst (IsRowSet m) (sym rows_are) (row_set_from_within m (filter (λ x. S (Row x)) (first_lines h)) (IsStrictlyIncreasing-filter (λ x. S (Row x)) (first_lines h) (first_lines_increase h)) (λ x i. (in_filter (λ x. S (Row x)) x (first_lines h) i).0))) a l;
        column_sets = λ a l. each (λ p. IsColumnSet m p.columns) found.column_sets (subst (IsColumnSet m) (sym columns_are) (column_set_from_within m (filter (λ x. S (Column x)) (first_lines m.width)) (IsStrictlyIncreasing-filter (λ x. S (Column x)) (first_lines m.width) (first_lines_increase m.width)) (λ x i. (in_filter (λ x. S (Column x)) x (first_lines m.width) i).0))) a l;
        components = λ a l. each (λ p. IsComponent h m.width (entry m) (listed p.rows p.columns)) found.components component a l;
        seen_in = λ other l e. elim (or_is (seen other) (S other) (sym (is other) ∙ e)) [
          | inl f ↦ let a = found.seen_in other l f in (a.0, (let k = a.1 in let n = length-more parts part in omega arith), subst (λ p. HasLine p.rows p.columns other) (sym (part_prefix parts part a.0 a.1)) a.2)
          | inr f ↦ (length parts, (let n = length-more parts part in omega arith), subst (λ p. HasLine p.rows p.columns other) (sym (part_last parts part)) (has_line_from_listed part.rows part.columns other (same_lines other l ∙ f)))
        ];
        in_seen = λ a other l k. elim (old_or_new a l) [
          | inl b ↦ is other ∙ or_left (seen other) (S other) (found.in_seen a other b (old_line a other b k))
          | inr b ↦ is other ∙ or_right (seen other) (S other) (inside_of other (new_line a other b k))
        ];
        passed = λ other l k. is other ∙ elim (cases_lt (line_number h other) number) [
          | inl a ↦ or_left (seen other) (S other) (found.passed other l a)
          | inr a ↦ or_right (seen other) (S other) (ap S (line_here other l a k) ∙ grown.has.0)
        ];
        once = λ a b line la lb i j. elim (old_or_new a la) [
          | inl p ↦ elim (old_or_new b lb) [
            | inl q ↦ found.once a b line p q (old_line a line p i) (old_line b line q j)
            | inr q ↦ absurd (apart_from a b line p q i j)
          ]
          | inr p ↦ elim (old_or_new b lb) [
            | inl q ↦ absurd (apart_from b a line q p j i)
            | inr q ↦ omega arith
          ]
        ];
        ordered = λ a b l k. elim (old_or_new b k) [
          | inl q ↦
              let x = ap (first_number h) (part_prefix parts part a (omega arith)) in
              let y = ap (first_number h) (part_prefix parts part b q) in
              let o = found.ordered a b l q in omega arith
          | inr q ↦
              let p : a < length parts = omega arith in
              let x = ap (first_number h) (part_prefix parts part a p) in
              let y = ap (first_number h) (at_last b q) in
              let o = found.early a p in
              let f = first_is in omega arith
        ];
        early = λ a l. elim (old_or_new a l) [
          | inl p ↦ let x = ap (first_number h) (part_prefix parts part a p) in let o = found.early a p in omega arith
          | inr p ↦ let x = ap (first_number h) (at_last a p) in let f = first_is in omega arith
        ];
      }
        where
          old_or_new : (a : ℕ) → a < length (parts ++ part ∷ []) → (a < length parts) ⊎ (a ≡ length parts)
          old_or_new a l = let n = length-more parts part in elim (cases_lt a (length parts)) [
            | inl p ↦ inl p
            | inr p ↦ inr (omega arith)
          ]

          at_last : (a : ℕ) → a ≡ length parts → part_at (parts ++ part ∷ []) a ≡ part
          at_last a e = ap (part_at (parts ++ part ∷ [])) e ∙ part_last parts part

          each : (P : LineSet → Type 0) → ((a : ℕ) → a < length parts → P (part_at parts a)) → P part → (a : ℕ) → a < length (parts ++ part ∷ []) → P (part_at (parts ++ part ∷ []) a)
          each P old now a l = elim (old_or_new a l) [
            | inl p ↦ subst P (sym (part_prefix parts part a p)) (old a p)
            | inr p ↦ subst P (sym (at_last a p)) now
          ]

          old_line : (a : ℕ) (line : Line) → a < length parts → HasPartLine (parts ++ part ∷ []) a line → HasPartLine parts a line
          old_line a line p k = subst (λ q. HasLine q.rows q.columns line) (part_prefix parts part a p) k

          new_line : (a : ℕ) (line : Line) → a ≡ length parts → HasPartLine (parts ++ part ∷ []) a line → HasLine part.rows part.columns line
          new_line a line p k = subst (λ q. HasLine q.rows q.columns line) (at_last a p) k

          apart_from : (a b : ℕ) (line : Line) → a < length parts → b ≡ length parts → HasPartLine (parts ++ part ∷ []) a line → HasPartLine (parts ++ part ∷ []) b line → ⊥
          apart_from a b other p q i j = let k = new_line b other q j in false≢true (sym (unseen other (in_part other k) (inside_of other k)) ∙ found.in_seen a other p (old_line a other p i))

  pub found_all : (parts : List LineSet) (seen : Lines) (number : ℕ) → ArePartsFound m parts seen number → height m + m.width ≤ number → AreComponents m parts
  found_all parts seen number found full = record {
    row_sets = found.row_sets;
    column_sets = found.column_sets;
    components = found.components;
    all = λ line l. found.seen_in line l (found.passed line l (let a = number_in h m.width line l in omega arith));
    once = found.once;
    ordered = found.ordered;
  }

-- a line of a part found before adds none
pub found_passed : (m : Matrix) (number : ℕ) (found : FoundParts) → HasFound m number found → (line : Line) → IsLine (height m) m.width line
    → line_number (height m) line ≡ number → as_set found.lines line ≡ true → HasFound m (number + 1) found
found_passed m number found has line inside number_is here = record {
  size = has.size;
  are = found_passes m found.parts (as_set found.lines) number has.are line inside number_is here;
}
