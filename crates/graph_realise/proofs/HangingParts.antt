-- Parts with sides, weights, common columns and the parts of columns hang together.
use Rattle.std.proofs.Common.{ℕ, Bool, true, false, not, List, [], ◌≡◌, ◌≢◌, ◌<◌, ◌≤◌, ◌∙◌, sym, ap, refl, arith, subst, ◌⊎◌, inl, inr, Option, Some, None, nat_eq, nat_lt, MatchOption, ◌==◌, ◌||◌, ◌&&◌, slice_index_or, length}
use Rattle.std.proofs.lemmas.Bool.{cases_lt}
use Rattle.std.proofs.lemmas.Bool.Decides.{nat_tests}
use Rattle.std.proofs.lemmas.List.{get_or_past}
use Rattle.cmr_base.specs.Members.{IsIn}
use Rattle.cmr_base.specs.Splits.{IsCommon, IsUncut, Agree, AreParts, AreSides, part_rows}
use Rattle.cmr_base.proofs.Booleans.{false_is, lt_of, is_lt}
use Rattle.cmr_base.proofs.RowLists.{not_both, eq_of, is_eq}
use Rattle.graph_realise.specs.Merging.{IsWeight, DescribesParts, heavier, hanging_by}
use Rattle.graph_realise.proofs.PartRows.{in_part, part_in}
use Rattle.graph_realise.proofs.PartLists.{uncut_same, to_list, from_list, sides_agree}
use Rattle.graph_realise.proofs.Weights.{heavier_sees}
use Rattle.graph_realise.proofs.MergedCuts.{IsHanging}

-- ---- heavier is an order

-- the weight is less, or equal with a lower number
abbrev IsLess : (ℕ → ℕ) → ℕ → ℕ → Type 0
IsLess weight q p = (weight q < weight p) ⊎ ((weight q ≡ weight p) × (q < p))

module _ (weight : ℕ → ℕ) where
  heavier_less : (p q : ℕ) → heavier weight p q ≡ true → IsLess weight q p
  heavier_less p q e = go (nat_lt (weight q) (weight p)) (nat_eq (weight q) (weight p)) refl refl e
    where
      go : (s t : Bool) → nat_lt (weight q) (weight p) ≡ s → nat_eq (weight q) (weight p) ≡ t → (s || t && nat_lt q p) ≡ true → IsLess weight q p
      go true t a b e = inl (lt_of (weight q) (weight p) a)
      go false true a b e = inr (eq_of (weight q) (weight p) b, lt_of q p e)
      go false false a b e = absurd (not_both false e refl)

  less_heavier : (p q : ℕ) → IsLess weight q p → heavier weight p q ≡ true
  less_heavier p q (inl l) = ap (λ (t : Bool). t || weight q == weight p && nat_lt q p) (is_lt (weight q) (weight p) l)
  less_heavier p q (inr (e, l)) = go (nat_lt (weight q) (weight p)) (nat_eq (weight q) (weight p)) (is_eq (weight q) (weight p) e) (is_lt q p l)
    where
      go : (s t : Bool) → t ≡ true → nat_lt q p ≡ true → (s || t && nat_lt q p) ≡ true
      go true t e l = refl
      go false true e l = l
      go false false e l = absurd (not_both false e refl)

  one_less : (p q : ℕ) → p ≢ q → IsLess weight q p ⊎ IsLess weight p q
  one_less p q n = go (cases_lt (weight q) (weight p)) (cases_lt (weight p) (weight q)) (cases_lt q p)
    where
      below : (p q : ℕ) → p ≢ q → p ≤ q → p < q
      below p q n l = grind (arith, nat_tests)

      go : (weight q < weight p) ⊎ (weight p ≤ weight q) → (weight p < weight q) ⊎ (weight q ≤ weight p) → (q < p) ⊎ (p ≤ q) → IsLess weight q p ⊎ IsLess weight p q
      go (inl a) b c = inl (inl a)
      go (inr a) (inl b) c = inr (inl b)
      go (inr a) (inr b) (inl c) = inl (inr (omega arith, c))
      go (inr a) (inr b) (inr c) = inr (inr (omega arith, below p q n c))

  not_less : (p q : ℕ) → IsLess weight q p → IsLess weight p q → ⊥
  not_less p q (inl a) (inl b) = absurd (omega arith)
  not_less p q (inl a) (inr b) = let c = b.0 in absurd (omega arith)
  not_less p q (inr a) (inl b) = let c = a.0 in absurd (omega arith)
  not_less p q (inr a) (inr b) = let c = a.1 in let d = b.1 in absurd (omega arith)

  pub heavier_one : (p q : ℕ) → p ≢ q → heavier weight p q ≡ not (heavier weight q p)
  heavier_one p q n = go (one_less p q n)
    where
      lighter : (p q : ℕ) → IsLess weight q p → heavier weight q p ≡ false
      lighter p q h = false_is (heavier weight q p) (λ e. not_less p q h (heavier_less q p e))

      go : IsLess weight q p ⊎ IsLess weight p q → heavier weight p q ≡ not (heavier weight q p)
      go (inl h) = less_heavier p q h ∙ ap not (sym (lighter p q h))
      go (inr h) = lighter q p h ∙ ap not (sym (less_heavier q p h))

  pub heavier_trans : (p q r : ℕ) → heavier weight p q ≡ true → heavier weight q r ≡ true → heavier weight p r ≡ true
  heavier_trans p q r a b = less_heavier p r (go (heavier_less p q a) (heavier_less q r b))
    where
      go : IsLess weight q p → IsLess weight r q → IsLess weight r p
      go (inl x) (inl y) = inl (omega arith)
      go (inl x) (inr y) = let z = y.0 in inl (omega arith)
      go (inr x) (inl y) = let z = x.0 in inl (omega arith)
      go (inr x) (inr y) = let z = x.0 in let u = y.0 in let v = x.1 in let w = y.1 in inr (omega arith, omega arith)

  pub heavier_weight : (p q : ℕ) → heavier weight p q ≡ true → weight q ≤ weight p
  heavier_weight p q e = go (heavier_less p q e)
    where
      go : IsLess weight q p → weight q ≤ weight p
      go (inl a) = omega arith
      go (inr a) = let b = a.0 in omega arith

-- ---- parts by their names

module _ (M : ℕ → ℕ → Bool) (n : ℕ) (short : (r c : ℕ) → M r c ≡ true → c < n) (S : List ℕ) (i : ℕ) (part : ℕ → ℕ) (half : ℕ → Bool)
    (agree : (j k : ℕ) → IsIn j S → IsIn k S → j ≢ i → k ≢ i → part j ≢ part k → half (part j) ≡ half (part k) → Agree M i (part_rows part i (part j) S) (part_rows part i (part k) S))
    (weight : ℕ → ℕ) (weighs : (r : ℕ) → IsIn r S → r ≢ i → IsWeight M n i (part_rows part i (part r) S) (weight (part r)))
    (common : ℕ → Option ℕ) (column : (p c : ℕ) → common p ≡ Some c → IsCommon M i (part_rows part i p S) c)
    (no_column : (s c : ℕ) → IsIn s S → s ≢ i → common (part s) ≡ None → M i c ≡ true → M s c ≡ false)
    (touched : ℕ → Option ℕ) (touches : (r c : ℕ) → IsIn r S → r ≢ i → M i c ≡ false → M r c ≡ true → touched c ≡ Some (part r)) where
  sees : (r s s' c c' : ℕ) → IsIn r S → r ≢ i → IsIn s S → s ≢ i → IsIn s' S → s' ≢ i → part r ≢ part s → part s ≡ part s' → half (part r) ≡ half (part s) → heavier weight (part r) (part s) ≡ true
      → M i c ≡ true → M s c ≡ true → M i c' ≡ true → M s' c' ≡ true → M r c ≡ M r c'
  sees r s s' c c' hr nr hs ns hs' ns' ne e f a w u w' u' = go
      (heavier_sees M n short i (part_rows part i (part r) S) (part_rows part i (part s) S) (weight (part r)) (weight (part s)) (weighs r hr nr) (weighs s hs ns) (agree r s hr hs nr ns ne f)
      (heavier_weight weight (part r) (part s) a) r (part_in part i (part r) r S hr nr refl))
    where
      one : IsCommon M i (part_rows part i (part s) S) c
      one = (w, (s, part_in part i (part s) s S hs ns refl, u))

      two : IsCommon M i (part_rows part i (part s) S) c'
      two = (w', (s', part_in part i (part s) s' S hs' ns' (sym e), u'))

      go : IsUncut M i (part_rows part i (part s) S) r → M r c ≡ M r c'
      go (inl all) = all c one ∙ sym (all c' two)
      go (inr all) = all c one ∙ sym (all c' two)

  pub names_hang : IsHanging M i (λ r. IsIn r S) (record { part = part; half = half; above = heavier weight; common = common; touched = touched })
  names_hang = record {
    one_above = heavier_one weight;
    above_trans = heavier_trans weight;
    sees = sees;
    column = λ p c e. let u = column p c e in (u.0, (u.1.0, in_part part i p u.1.0 S u.1.1, u.1.2));
    no_column = no_column;
    touched = touches;
  }

-- ---- parts as lists

common_same : (M : ℕ → ℕ → Bool) (i : ℕ) (A B : List ℕ) → ((x : ℕ) → IsIn x A → IsIn x B) → (c : ℕ) → IsCommon M i A c → IsCommon M i B c
common_same M i A B f c (w, (k, hk, e)) = (w, (k, f k hk, e))

weight_same : (M : ℕ → ℕ → Bool) (n i : ℕ) (A B : List ℕ) (w : ℕ) → ((x : ℕ) → IsIn x A → IsIn x B) → ((x : ℕ) → IsIn x B → IsIn x A) → IsWeight M n i A w → IsWeight M n i B w
weight_same M n i A B w f g h = record {
  common = h.common;
  exact = λ c l. (λ e. common_same M i A B f c ((h.exact c l).0 e), λ u. (h.exact c l).1 (common_same M i B A g c u));
  whole = h.whole;
  uncut = (λ e. uncut_same M i A A B B g g (h.uncut.0 e), λ u. h.uncut.1 (uncut_same M i B B A A f f u));
  value = h.value;
}

module _ (M : ℕ → ℕ → Bool) (n : ℕ) (short : (r c : ℕ) → M r c ≡ true → c < n) (S : List ℕ) (i : ℕ) (parts : List (List ℕ)) (all : AreParts M S i parts)
    (sides : List ℕ) (fit : AreSides M i parts sides) (part weight : ℕ → ℕ) (common touched : ℕ → Option ℕ) (D : DescribesParts M n S i parts part weight common touched) where
  -- a list that contains a row is one of the parts
  is_part : (a k : ℕ) → IsIn k (slice_index_or parts a []) → a < length parts
  is_part a k h = go (cases_lt a (length parts))
    where
      go : (a < length parts) ⊎ (length parts ≤ a) → a < length parts
      go (inl l) = l
      go (inr l) = absurd (subst (IsIn k) (get_or_past parts a [] l) h)

  shared_some : (p c : ℕ) → common p ≡ Some c → IsCommon M i (slice_index_or parts p []) c
  shared_some p c e = subst (λ (o : Option ℕ). MatchOption o ((c : ℕ) → ¬ (IsCommon M i (slice_index_or parts p []) c)) (IsCommon M i (slice_index_or parts p []))) e (D.shared p)

  shared_none : (p c : ℕ) → common p ≡ None → ¬ (IsCommon M i (slice_index_or parts p []) c)
  shared_none p c e = subst (λ (o : Option ℕ). MatchOption o ((c : ℕ) → ¬ (IsCommon M i (slice_index_or parts p []) c)) (IsCommon M i (slice_index_or parts p []))) e (D.shared p) c

  pub lists_hang : IsHanging M i (λ r. IsIn r S) (hanging_by sides part weight common touched)
  lists_hang = names_hang M n short S i part (λ p. slice_index_or sides p 0 == 1)
      (sides_agree M S i parts all part D.numbers sides fit)
      weight (λ r hr nr. let l = (D.numbers r hr nr).0 in weight_same M n i (slice_index_or parts (part r) []) (part_rows part i (part r) S) (weight (part r))
      (λ x h. from_list M S i parts all part D.numbers (part r) x l h) (λ x h. to_list M S i parts all part D.numbers (part r) x h) (D.weights (part r) l))
      common (λ p c e. let u = shared_some p c e in common_same M i (slice_index_or parts p []) (part_rows part i p S) (λ x h. from_list M S i parts all part D.numbers p x (is_part p x h) h) c u)
      no_column touched D.columns
    where
      no_column : (s c : ℕ) → IsIn s S → s ≢ i → common (part s) ≡ None → M i c ≡ true → M s c ≡ false
      no_column s c hs ns e w = false_is (M s c) (λ u. shared_none (part s) c e (w, (s, (D.numbers s hs ns).1, u)))
