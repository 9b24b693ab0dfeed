-- Linked rows lie on one side of an arc, and of three arcs of a path one is between the others.
use Rattle.std.proofs.Common.{ℕ, Bool, true, false, not, List, [], ◌∷◌, ◌≡◌, ◌≢◌, ◌∙◌, sym, ap, ◌⊎◌, inl, inr}
use Rattle.cmr_base.specs.Members.{IsIn}
use Rattle.cmr_base.specs.Splits.{AreJoined, LeadsTo, Splits}
use Rattle.cmr_base.specs.Cuts.{differ, HasCuts}
use Rattle.cmr_base.proofs.RowLists.{no_not, not_both, differ_false, differ_true}

near : (x x' y y' p q : Bool) → (x ≡ p) ⊎ (y ≡ q) → (x' ≡ p) ⊎ (y' ≡ q) → false ≡ differ x x' → true ≡ differ y y' → x ≡ p
near x x' y y' p q (inl e) m u v = e
near x x' y y' p q (inr e) (inl f) u v = differ_false x x' u ∙ f
near x x' y y' p q (inr e) (inr f) u v = absurd (no_not y (e ∙ sym f ∙ differ_true y y' v))

module _ (M : ℕ → ℕ → Bool) (S : List ℕ) (K : HasCuts M (λ r. IsIn r S)) where
  -- a column that uses j and not i lies on the side of i on which j lies
  pub beside : (i j c : ℕ) → IsIn i S → IsIn j S → i ≢ j → M i c ≡ false → M j c ≡ true → K.lies true i c ≡ K.side i j
  beside i j c hi hj n off one = near (K.lies true i c) (K.lies false i c) (K.lies true j c) (K.lies false j c) (K.side i j) (K.side j i)
      (K.cuts.meet true i j c hi hj n) (K.cuts.meet false i j c hi hj n) (sym off ∙ K.cuts.uses i c hi) (sym one ∙ K.cuts.uses j c hj)

  pub apart_rows : (i j c : ℕ) → M i c ≡ false → M j c ≡ true → i ≢ j
  apart_rows i j c off one e = not_both (M i c) (ap (λ (r : ℕ). M r c) e ∙ one) off

  pub joined_side : (i j k : ℕ) → IsIn i S → IsIn j S → IsIn k S → AreJoined M i j k → K.side i j ≡ K.side i k
  joined_side i j k hi hj hk (c, off, a, b) =
      sym (beside i j c hi hj (apart_rows i j c off a) off a) ∙ beside i k c hi hk (apart_rows i k c off b) off b

  pub linked_side : (i j k : ℕ) (rest : List ℕ) → IsIn i S → IsIn j S → LeadsTo M S i j rest k → K.side i j ≡ K.side i k
  linked_side i j k [] hi hj l = ap (K.side i) l
  linked_side i j k (x ∷ rest) hi hj (hx, join, l) = joined_side i j x hi hj hx join ∙ linked_side i x k rest hi hx l

  -- of two arcs that both separate the ends of column c, each determines the side of the other
  Order : ℕ → ℕ → ℕ → Type 0
  Order c r s = ((K.side r s ≡ K.lies true r c) × (K.side s r ≡ not (K.lies true s c))) ⊎ ((K.side r s ≡ not (K.lies true r c)) × (K.side s r ≡ K.lies true s c))

  order : (c r s : ℕ) → IsIn r S → IsIn s S → r ≢ s → M r c ≡ true → M s c ≡ true → Order c r s
  unfolding Order
  order c r s hr hs n a b = go (K.lies true r c) (K.lies false r c) (K.lies true s c) (K.lies false s c) (K.side r s) (K.side s r)
      (K.cuts.meet true r s c hr hs n) (K.cuts.meet false r s c hr hs n) (differ_true (K.lies true r c) (K.lies false r c) (sym a ∙ K.cuts.uses r c hr)) (differ_true (K.lies true s c) (K.lies false s c) (sym b ∙ K.cuts.uses s c hs))
    where
      go : (x x' y y' p q : Bool) → (x ≡ p) ⊎ (y ≡ q) → (x' ≡ p) ⊎ (y' ≡ q) → x' ≡ not x → y' ≡ not y → ((p ≡ x) × (q ≡ not y)) ⊎ ((p ≡ not x) × (q ≡ y))
      go x x' y y' p q (inl e) (inl f) u v = absurd (no_not x (e ∙ sym f ∙ u))
      go x x' y y' p q (inl e) (inr f) u v = inl (sym e, sym f ∙ v)
      go x x' y y' p q (inr e) (inl f) u v = inr (sym f ∙ u, sym e)
      go x x' y y' p q (inr e) (inr f) u v = absurd (no_not y (e ∙ sym f ∙ v))

  -- arc i has the other two on different sides
  abbrev Between : ℕ → ℕ → ℕ → Type 0
  Between i j k = K.side i j ≡ not (K.side i k)

  pub middle : (c r s t : ℕ) → IsIn r S → IsIn s S → IsIn t S → r ≢ s → r ≢ t → s ≢ t → M r c ≡ true → M s c ≡ true → M t c ≡ true
      → Between r s t ⊎ (Between s r t ⊎ Between t r s)
  unfolding Order
  middle c r s t hr hs ht rs rt st a b d = go (K.lies true r c) (K.lies true s c) (K.lies true t c) (K.side r s) (K.side s r) (K.side r t) (K.side t r) (K.side s t) (K.side t s)
      (order c r s hr hs rs a b) (order c r t hr ht rt a d) (order c s t hs ht st b d)
    where
      opposite : (x p q : Bool) → p ≡ x → q ≡ not x → p ≡ not q
      opposite true p q e f = e ∙ ap not (sym f)
      opposite false p q e f = e ∙ ap not (sym f)

      opposite' : (x p q : Bool) → p ≡ not x → q ≡ x → p ≡ not q
      opposite' x p q e f = e ∙ ap not (sym f)

      go : (x y z rs sr rt tr st ts : Bool)
          → ((rs ≡ x) × (sr ≡ not y)) ⊎ ((rs ≡ not x) × (sr ≡ y))
          → ((rt ≡ x) × (tr ≡ not z)) ⊎ ((rt ≡ not x) × (tr ≡ z))
          → ((st ≡ y) × (ts ≡ not z)) ⊎ ((st ≡ not y) × (ts ≡ z))
          → (rs ≡ not rt) ⊎ ((sr ≡ not st) ⊎ (tr ≡ not ts))
      go x y z rs sr rt tr st ts (inl a) (inr b) k = inl (opposite x rs rt a.0 b.0)
      go x y z rs sr rt tr st ts (inr a) (inl b) k = inl (opposite' x rs rt a.0 b.0)
      go x y z rs sr rt tr st ts (inl a) (inl b) (inl k) = inr (inl (opposite' y sr st a.1 k.0))
      go x y z rs sr rt tr st ts (inl a) (inl b) (inr k) = inr (inr (opposite' z tr ts b.1 k.1))
      go x y z rs sr rt tr st ts (inr a) (inr b) (inl k) = inr (inr (opposite z tr ts b.1 k.1))
      go x y z rs sr rt tr st ts (inr a) (inr b) (inr k) = inr (inl (opposite y sr st a.1 k.0))

  -- an arc between two others splits
  pub between_splits : (i j k : ℕ) → IsIn i S → IsIn j S → IsIn k S → j ≢ i → k ≢ i → Between i j k → Splits M S i
  between_splits i j k hi hj hk ji ki b = record {
    here = hi;
    one = j;
    two = k;
    one_in = hj;
    two_in = hk;
    one_other = ji;
    two_other = ki;
    apart = λ l. no_not (K.side i k) (sym (linked_side i j k l.0 hi hj l.1) ∙ b);
  }
