-- The tree of all rows from the trees of row i with each part, hung at an end of arc i.
use Rattle.std.proofs.Common.{ℕ, Bool, true, false, not, cond, ◌≡◌, ◌≢◌, ◌∙◌, ◌&&◌, sym, ap, ap₂, refl, ◌⊎◌, inl, inr, Option, Some, None, is_some, unwrap_or}
use Rattle.graph_realise.specs.Merging as formula
use Rattle.graph_realise.specs.Merging.{Hanging}
use Rattle.cmr_base.specs.Cuts.{differ, IsCuts}
use Rattle.cmr_base.proofs.Booleans.{and_false}
use Rattle.cmr_base.proofs.RowLists.{not_both, bool_same, two_cases, same_or_not, is_eq, is_ne}
use Rattle.graph_realise.proofs.Booleans.{differ_same, differ_other, not_swap, swap, either, either_sym}
use Rattle.graph_realise.proofs.HungCuts.{IsHung}
use Rattle.cmr_base.proofs.CutTrees.{differ_self}

-- row r is in part p
abbrev pub InPart : (ℕ → Type 0) → ℕ → (ℕ → ℕ) → ℕ → ℕ → Type 0
InPart R i part p r = R r × (r ≢ i) × (part r ≡ p)

-- The properties of the parts: of two parts, one is above the other; each sees the lower parts on its side as points; each has
-- a column that uses i, if there is one; and each column without i touches one part.
pub record IsHanging (M : ℕ → ℕ → Bool) (i : ℕ) (R : ℕ → Type 0) (hanging : Hanging) : Type 0 where
  pub one_above : (p q : ℕ) → p ≢ q → hanging.above p q ≡ not (hanging.above q p)
  pub above_trans : (p q r : ℕ) → hanging.above p q ≡ true → hanging.above q r ≡ true → hanging.above p r ≡ true
  pub sees : (r s s' c c' : ℕ) → R r → r ≢ i → R s → s ≢ i → R s' → s' ≢ i → hanging.part r ≢ hanging.part s → hanging.part s ≡ hanging.part s'
      → hanging.half (hanging.part r) ≡ hanging.half (hanging.part s) → hanging.above (hanging.part r) (hanging.part s) ≡ true
      → M i c ≡ true → M s c ≡ true → M i c' ≡ true → M s' c' ≡ true → M r c ≡ M r c'
  pub column : (p c : ℕ) → hanging.common p ≡ Some c → (M i c ≡ true) × ((s : ℕ) × InPart R i hanging.part p s × (M s c ≡ true))
  pub no_column : (s c : ℕ) → R s → s ≢ i → hanging.common (hanging.part s) ≡ None → M i c ≡ true → M s c ≡ false
  pub touched : (r c : ℕ) → R r → r ≢ i → M i c ≡ false → M r c ≡ true → hanging.touched c ≡ Some (hanging.part r)

some_of : (o : Option ℕ) → is_some o ≡ true → o ≡ Some (unwrap_or o 0)
some_of None e = absurd (not_both false e refl)
some_of (Some c) e = refl

none_of : (o : Option ℕ) → is_some o ≡ false → o ≡ None
none_of None e = refl
none_of (Some c) e = absurd (not_both true refl e)

module _ (M : ℕ → ℕ → Bool) (i : ℕ) (R : ℕ → Type 0) (hanging : Hanging) (P : IsHanging M i R hanging)
    (side : ℕ → ℕ → Bool) (lies : Bool → ℕ → ℕ → Bool) (H : (p : ℕ) → IsHung M i (InPart R i hanging.part p) side lies) where
  abbrev part : ℕ → ℕ
  part = hanging.part

  abbrev half : ℕ → Bool
  half = hanging.half

  abbrev above : ℕ → ℕ → Bool
  above = hanging.above

  abbrev has : ℕ → Bool
  has q = is_some (hanging.common q)

  abbrev col : ℕ → ℕ
  col q = unwrap_or (hanging.common q) 0

  abbrev touches : ℕ → Bool
  touches c = is_some (hanging.touched c)

  abbrev at : ℕ → ℕ
  at c = unwrap_or (hanging.touched c) 0

  -- the side of arc i on which a column without i lies
  abbrev end_half : ℕ → Bool
  end_half c = formula.column_half M i hanging (hanging.touched c)

  abbrev spot : ℕ → ℕ → Bool
  spot = formula.spot M i hanging

  abbrev merged_side : ℕ → ℕ → Bool
  merged_side = formula.merged_side M i hanging side

  abbrev merged_lies : Bool → ℕ → ℕ → Bool
  merged_lies = formula.merged_lies M i hanging lies

  -- consequences of these properties
  column : (q : ℕ) → has q ≡ true → (M i (col q) ≡ true) × ((s : ℕ) × InPart R i part q s × (M s (col q) ≡ true))
  column q h = P.column q (col q) (some_of (hanging.common q) h)

  no_column : (s c : ℕ) → R s → s ≢ i → has (part s) ≡ false → M i c ≡ true → M s c ≡ false
  no_column s c hs ns h w = P.no_column s c hs ns (none_of (hanging.common (part s)) h) w

  touched : (r c : ℕ) → R r → r ≢ i → M i c ≡ false → M r c ≡ true → (touches c ≡ true) × (at c ≡ part r)
  touched r c hr nr w u = let e = P.touched r c hr nr w u in (ap is_some e, ap (λ (o : Option ℕ). unwrap_or o 0) e)

  -- values of the function spot
  spot_far : (r q : ℕ) → half (part r) ≡ not (half q) → spot r q ≡ false
  spot_far r q e = rw (differ_other (half (part r)) (half q) e) refl

  spot_below : (r q : ℕ) → above (part r) q ≡ false → spot r q ≡ false
  spot_below r q e = rw e (go (not (differ (half (part r)) (half q))) (formula.is_in_some (M r) (hanging.common q)))
    where
      go : (t u : Bool) → (t && false && u) ≡ false
      go true u = refl
      go false u = refl

  spot_none : (r q : ℕ) → has q ≡ false → spot r q ≡ false
  spot_none r q e = rw (none_of (hanging.common q) e) (and_false (not (differ (half (part r)) (half q)) && above (part r) q))

  spot_is : (r q : ℕ) → half (part r) ≡ half q → above (part r) q ≡ true → has q ≡ true → spot r q ≡ M r (col q)
  spot_is r q e a h = rw (differ_same (half (part r)) (half q) e, a) (go (hanging.common q) h)
    where
      go : (o : Option ℕ) → is_some o ≡ true → formula.is_in_some (M r) o ≡ M r (unwrap_or o 0)
      go None h = absurd (not_both false h refl)
      go (Some c) h = refl

  -- a true value of spot is the value at the part's column
  spot_true : (r q : ℕ) → spot r q ≡ true → (half (part r) ≡ half q) × (above (part r) q ≡ true) × (has q ≡ true) × (M r (col q) ≡ true)
  spot_true r q e = go (bool_same (half (part r)) (half q)) (two_cases (above (part r) q)) (two_cases (has q))
    where
      go : (half (part r) ≡ half q) ⊎ (half (part r) ≡ not (half q)) → (above (part r) q ≡ true) ⊎ (above (part r) q ≡ false) → (has q ≡ true) ⊎ (has q ≡ false)
          → (half (part r) ≡ half q) × (above (part r) q ≡ true) × (has q ≡ true) × (M r (col q) ≡ true)
      go (inr f) a h = absurd (not_both (spot r q) e (spot_far r q f))
      go (inl f) (inr a) h = absurd (not_both (spot r q) e (spot_below r q a))
      go (inl f) (inl a) (inr h) = absurd (not_both (spot r q) e (spot_none r q h))
      go (inl f) (inl a) (inl h) = (f, a, h, sym (spot_is r q f a h) ∙ e)

  -- of two parts, one does not see the other
  spot_two : (r s : ℕ) → part r ≢ part s → (spot r (part s) ≡ false) ⊎ (spot s (part r) ≡ false)
  spot_two r s n = go (two_cases (above (part r) (part s)))
    where
      go : (above (part r) (part s) ≡ true) ⊎ (above (part r) (part s) ≡ false) → (spot r (part s) ≡ false) ⊎ (spot s (part r) ≡ false)
      go (inl a) = inr (spot_below s (part r) (P.one_above (part s) (part r) (λ e. n (sym e)) ∙ ap not a))
      go (inr a) = inl (spot_below r (part s) a)

  first_end : (r c : ℕ) → R r → r ≢ i → M i c ≡ true → lies true r c ≡ M r c
  first_end r c h n w = plain (lies true r c) (lies false r c) ((H (part r)).cuts.uses r c (h, n, refl)) ((H (part r)).start r c (h, n, refl) w)
    where
      plain : (a b : Bool) → M r c ≡ differ a b → b ≡ false → a ≡ M r c
      plain true b u z = sym (u ∙ ap not z)
      plain false b u z = sym (u ∙ z)

  -- a column of W lies like a node of the part
  node_w : (r s c : ℕ) → R r → r ≢ i → R s → s ≢ i → part r ≡ part s → r ≢ s → M i c ≡ true → (M r c ≡ side r s) ⊎ (M s c ≡ side s r)
  node_w r s c hr nr hs ns e n w = go ((H (part s)).cuts.meet true r s c (hr, nr, e) (hs, ns, refl) n)
    where
      go : (lies true r c ≡ side r s) ⊎ (lies true s c ≡ side s r) → (M r c ≡ side r s) ⊎ (M s c ≡ side s r)
      go (inl a) = inl (sym (first_end r c hr nr w) ∙ a)
      go (inr a) = inr (sym (first_end s c hs ns w) ∙ a)

  root_flip : (r s : ℕ) → R r → r ≢ i → R s → s ≢ i → part r ≡ part s → r ≢ s → (false ≡ side r s) ⊎ (false ≡ side s r)
  root_flip r s hr nr hs ns e n = go ((H (part s)).root r s (hr, nr, e) (hs, ns, refl) n)
    where
      go : (side r s ≡ false) ⊎ (side s r ≡ false) → (false ≡ side r s) ⊎ (false ≡ side s r)
      go (inl a) = inl (sym a)
      go (inr a) = inr (sym a)

  -- the spots of another part are a node
  node_spot : (r s q : ℕ) → R r → r ≢ i → R s → s ≢ i → part r ≡ part s → r ≢ s → (spot r q ≡ side r s) ⊎ (spot s q ≡ side s r)
  node_spot r s q hr nr hs ns e n = go (bool_same (half (part r)) (half q)) (two_cases (above (part r) q)) (two_cases (has q))
    where
      both : spot r q ≡ false → spot s q ≡ false → (spot r q ≡ side r s) ⊎ (spot s q ≡ side s r)
      both a b = pick (root_flip r s hr nr hs ns e n)
        where
          pick : (false ≡ side r s) ⊎ (false ≡ side s r) → (spot r q ≡ side r s) ⊎ (spot s q ≡ side s r)
          pick (inl f) = inl (a ∙ f)
          pick (inr f) = inr (b ∙ f)

      go : (half (part r) ≡ half q) ⊎ (half (part r) ≡ not (half q)) → (above (part r) q ≡ true) ⊎ (above (part r) q ≡ false) → (has q ≡ true) ⊎ (has q ≡ false)
          → (spot r q ≡ side r s) ⊎ (spot s q ≡ side s r)
      go (inr f) a h = both (spot_far r q f) (spot_far s q (ap half (sym e) ∙ f))
      go (inl f) (inr a) h = both (spot_below r q a) (spot_below s q (ap (λ (z : ℕ). above z q) (sym e) ∙ a))
      go (inl f) (inl a) (inr h) = both (spot_none r q h) (spot_none s q h)
      go (inl f) (inl a) (inl h) = pick (node_w r s (col q) hr nr hs ns e n (column q h).0)
        where
          pick : (M r (col q) ≡ side r s) ⊎ (M s (col q) ≡ side s r) → (spot r q ≡ side r s) ⊎ (spot s q ≡ side s r)
          pick (inl k) = inl (spot_is r q f a h ∙ k)
          pick (inr k) = inr (spot_is s q (ap half (sym e) ∙ f) (ap (λ (z : ℕ). above z q) (sym e) ∙ a) h ∙ k)

  -- a column of W that uses part q is at the spot of q
  at_spot : (r s c : ℕ) → R r → r ≢ i → R s → s ≢ i → part r ≢ part s → half (part r) ≡ half (part s) → above (part r) (part s) ≡ true → M i c ≡ true → M s c ≡ true → M r c ≡ spot r (part s)
  at_spot r s c hr nr hs ns n f a w u = go (two_cases (has (part s)))
    where
      go : (has (part s) ≡ true) ⊎ (has (part s) ≡ false) → M r c ≡ spot r (part s)
      go (inr h) = absurd (not_both (M s c) u (no_column s c hs ns h w))
      go (inl h) = let k = column (part s) h in
          P.sees r s k.1.0 c (col (part s)) hr nr hs ns k.1.1.0 k.1.1.1 n (sym k.1.1.2) f a w u k.0 k.1.2 ∙ sym (spot_is r (part s) f a h)

  -- of two parts, a column of W lies on the side of one on which the other lies
  two_w : (r s c : ℕ) → R r → r ≢ i → R s → s ≢ i → part r ≢ part s → half (part r) ≡ half (part s) → M i c ≡ true → (M r c ≡ spot r (part s)) ⊎ (M s c ≡ spot s (part r))
  two_w r s c hr nr hs ns n f w = go (two_cases (above (part r) (part s))) (two_cases (M s c)) (two_cases (M r c))
    where
      go : (above (part r) (part s) ≡ true) ⊎ (above (part r) (part s) ≡ false) → (M s c ≡ true) ⊎ (M s c ≡ false) → (M r c ≡ true) ⊎ (M r c ≡ false)
          → (M r c ≡ spot r (part s)) ⊎ (M s c ≡ spot s (part r))
      go (inl a) (inl u) k = inl (at_spot r s c hr nr hs ns n f a w u)
      go (inl a) (inr u) k = inr (u ∙ sym (spot_below s (part r) (P.one_above (part s) (part r) (λ e. n (sym e)) ∙ ap not a)))
      go (inr a) u (inl k) = inr (at_spot s r c hs ns hr nr (λ e. n (sym e)) (sym f) (P.one_above (part s) (part r) (λ e. n (sym e)) ∙ ap not a) w k)
      go (inr a) u (inr k) = inl (k ∙ sym (spot_below r (part s) a))

  -- three parts
  three_spots : (r s q : ℕ) → R r → r ≢ i → R s → s ≢ i → part r ≢ part s → part r ≢ q → part s ≢ q → (spot r q ≡ spot r (part s)) ⊎ (spot s q ≡ spot s (part r))
  three_spots r s q hr nr hs ns n nq sq = go (two_cases (spot r q)) (two_cases (spot s q)) (two_cases (above (part r) (part s)))
    where
      under : (a b : ℕ) → part a ≢ part b → above (part a) (part b) ≡ true → spot b (part a) ≡ false
      under a b n k = spot_below b (part a) (P.one_above (part b) (part a) (λ e. n (sym e)) ∙ ap not k)

      -- the column of q uses the part of s, which r sees as a point
      through : (a b : ℕ) → R a → a ≢ i → R b → b ≢ i → part a ≢ part b → spot b q ≡ true → above (part a) (part b) ≡ true → (half (part a) ≡ half (part b)) ⊎ (half (part a) ≡ not (half (part b)))
          → (spot a q ≡ spot a (part b)) ⊎ (spot b q ≡ false)
      through a b ha na hb nb n e k (inr f) = inl (spot_far a q (f ∙ ap not (spot_true b q e).0) ∙ sym (spot_far a (part b) f))
      through a b ha na hb nb n e k (inl f) =
          let t = spot_true b q e in
          inl (spot_is a q (f ∙ t.0) (P.above_trans (part a) (part b) q k t.1) t.2 ∙ at_spot a b (col q) ha na hb nb n f k (column q t.2).0 t.3)

      turn : {x y : Bool} → (x ≡ y) ⊎ ⊥ → x ≡ y
      turn (inl a) = a
      turn (inr a) = absurd a

      go : (spot r q ≡ true) ⊎ (spot r q ≡ false) → (spot s q ≡ true) ⊎ (spot s q ≡ false) → (above (part r) (part s) ≡ true) ⊎ (above (part r) (part s) ≡ false)
          → (spot r q ≡ spot r (part s)) ⊎ (spot s q ≡ spot s (part r))
      go x (inr b) (inl k) = inr (b ∙ sym (under r s n k))
      go x (inl b) (inl k) = pick (through r s hr nr hs ns n b k (bool_same (half (part r)) (half (part s))))
        where
          pick : (spot r q ≡ spot r (part s)) ⊎ (spot s q ≡ false) → (spot r q ≡ spot r (part s)) ⊎ (spot s q ≡ spot s (part r))
          pick (inl a) = inl a
          pick (inr a) = absurd (not_both (spot s q) b a)
      go (inr a) y (inr k) = inl (a ∙ sym (spot_below r (part s) k))
      go (inl a) y (inr k) = pick (through s r hs ns hr nr (λ e. n (sym e)) a (P.one_above (part s) (part r) (λ e. n (sym e)) ∙ ap not k) (bool_same (half (part s)) (half (part r))))
        where
          pick : (spot s q ≡ spot s (part r)) ⊎ (spot r q ≡ false) → (spot r q ≡ spot r (part s)) ⊎ (spot s q ≡ spot s (part r))
          pick (inl a) = inr a
          pick (inr b) = absurd (not_both (spot r q) a b)

  -- values of the formula
  half_at : (c : ℕ) → touches c ≡ true → end_half c ≡ half (at c)
  half_at c t = rw (some_of (hanging.touched c) t) refl

  lies_arc : (e : Bool) (r c : ℕ) → r ≡ i → merged_lies e r c ≡ cond (M i c) e (end_half c)
  lies_arc e r c k = rw (is_eq r i k) refl

  lies_near : (e : Bool) (r c : ℕ) → r ≢ i → M i c ≡ true → e ≡ half (part r) → merged_lies e r c ≡ M r c
  lies_near e r c n w k = rw (is_ne r i n, w, differ_same e (half (part r)) k) refl

  lies_far : (e : Bool) (r c : ℕ) → r ≢ i → M i c ≡ true → e ≡ not (half (part r)) → merged_lies e r c ≡ false
  lies_far e r c n w k = rw (is_ne r i n, w, differ_other e (half (part r)) k) refl

  lies_own : (e : Bool) (r c : ℕ) → r ≢ i → M i c ≡ false → touches c ≡ true → part r ≡ at c → merged_lies e r c ≡ lies e r c
  lies_own e r c n w t k = rw (is_ne r i n, w) (go (hanging.touched c) t k)
    where
      go : (o : Option ℕ) → is_some o ≡ true → part r ≡ unwrap_or o 0 → formula.end_off M i hanging lies e r c o ≡ lies e r c
      go None t k = absurd (not_both false t refl)
      go (Some q) t k = rw (is_eq (part r) q k) refl

  lies_spot : (e : Bool) (r c : ℕ) → r ≢ i → M i c ≡ false → touches c ≡ true → part r ≢ at c → merged_lies e r c ≡ spot r (at c)
  lies_spot e r c n w t k = rw (is_ne r i n, w) (go (hanging.touched c) t k)
    where
      go : (o : Option ℕ) → is_some o ≡ true → part r ≢ unwrap_or o 0 → formula.end_off M i hanging lies e r c o ≡ spot r (unwrap_or o 0)
      go None t k = absurd (not_both false t refl)
      go (Some q) t k = rw (is_ne (part r) q k) refl

  lies_none : (e : Bool) (r c : ℕ) → r ≢ i → M i c ≡ false → touches c ≡ false → merged_lies e r c ≡ false
  lies_none e r c n w t = rw (is_ne r i n, w, none_of (hanging.touched c) t) refl

  side_arc : (r s : ℕ) → r ≡ i → merged_side r s ≡ half (part s)
  side_arc r s k = rw (is_eq r i k) refl

  side_to : (r s : ℕ) → r ≢ i → s ≡ i → merged_side r s ≡ false
  side_to r s n k = rw (is_ne r i n, is_eq s i k) refl

  side_same : (r s : ℕ) → r ≢ i → s ≢ i → part r ≡ part s → merged_side r s ≡ side r s
  side_same r s nr ns k = rw (is_ne r i nr, is_ne s i ns, is_eq (part r) (part s) k) refl

  side_two : (r s : ℕ) → r ≢ i → s ≢ i → part r ≢ part s → merged_side r s ≡ spot r (part s)
  side_two r s nr ns k = rw (is_ne r i nr, is_ne s i ns, is_ne (part r) (part s) k) refl

  meet_arc : (e : Bool) (s c : ℕ) → s ≢ i → (cond (M i c) e (end_half c) ≡ half (part s)) ⊎ (merged_lies e s c ≡ false)
  meet_arc e s c n = go (two_cases (M i c)) (two_cases (touches c)) (bool_same e (half (part s))) (same_or_not (part s) (at c)) (bool_same (half (part s)) (half (at c)))
    where
      go : (M i c ≡ true) ⊎ (M i c ≡ false) → (touches c ≡ true) ⊎ (touches c ≡ false) → (e ≡ half (part s)) ⊎ (e ≡ not (half (part s)))
          → (part s ≡ at c) ⊎ (part s ≢ at c) → (half (part s) ≡ half (at c)) ⊎ (half (part s) ≡ not (half (at c)))
          → (cond (M i c) e (end_half c) ≡ half (part s)) ⊎ (merged_lies e s c ≡ false)
      go (inl w) t (inl k) q d = inl (ap (λ (z : Bool). cond z e (end_half c)) w ∙ k)
      go (inl w) t (inr k) q d = inr (lies_far e s c n w k)
      go (inr w) (inr t) k q d = inr (lies_none e s c n w t)
      go (inr w) (inl t) k q (inl d) = inl (ap (λ (z : Bool). cond z e (end_half c)) w ∙ half_at c t ∙ sym d)
      go (inr w) (inl t) k (inl q) (inr d) = inl (ap (λ (z : Bool). cond z e (end_half c)) w ∙ half_at c t ∙ sym (ap half q))
      go (inr w) (inl t) k (inr q) (inr d) = inr (lies_spot e s c n w t q ∙ spot_far s (at c) d)

  meet_same : (e : Bool) (r s c : ℕ) → R r → r ≢ i → R s → s ≢ i → part r ≡ part s → r ≢ s → (merged_lies e r c ≡ side r s) ⊎ (merged_lies e s c ≡ side s r)
  meet_same e r s c hr nr hs ns k n = go (two_cases (M i c)) (two_cases (touches c)) (bool_same e (half (part s))) (same_or_not (part s) (at c))
    where
      go : (M i c ≡ true) ⊎ (M i c ≡ false) → (touches c ≡ true) ⊎ (touches c ≡ false) → (e ≡ half (part s)) ⊎ (e ≡ not (half (part s))) → (part s ≡ at c) ⊎ (part s ≢ at c)
          → (merged_lies e r c ≡ side r s) ⊎ (merged_lies e s c ≡ side s r)
      go (inl w) t (inl d) q = either (merged_lies e r c) (M r c) (side r s) (side r s) (merged_lies e s c) (M s c) (side s r) (side s r)
          (lies_near e r c nr w (d ∙ sym (ap half k))) refl (lies_near e s c ns w d) refl (node_w r s c hr nr hs ns k n w)
      go (inl w) t (inr d) q = either (merged_lies e r c) false (side r s) (side r s) (merged_lies e s c) false (side s r) (side s r)
          (lies_far e r c nr w (d ∙ ap not (sym (ap half k)))) refl (lies_far e s c ns w d) refl (root_flip r s hr nr hs ns k n)
      go (inr w) (inr t) d q = either (merged_lies e r c) false (side r s) (side r s) (merged_lies e s c) false (side s r) (side s r)
          (lies_none e r c nr w t) refl (lies_none e s c ns w t) refl (root_flip r s hr nr hs ns k n)
      go (inr w) (inl t) d (inl q) = either (merged_lies e r c) (lies e r c) (side r s) (side r s) (merged_lies e s c) (lies e s c) (side s r) (side s r)
          (lies_own e r c nr w t (k ∙ q)) refl (lies_own e s c ns w t q) refl ((H (part s)).cuts.meet e r s c (hr, nr, k) (hs, ns, refl) n)
      go (inr w) (inl t) d (inr q) = either (merged_lies e r c) (spot r (at c)) (side r s) (side r s) (merged_lies e s c) (spot s (at c)) (side s r) (side s r)
          (lies_spot e r c nr w t (λ z. q (sym k ∙ z))) refl (lies_spot e s c ns w t q) refl (node_spot r s (at c) hr nr hs ns k n)

  meet_two : (e : Bool) (r s c : ℕ) → R r → r ≢ i → R s → s ≢ i → part r ≢ part s → (merged_lies e r c ≡ spot r (part s)) ⊎ (merged_lies e s c ≡ spot s (part r))
  meet_two e r s c hr nr hs ns k = go (two_cases (M i c)) (two_cases (touches c)) (bool_same e (half (part s))) (bool_same (half (part r)) (half (part s))) (same_or_not (part s) (at c)) (same_or_not (part r) (at c))
    where
      go : (M i c ≡ true) ⊎ (M i c ≡ false) → (touches c ≡ true) ⊎ (touches c ≡ false) → (e ≡ half (part s)) ⊎ (e ≡ not (half (part s)))
          → (half (part r) ≡ half (part s)) ⊎ (half (part r) ≡ not (half (part s)))
          → (part s ≡ at c) ⊎ (part s ≢ at c) → (part r ≡ at c) ⊎ (part r ≢ at c) → (merged_lies e r c ≡ spot r (part s)) ⊎ (merged_lies e s c ≡ spot s (part r))
      go (inl w) t (inl d) (inl f) q p = either (merged_lies e r c) (M r c) (spot r (part s)) (spot r (part s)) (merged_lies e s c) (M s c) (spot s (part r)) (spot s (part r))
          (lies_near e r c nr w (d ∙ sym f)) refl (lies_near e s c ns w d) refl (two_w r s c hr nr hs ns k f w)
      go (inl w) t (inr d) (inl f) q p = either (merged_lies e r c) false (spot r (part s)) (spot r (part s)) (merged_lies e s c) false (spot s (part r)) (spot s (part r))
          (lies_far e r c nr w (d ∙ ap not (sym f))) refl (lies_far e s c ns w d) refl (either_sym (spot r (part s)) (spot s (part r)) (spot_two r s k))
      go (inl w) t (inl d) (inr f) q p = inl (lies_far e r c nr w (d ∙ not_swap (half (part r)) (half (part s)) f) ∙ sym (spot_far r (part s) f))
      go (inl w) t (inr d) (inr f) q p = inr (lies_far e s c ns w d ∙ sym (spot_far s (part r) (not_swap (half (part r)) (half (part s)) f)))
      go (inr w) (inr t) d f q p = either (merged_lies e r c) false (spot r (part s)) (spot r (part s)) (merged_lies e s c) false (spot s (part r)) (spot s (part r))
          (lies_none e r c nr w t) refl (lies_none e s c ns w t) refl (either_sym (spot r (part s)) (spot s (part r)) (spot_two r s k))
      go (inr w) (inl t) d f (inl q) p = inl (lies_spot e r c nr w t (λ z. k (z ∙ sym q)) ∙ ap (spot r) (sym q))
      go (inr w) (inl t) d f (inr q) (inl p) = inr (lies_spot e s c ns w t q ∙ ap (spot s) (sym p))
      go (inr w) (inl t) d f (inr q) (inr p) = either (merged_lies e r c) (spot r (at c)) (spot r (part s)) (spot r (part s)) (merged_lies e s c) (spot s (at c)) (spot s (part r)) (spot s (part r))
          (lies_spot e r c nr w t p) refl (lies_spot e s c ns w t q) refl (three_spots r s (at c) hr nr hs ns k p q)

  merged_meet : (e : Bool) (r s c : ℕ) → R r → R s → r ≢ s → (merged_lies e r c ≡ merged_side r s) ⊎ (merged_lies e s c ≡ merged_side s r)
  merged_meet e r s c hr hs n = go (same_or_not r i) (same_or_not s i) (same_or_not (part r) (part s))
    where
      go : (r ≡ i) ⊎ (r ≢ i) → (s ≡ i) ⊎ (s ≢ i) → (part r ≡ part s) ⊎ (part r ≢ part s) → (merged_lies e r c ≡ merged_side r s) ⊎ (merged_lies e s c ≡ merged_side s r)
      go (inl a) (inl b) k = absurd (n (a ∙ sym b))
      go (inl a) (inr b) k = either (merged_lies e r c) (cond (M i c) e (end_half c)) (merged_side r s) (half (part s)) (merged_lies e s c) (merged_lies e s c) (merged_side s r) false
          (lies_arc e r c a) (side_arc r s a) refl (side_to s r b a) (meet_arc e s c b)
      go (inr a) (inl b) k = swap (either (merged_lies e s c) (cond (M i c) e (end_half c)) (merged_side s r) (half (part r)) (merged_lies e r c) (merged_lies e r c) (merged_side r s) false
          (lies_arc e s c b) (side_arc s r b) refl (side_to r s a b) (meet_arc e r c a))
      go (inr a) (inr b) (inl k) = either (merged_lies e r c) (merged_lies e r c) (merged_side r s) (side r s) (merged_lies e s c) (merged_lies e s c) (merged_side s r) (side s r)
          refl (side_same r s a b k) refl (side_same s r b a (sym k)) (meet_same e r s c hr a hs b k n)
      go (inr a) (inr b) (inr k) = either (merged_lies e r c) (merged_lies e r c) (merged_side r s) (spot r (part s)) (merged_lies e s c) (merged_lies e s c) (merged_side s r) (spot s (part r))
          refl (side_two r s a b k) refl (side_two s r b a (λ z. k (sym z))) (meet_two e r s c hr a hs b k)

  merged_uses : (r c : ℕ) → R r → M r c ≡ differ (merged_lies true r c) (merged_lies false r c)
  merged_uses r c hr = go (same_or_not r i) (two_cases (M i c)) (two_cases (touches c)) (same_or_not (part r) (at c)) (two_cases (M r c)) (two_cases (half (part r)))
    where
      join : (a b : Bool) → merged_lies true r c ≡ a → merged_lies false r c ≡ b → M r c ≡ differ a b → M r c ≡ differ (merged_lies true r c) (merged_lies false r c)
      join a b p q e = e ∙ sym (ap₂ differ p q)

      right : (x : Bool) → x ≡ differ x false
      right true = refl
      right false = refl

      go : (r ≡ i) ⊎ (r ≢ i) → (M i c ≡ true) ⊎ (M i c ≡ false) → (touches c ≡ true) ⊎ (touches c ≡ false) → (part r ≡ at c) ⊎ (part r ≢ at c)
          → (M r c ≡ true) ⊎ (M r c ≡ false) → (half (part r) ≡ true) ⊎ (half (part r) ≡ false)
          → M r c ≡ differ (merged_lies true r c) (merged_lies false r c)
      go (inl a) w t q u d = join (cond (M i c) true (end_half c)) (cond (M i c) false (end_half c)) (lies_arc true r c a) (lies_arc false r c a)
          (ap (λ (z : ℕ). M z c) a ∙ plain (M i c) (end_half c))
        where
          plain : (m x : Bool) → m ≡ differ (cond m true x) (cond m false x)
          plain true x = refl
          plain false x = sym (differ_self x)
      go (inr a) (inl w) t q u (inl d) = join (M r c) false (lies_near true r c a w (sym d)) (lies_far false r c a w (ap not (sym d))) (right (M r c))
      go (inr a) (inl w) t q u (inr d) = join false (M r c) (lies_far true r c a w (ap not (sym d))) (lies_near false r c a w (sym d)) refl
      go (inr a) (inr w) (inr t) q (inl u) d = absurd (not_both (touches c) (touched r c hr a w u).0 t)
      go (inr a) (inr w) (inr t) q (inr u) d = join false false (lies_none true r c a w t) (lies_none false r c a w t) u
      go (inr a) (inr w) (inl t) (inl q) u d = join (lies true r c) (lies false r c) (lies_own true r c a w t q) (lies_own false r c a w t q) ((H (part r)).cuts.uses r c (hr, a, refl))
      go (inr a) (inr w) (inl t) (inr q) (inl u) d = absurd (q (sym (touched r c hr a w u).1))
      go (inr a) (inr w) (inl t) (inr q) (inr u) d = join (spot r (at c)) (spot r (at c)) (lies_spot true r c a w t q) (lies_spot false r c a w t q) (u ∙ sym (differ_self (spot r (at c))))

  three_arc : (s t : ℕ) → s ≢ i → t ≢ i → (half (part t) ≡ half (part s)) ⊎ (merged_side s t ≡ false)
  three_arc s t ns nt = go (same_or_not (part s) (part t)) (bool_same (half (part s)) (half (part t)))
    where
      go : (part s ≡ part t) ⊎ (part s ≢ part t) → (half (part s) ≡ half (part t)) ⊎ (half (part s) ≡ not (half (part t))) → (half (part t) ≡ half (part s)) ⊎ (merged_side s t ≡ false)
      go (inl k) d = inl (ap half (sym k))
      go (inr k) (inl d) = inl (sym d)
      go (inr k) (inr d) = inr (side_two s t ns nt k ∙ spot_far s (part t) d)

  three_root : (r s : ℕ) → R r → r ≢ i → R s → s ≢ i → r ≢ s → (false ≡ merged_side r s) ⊎ (false ≡ merged_side s r)
  three_root r s hr nr hs ns n = go (same_or_not (part r) (part s))
    where
      go : (part r ≡ part s) ⊎ (part r ≢ part s) → (false ≡ merged_side r s) ⊎ (false ≡ merged_side s r)
      go (inl k) = either false false (merged_side r s) (side r s) false false (merged_side s r) (side s r) refl (side_same r s nr ns k) refl (side_same s r ns nr (sym k)) (root_flip r s hr nr hs ns k n)
      go (inr k) = either false false (merged_side r s) (spot r (part s)) false false (merged_side s r) (spot s (part r)) refl (side_two r s nr ns k) refl (side_two s r ns nr (λ z. k (sym z)))
          (either_sym (spot r (part s)) (spot s (part r)) (spot_two r s k))

  three_other : (r s t : ℕ) → R r → r ≢ i → R s → s ≢ i → R t → t ≢ i → r ≢ s → r ≢ t → s ≢ t → (merged_side r t ≡ merged_side r s) ⊎ (merged_side s t ≡ merged_side s r)
  three_other r s t hr nr hs ns ht nt rs rt st = go (same_or_not (part r) (part s)) (same_or_not (part t) (part s)) (same_or_not (part t) (part r))
    where
      go : (part r ≡ part s) ⊎ (part r ≢ part s) → (part t ≡ part s) ⊎ (part t ≢ part s) → (part t ≡ part r) ⊎ (part t ≢ part r)
          → (merged_side r t ≡ merged_side r s) ⊎ (merged_side s t ≡ merged_side s r)
      go (inl k) (inl q) p = either (merged_side r t) (side r t) (merged_side r s) (side r s) (merged_side s t) (side s t) (merged_side s r) (side s r)
          (side_same r t nr nt (k ∙ sym q)) (side_same r s nr ns k) (side_same s t ns nt (sym q)) (side_same s r ns nr (sym k)) ((H (part s)).cuts.three r s t (hr, nr, k) (hs, ns, refl) (ht, nt, q) rs rt st)
      go (inl k) (inr q) p = either (merged_side r t) (spot r (part t)) (merged_side r s) (side r s) (merged_side s t) (spot s (part t)) (merged_side s r) (side s r)
          (side_two r t nr nt (λ z. q (sym z ∙ k))) (side_same r s nr ns k) (side_two s t ns nt (λ z. q (sym z))) (side_same s r ns nr (sym k)) (node_spot r s (part t) hr nr hs ns k rs)
      go (inr k) (inl q) p = inl (side_two r t nr nt (λ z. k (z ∙ q)) ∙ ap (spot r) q ∙ sym (side_two r s nr ns k))
      go (inr k) (inr q) (inl p) = inr (side_two s t ns nt (λ z. q (sym z)) ∙ ap (spot s) p ∙ sym (side_two s r ns nr (λ z. k (sym z))))
      go (inr k) (inr q) (inr p) = either (merged_side r t) (spot r (part t)) (merged_side r s) (spot r (part s)) (merged_side s t) (spot s (part t)) (merged_side s r) (spot s (part r))
          (side_two r t nr nt (λ z. p (sym z))) (side_two r s nr ns k) (side_two s t ns nt (λ z. q (sym z))) (side_two s r ns nr (λ z. k (sym z)))
          (three_spots r s (part t) hr nr hs ns k (λ z. p (sym z)) (λ z. q (sym z)))

  merged_three : (r s t : ℕ) → R r → R s → R t → r ≢ s → r ≢ t → s ≢ t → (merged_side r t ≡ merged_side r s) ⊎ (merged_side s t ≡ merged_side s r)
  merged_three r s t hr hs ht rs rt st = go (same_or_not r i) (same_or_not s i) (same_or_not t i)
    where
      go : (r ≡ i) ⊎ (r ≢ i) → (s ≡ i) ⊎ (s ≢ i) → (t ≡ i) ⊎ (t ≢ i) → (merged_side r t ≡ merged_side r s) ⊎ (merged_side s t ≡ merged_side s r)
      go (inl a) (inl b) d = absurd (rs (a ∙ sym b))
      go (inl a) (inr b) (inl d) = absurd (rt (a ∙ sym d))
      go (inr a) (inl b) (inl d) = absurd (st (b ∙ sym d))
      go (inl a) (inr b) (inr d) = either (merged_side r t) (half (part t)) (merged_side r s) (half (part s)) (merged_side s t) (merged_side s t) (merged_side s r) false
          (side_arc r t a) (side_arc r s a) refl (side_to s r b a) (three_arc s t b d)
      go (inr a) (inl b) (inr d) = swap (either (merged_side s t) (half (part t)) (merged_side s r) (half (part r)) (merged_side r t) (merged_side r t) (merged_side r s) false
          (side_arc s t b) (side_arc s r b) refl (side_to r s a b) (three_arc r t a d))
      go (inr a) (inr b) (inl d) = either (merged_side r t) false (merged_side r s) (merged_side r s) (merged_side s t) false (merged_side s r) (merged_side s r)
          (side_to r t a d) refl (side_to s t b d) refl (three_root r s hr a hs b rs)
      go (inr a) (inr b) (inr d) = three_other r s t hr a hs b ht d rs rt st

  -- the tree of all rows
  pub merged_is : IsCuts M R (formula.merged_side M i hanging side) (formula.merged_lies M i hanging lies)
  merged_is = record { meet = merged_meet; three = merged_three; uses = merged_uses }
