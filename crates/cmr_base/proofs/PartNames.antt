-- The rows except one have names for their parts.
use Rattle.std.proofs.Common.{ℕ, zero, suc, Bool, true, false, cond, List, [], ◌∷◌, ◌++◌, ◌≡◌, ◌<◌, ◌≤◌, ◌∙◌, sym, ap, refl, arith, subst, ◌⊎◌, inl, inr}
use Rattle.std.proofs.lemmas.Bool.{cases_lt}
use Rattle.cmr_base.specs.declared.network.Pair.{Pair}
use Rattle.cmr_base.specs.Members.{IsIn}
use Rattle.cmr_base.specs.Splits.{LeadsTo, AreLinked, IsNaming}
use Rattle.cmr_base.proofs.RowLists.{not_both}
use Rattle.cmr_base.proofs.ComponentLabels.{labels, labels_join, labels_only, HasPair, EveryPair}

has_left : (u v : ℕ) (ps qs : List Pair) → HasPair u v ps → HasPair u v (ps ++ qs)
has_left u v [] qs h = absurd h
has_left u v (p ∷ ps) qs (inl e) = inl e
has_left u v (p ∷ ps) qs (inr h) = inr (has_left u v ps qs h)

has_right : (u v : ℕ) (ps qs : List Pair) → HasPair u v qs → HasPair u v (ps ++ qs)
has_right u v [] qs h = h
has_right u v (p ∷ ps) qs h = inr (has_right u v ps qs h)

every_both : (E : ℕ → ℕ → Type 0) (ps qs : List Pair) → EveryPair E ps → EveryPair E qs → EveryPair E (ps ++ qs)
every_both E [] qs a b = b
every_both E (p ∷ ps) qs a b = (a.0, every_both E ps qs a.1 b)

module _ (M : ℕ → ℕ → Bool) (S : List ℕ) (i : ℕ) where
  -- row r with each row of a list that is 1 in column c
  pairs_with : ℕ → ℕ → List ℕ → List Pair
  pairs_with c r [] = []
  pairs_with c r (s ∷ T) = cond (M s c) (record { tail = r; head = s } ∷ pairs_with c r T) (pairs_with c r T)

  -- the pairs of rows that are 1 in column c; the first row of each pair is in a list
  pairs_in : ℕ → List ℕ → List Pair
  pairs_in c [] = []
  pairs_in c (r ∷ T) = cond (M r c) (pairs_with c r S ++ pairs_in c T) (pairs_in c T)

  -- the pairs of joined rows in the first columns
  pairs : ℕ → List Pair
  pairs zero = []
  pairs (suc c) = cond (M i c) (pairs c) (pairs_in c S ++ pairs c)

  pairs_with_has : (c r s : ℕ) (T : List ℕ) → IsIn s T → M s c ≡ true → HasPair r s (pairs_with c r T)
  unfolding pairs_with
  pairs_with_has c r s [] h e = absurd h
  pairs_with_has c r s (x ∷ T) h e = go (M x c) refl h (λ h. pairs_with_has c r s T h e)
    where
      go : (t : Bool) → M x c ≡ t → (s ≡ x) ⊎ IsIn s T → (IsIn s T → HasPair r s (pairs_with c r T)) → HasPair r s (cond t (record { tail = r; head = x } ∷ pairs_with c r T) (pairs_with c r T))
      go true f (inl a) k = inl (refl, a)
      go true f (inr a) k = inr (k a)
      go false f (inl a) k = absurd (not_both (M x c) (sym (ap (λ (z : ℕ). M z c) a) ∙ e) f)
      go false f (inr a) k = k a

  pairs_in_has : (c r s : ℕ) (T : List ℕ) → IsIn r T → IsIn s S → M r c ≡ true → M s c ≡ true → HasPair r s (pairs_in c T)
  unfolding pairs_in
  pairs_in_has c r s [] h hs d e = absurd h
  pairs_in_has c r s (x ∷ T) h hs d e = go (M x c) refl h (λ h. pairs_in_has c r s T h hs d e)
    where
      go : (t : Bool) → M x c ≡ t → (r ≡ x) ⊎ IsIn r T → (IsIn r T → HasPair r s (pairs_in c T)) → HasPair r s (cond t (pairs_with c x S ++ pairs_in c T) (pairs_in c T))
      go true f (inl a) k = has_left r s (pairs_with c x S) (pairs_in c T) (subst (λ (z : ℕ). HasPair r s (pairs_with c z S)) a (pairs_with_has c r s S hs e))
      go true f (inr a) k = has_right r s (pairs_with c x S) (pairs_in c T) (k a)
      go false f (inl a) k = absurd (not_both (M x c) (sym (ap (λ (z : ℕ). M z c) a) ∙ d) f)
      go false f (inr a) k = k a

  pairs_has : (n c r s : ℕ) → c < n → IsIn r S → IsIn s S → M i c ≡ false → M r c ≡ true → M s c ≡ true → HasPair r s (pairs n)
  unfolding pairs
  pairs_has zero c r s l hr hs o d e = absurd (omega arith)
  pairs_has (suc n) c r s l hr hs o d e = go (M i n) refl (cases_lt c n) (λ m. pairs_has n c r s m hr hs o d e)
    where
      go : (t : Bool) → M i n ≡ t → (c < n) ⊎ (n ≤ c) → (c < n → HasPair r s (pairs n)) → HasPair r s (cond t (pairs n) (pairs_in n S ++ pairs n))
      go true f (inl m) k = k m
      go true f (inr m) k = let q : c ≡ n = omega arith in absurd (not_both (M i n) f (sym (ap (M i) q) ∙ o))
      go false f (inl m) k = has_right r s (pairs_in n S) (pairs n) (k m)
      go false f (inr m) k = let q : n ≡ c = omega arith in
          has_left r s (pairs_in n S) (pairs n) (pairs_in_has n r s S hr hs (ap (M r) q ∙ d) (ap (M s) q ∙ e))

  -- rows j and k are linked in both directions
  Both : ℕ → ℕ → Type 0
  Both j k = AreLinked M S i j k × AreLinked M S i k j

  linked_trans : (j k l : ℕ) (rest : List ℕ) → LeadsTo M S i j rest k → AreLinked M S i k l → AreLinked M S i j l
  linked_trans j k l [] e m = subst (λ (z : ℕ). AreLinked M S i z l) (sym e) m
  linked_trans j k l (x ∷ rest) (hx, join, e) m = let r = linked_trans x k l rest e m in (x ∷ r.0, (hx, join, r.1))

  pairs_with_every : (c r : ℕ) (T : List ℕ) → M i c ≡ false → IsIn r S → M r c ≡ true → ((x : ℕ) → IsIn x T → IsIn x S) → EveryPair Both (pairs_with c r T)
  unfolding pairs_with Both
  pairs_with_every c r [] o hr d sub = tt
  pairs_with_every c r (x ∷ T) o hr d sub = go (M x c) refl (pairs_with_every c r T o hr d (λ y h. sub y (inr h)))
    where
      go : (t : Bool) → M x c ≡ t → EveryPair Both (pairs_with c r T) → EveryPair Both (cond t (record { tail = r; head = x } ∷ pairs_with c r T) (pairs_with c r T))
      go true f k = (((x ∷ [], (sub x (inl refl), (c, o, d, f), refl)), (r ∷ [], (hr, (c, o, f, d), refl))), k)
      go false f k = k

  pairs_in_every : (c : ℕ) (T : List ℕ) → M i c ≡ false → ((x : ℕ) → IsIn x T → IsIn x S) → EveryPair Both (pairs_in c T)
  unfolding pairs_in
  pairs_in_every c [] o sub = tt
  pairs_in_every c (x ∷ T) o sub = go (M x c) refl (pairs_in_every c T o (λ y h. sub y (inr h)))
    where
      go : (t : Bool) → M x c ≡ t → EveryPair Both (pairs_in c T) → EveryPair Both (cond t (pairs_with c x S ++ pairs_in c T) (pairs_in c T))
      go true f k = every_both Both (pairs_with c x S) (pairs_in c T) (pairs_with_every c x S o (sub x (inl refl)) f (λ y h. h)) k
      go false f k = k

  pairs_every : (n : ℕ) → EveryPair Both (pairs n)
  unfolding pairs
  pairs_every zero = tt
  pairs_every (suc n) = go (M i n) refl (pairs_every n)
    where
      go : (t : Bool) → M i n ≡ t → EveryPair Both (pairs n) → EveryPair Both (cond t (pairs n) (pairs_in n S ++ pairs n))
      go true f k = k
      go false f k = every_both Both (pairs_in n S) (pairs n) (pairs_in_every n S f (λ y h. h)) k

  labels_linked : (n : ℕ) → ((r c : ℕ) → M r c ≡ true → c < n) → (j k : ℕ) (rest : List ℕ) → IsIn j S → LeadsTo M S i j rest k → labels (λ x. x) (pairs n) j ≡ labels (λ x. x) (pairs n) k
  labels_linked n short j k [] hj e = ap (labels (λ x. x) (pairs n)) e
  labels_linked n short j k (x ∷ rest) hj (hx, (c, o, a, b), e) =
      labels_join (λ x. x) (pairs n) j x (pairs_has n c j x (short j c a) hj hx o a b) ∙ labels_linked n short x k rest hx e

  -- M is 0 from column n on
  pub rows_have_names : (n : ℕ) → ((r c : ℕ) → M r c ≡ true → c < n) → (part : ℕ → ℕ) × IsNaming M S i part
  unfolding Both
  rows_have_names n short = (
    labels (λ x. x) (pairs n),
    λ j k hj hk a b. (
      λ e. (labels_only Both (λ x y p. (p.1, p.0)) (λ x y z p q. (linked_trans x y z p.0.0 p.0.1 q.0, linked_trans z y x q.1.0 q.1.1 p.1))
          (λ x. x) (pairs n) (pairs_every n) (λ x y e. (([], e), ([], sym e))) j k e).0,
      λ l. labels_linked n short j k l.0 hj l.1,
    ),
  )
