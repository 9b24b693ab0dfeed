-- Of two parts that agree, the heavier part does not cut the other's common columns.
use Rattle.std.proofs.Common.{ℕ, Bool, true, false, not, cond, List, [], ◌∷◌, ◌≡◌, ◌<◌, ◌≤◌, ◌+◌, ◌↔◌, ◌∙◌, sym, ap, refl, arith, subst, ◌⊎◌, inl, inr, count_by}
use Rattle.std.proofs.lemmas.List.Sums.{sum_by-cons}
use Rattle.cmr_base.specs.Members.{IsIn}
use Rattle.cmr_base.specs.LineSets.{first_lines}
use Rattle.cmr_base.specs.Splits.{IsCommon, IsUncut, IsUncutBy, Agree}
use Rattle.cmr_base.proofs.Booleans.{false_is}
use Rattle.cmr_base.proofs.RemovedLines.{in_first_lines, first_lines_in}
use Rattle.cmr_base.proofs.RowLists.{not_both, two_cases, bool_same, search_rows, search_in}
use Rattle.graph_realise.specs.Merging.{IsWeight}

count_cons : (f : ℕ → Bool) (y : ℕ) (ys : List ℕ) → count_by f (y ∷ ys) ≡ cond (f y) 1 0 + count_by f ys
count_cons f y ys = sum_by-cons (λ x. cond (f x) 1 0) y ys

-- numbers of a list that pass one test pass another
pub count_le : (f g : ℕ → Bool) (xs : List ℕ) → ((x : ℕ) → IsIn x xs → f x ≡ true → g x ≡ true) → count_by f xs ≤ count_by g xs
count_le f g [] h = omega arith
count_le f g (y ∷ ys) h = subst (λ (a : ℕ). a ≤ count_by g (y ∷ ys)) (sym (count_cons f y ys)) (subst (λ (b : ℕ). cond (f y) 1 0 + count_by f ys ≤ b) (sym (count_cons g y ys))
    (go (f y) (g y) refl refl (count_le f g ys (λ x k e. h x (inr k) e))))
  where
    go : (s t : Bool) → f y ≡ s → g y ≡ t → count_by f ys ≤ count_by g ys → cond s 1 0 + count_by f ys ≤ cond t 1 0 + count_by g ys
    go true true a b l = omega arith
    go true false a b l = absurd (not_both (g y) (h y (inl refl) a) b)
    go false true a b l = omega arith
    go false false a b l = omega arith

-- if the counts are equal, the same numbers pass both tests
pub count_same : (f g : ℕ → Bool) (xs : List ℕ) → ((x : ℕ) → IsIn x xs → f x ≡ true → g x ≡ true) → count_by g xs ≤ count_by f xs → (x : ℕ) → IsIn x xs → g x ≡ true → f x ≡ true
count_same f g [] h k x m e = absurd m
count_same f g (y ∷ ys) h k x m e = go (f y) (g y) refl refl
    (subst (λ (a : ℕ). a ≤ cond (f y) 1 0 + count_by f ys) (count_cons g y ys) (subst (λ (b : ℕ). count_by g (y ∷ ys) ≤ b) (count_cons f y ys) k)) m (count_le f g ys (λ x k e. h x (inr k) e)) (λ l i. count_same f g ys (λ x k e. h x (inr k) e) l x i e)
  where
    go : (s t : Bool) → f y ≡ s → g y ≡ t → cond t 1 0 + count_by g ys ≤ cond s 1 0 + count_by f ys → (x ≡ y) ⊎ IsIn x ys → count_by f ys ≤ count_by g ys
        → (count_by g ys ≤ count_by f ys → IsIn x ys → f x ≡ true) → f x ≡ true
    go true t a b k (inl q) w r = ap f q ∙ a
    go true true a b k (inr i) w r = r (omega arith) i
    go true false a b k (inr i) w r = absurd (not_both (g y) (h y (inl refl) a) b)
    go false true a b k m w r = absurd (omega arith)
    go false false a b k (inl q) w r = absurd (not_both (g y) (ap g (sym q) ∙ e) b)
    go false false a b k (inr i) w r = r (omega arith) i

module _ (M : ℕ → ℕ → Bool) (n : ℕ) (short : (r c : ℕ) → M r c ≡ true → c < n) (i : ℕ) where
  -- the common columns of P are common columns of Q, and P has as many or more: so Q has no others
  no_others : (P Q : List ℕ) (w v : ℕ) (p : IsWeight M n i P w) (q : IsWeight M n i Q v) → ((c : ℕ) → IsCommon M i P c → IsCommon M i Q c)
      → count_by q.common (first_lines n) ≤ count_by p.common (first_lines n) → (c : ℕ) → IsCommon M i Q c → IsCommon M i P c
  no_others P Q w v p q sub k c u = let l = short i c u.0 in (p.exact c l).0 (count_same p.common q.common (first_lines n)
      (λ x h e. let m = first_lines_in n x h in (q.exact x m).1 (sub x ((p.exact x m).0 e))) k c (in_first_lines n c l) ((q.exact c l).1 u))

  no_more : (P Q : List ℕ) (w v : ℕ) (p : IsWeight M n i P w) (q : IsWeight M n i Q v) → ((c : ℕ) → IsCommon M i P c → IsCommon M i Q c)
      → count_by p.common (first_lines n) ≤ count_by q.common (first_lines n)
  no_more P Q w v p q sub = count_le p.common q.common (first_lines n) (λ x h e. let m = first_lines_in n x h in (q.exact x m).1 (sub x ((p.exact x m).0 e)))

  pub heavier_sees : (P Q : List ℕ) (w v : ℕ) → IsWeight M n i P w → IsWeight M n i Q v → Agree M i P Q → v ≤ w → IsUncutBy M i Q P
  heavier_sees P Q w v p q (inl s) l = s
  heavier_sees P Q w v p q (inr s) l = go (search_in (λ k. (c : ℕ) → IsCommon M i P c → M k c ≡ true) (λ k. (c : ℕ) → IsCommon M i P c → M k c ≡ false) Q s)
    where
      through : ((c : ℕ) → IsCommon M i Q c → IsCommon M i P c) → (j : ℕ) → IsUncut M i P j → IsUncut M i Q j
      through back j (inl all) = inl (λ c u. all c (back c u))
      through back j (inr all) = inr (λ c u. all c (back c u))

      go : ((k : ℕ) × IsIn k Q × ((c : ℕ) → IsCommon M i P c → M k c ≡ true)) ⊎ ((k : ℕ) → IsIn k Q → (c : ℕ) → IsCommon M i P c → M k c ≡ false) → IsUncutBy M i Q P
      go (inr none) = λ j hj. inr (empty j hj)
        where
          empty : (j : ℕ) → IsIn j P → (c : ℕ) → IsCommon M i Q c → M j c ≡ false
          empty j hj c (a, (k, hk, e)) = false_is (M j c) (λ d. not_both (M k c) e (none k hk c (a, (j, hj, d))))
      go (inl (k, hk, all)) = pick (two_cases p.whole) (two_cases q.whole)
        where
          inside : (c : ℕ) → IsCommon M i P c → IsCommon M i Q c
          inside c u = (u.0, (k, hk, all c u))

          few : count_by p.common (first_lines n) ≤ count_by q.common (first_lines n)
          few = no_more P Q w v p q inside

          sum : (t u : Bool) → p.whole ≡ t → q.whole ≡ u
              → count_by q.common (first_lines n) + count_by q.common (first_lines n) + cond u 1 0 ≤ count_by p.common (first_lines n) + count_by p.common (first_lines n) + cond t 1 0
          sum t u a b = subst (λ (z : ℕ). z ≤ count_by p.common (first_lines n) + count_by p.common (first_lines n) + cond t 1 0)
              (q.value ∙ ap (λ (z : Bool). count_by q.common (first_lines n) + count_by q.common (first_lines n) + cond z 1 0) b)
              (subst (λ (z : ℕ). v ≤ z) (p.value ∙ ap (λ (z : Bool). count_by p.common (first_lines n) + count_by p.common (first_lines n) + cond z 1 0) a) l)

          fewer : (a b : ℕ) (t : Bool) → b + b + 0 ≤ a + a + cond t 1 0 → b ≤ a
          fewer a b true l = omega arith
          fewer a b false l = omega arith

          pick : (p.whole ≡ true) ⊎ (p.whole ≡ false) → (q.whole ≡ true) ⊎ (q.whole ≡ false) → IsUncutBy M i Q P
          pick (inl a) (inl b) = let m = sum true true a b in λ j hj. through (no_others P Q w v p q inside (omega arith)) j (p.uncut.0 a j hj)
          pick (inr a) (inl b) = let m = sum false true a b in let f = few in absurd (omega arith)
          pick f (inr b) = let m = fewer (count_by p.common (first_lines n)) (count_by q.common (first_lines n)) p.whole (sum p.whole false refl b) in
              absurd (not_both q.whole (q.uncut.1 (λ x hx. through (no_others P Q w v p q inside m) x (s x hx))) b)

-- ---- whether a part has common columns, and its weight

module _ (M : ℕ → ℕ → Bool) where
  any_row : List ℕ → ℕ → Bool
  any_row [] c = false
  any_row (k ∷ Q) c = cond (M k c) true (any_row Q c)

  any_found : (Q : List ℕ) (c : ℕ) → any_row Q c ≡ true → (k : ℕ) × IsIn k Q × (M k c ≡ true)
  unfolding any_row
  any_found [] c e = absurd (not_both false e refl)
  any_found (x ∷ Q) c e = go (M x c) refl e (any_found Q c)
    where
      go : (t : Bool) → M x c ≡ t → cond t true (any_row Q c) ≡ true → (any_row Q c ≡ true → (k : ℕ) × IsIn k Q × (M k c ≡ true)) → (k : ℕ) × ((k ≡ x) ⊎ IsIn k Q) × (M k c ≡ true)
      go true a b r = (x, inl refl, a)
      go false a b r = let q = r b in (q.0, inr q.1, q.2)

  any_is : (Q : List ℕ) (c k : ℕ) → IsIn k Q → M k c ≡ true → any_row Q c ≡ true
  unfolding any_row
  any_is [] c k h e = absurd h
  any_is (x ∷ Q) c k h e = go (M x c) refl h (λ i. any_is Q c k i e)
    where
      go : (t : Bool) → M x c ≡ t → (k ≡ x) ⊎ IsIn k Q → (IsIn k Q → any_row Q c ≡ true) → cond t true (any_row Q c) ≡ true
      go true a h r = refl
      go false a (inl q) r = absurd (not_both (M x c) (ap (λ (z : ℕ). M z c) (sym q) ∙ e) a)
      go false a (inr i) r = r i

  module _ (n : ℕ) (short : (r c : ℕ) → M r c ≡ true → c < n) (i : ℕ) (Q : List ℕ) where
    common_test : ℕ → Bool
    common_test c = cond (M i c) (any_row Q c) false

    common_exact : (c : ℕ) → (common_test c ≡ true) ↔ IsCommon M i Q c
    unfolding common_test
    common_exact c = (to (M i c) refl, λ u. ap (λ (t : Bool). cond t (any_row Q c) false) u.0 ∙ any_is Q c u.1.0 u.1.1 u.1.2)
      where
        to : (t : Bool) → M i c ≡ t → cond t (any_row Q c) false ≡ true → IsCommon M i Q c
        to true a b = (a, any_found Q c b)
        to false a b = absurd (not_both false b refl)

    common_or_not : (c : ℕ) → IsCommon M i Q c ⊎ (¬ (IsCommon M i Q c))
    common_or_not c = go (two_cases (common_test c))
      where
        go : (common_test c ≡ true) ⊎ (common_test c ≡ false) → IsCommon M i Q c ⊎ (¬ (IsCommon M i Q c))
        go (inl e) = inl ((common_exact c).0 e)
        go (inr e) = inr (λ u. not_both (common_test c) ((common_exact c).1 u) e)

    -- a common column, or there is none
    pub a_column : ((c : ℕ) × IsCommon M i Q c) ⊎ ((c : ℕ) → ¬ (IsCommon M i Q c))
    a_column = go (search_rows (λ c. IsCommon M i Q c) (λ c. ¬ (IsCommon M i Q c)) common_or_not (first_lines n))
      where
        go : ((c : ℕ) × IsIn c (first_lines n) × IsCommon M i Q c) ⊎ ((c : ℕ) → IsIn c (first_lines n) → ¬ (IsCommon M i Q c)) → ((c : ℕ) × IsCommon M i Q c) ⊎ ((c : ℕ) → ¬ (IsCommon M i Q c))
        go (inl (c, h, u)) = inl (c, u)
        go (inr all) = inr (λ c u. all c (in_first_lines n c (short i c u.0)) u)

    -- some common column has the value in row j, or all have the other value
    some_or_all : (j : ℕ) (b : Bool) → ((c : ℕ) × IsCommon M i Q c × (M j c ≡ b)) ⊎ ((c : ℕ) → IsCommon M i Q c → M j c ≡ not b)
    some_or_all j b = go (search_rows (λ c. IsCommon M i Q c × (M j c ≡ b)) (λ c. IsCommon M i Q c → M j c ≡ not b) decide (first_lines n))
      where
        decide : (c : ℕ) → (IsCommon M i Q c × (M j c ≡ b)) ⊎ (IsCommon M i Q c → M j c ≡ not b)
        decide c = pick (common_or_not c) (bool_same (M j c) b)
          where
            pick : IsCommon M i Q c ⊎ (¬ (IsCommon M i Q c)) → (M j c ≡ b) ⊎ (M j c ≡ not b) → (IsCommon M i Q c × (M j c ≡ b)) ⊎ (IsCommon M i Q c → M j c ≡ not b)
            pick (inl u) (inl e) = inl (u, e)
            pick q (inr e) = inr (λ u. e)
            pick (inr m) (inl e) = inr (λ u. absurd (m u))

        go : ((c : ℕ) × IsIn c (first_lines n) × (IsCommon M i Q c × (M j c ≡ b))) ⊎ ((c : ℕ) → IsIn c (first_lines n) → IsCommon M i Q c → M j c ≡ not b)
            → ((c : ℕ) × IsCommon M i Q c × (M j c ≡ b)) ⊎ ((c : ℕ) → IsCommon M i Q c → M j c ≡ not b)
        go (inl (c, h, u)) = inl (c, u.0, u.1)
        go (inr all) = inr (λ c u. all c (in_first_lines n c (short i c u.0)) u)

    uncut_or_not : (j : ℕ) → (¬ (IsUncut M i Q j)) ⊎ IsUncut M i Q j
    uncut_or_not j = go (some_or_all j false) (some_or_all j true)
      where
        go : ((c : ℕ) × IsCommon M i Q c × (M j c ≡ false)) ⊎ ((c : ℕ) → IsCommon M i Q c → M j c ≡ true)
            → ((c : ℕ) × IsCommon M i Q c × (M j c ≡ true)) ⊎ ((c : ℕ) → IsCommon M i Q c → M j c ≡ false) → (¬ (IsUncut M i Q j)) ⊎ IsUncut M i Q j
        go (inr all) q = inr (inl all)
        go (inl a) (inr all) = inr (inr all)
        go (inl (c, u, e)) (inl (d, v, f)) = inl none
          where
            none : IsUncut M i Q j → ⊥
            none (inl all) = not_both (M j c) (all c u) e
            none (inr all) = not_both (M j d) f (all d v)

    -- each part has a weight
    pub weighed : (w : ℕ) × IsWeight M n i Q w
    weighed = go (search_rows (λ j. ¬ (IsUncut M i Q j)) (λ j. IsUncut M i Q j) uncut_or_not Q)
      where
        weight : (t : Bool) → (t ≡ true) ↔ IsUncutBy M i Q Q → (w : ℕ) × IsWeight M n i Q w
        weight t u = (
          count_by common_test (first_lines n) + count_by common_test (first_lines n) + cond t 1 0,
          record { common = common_test; exact = λ c l. common_exact c; whole = t; uncut = u; value = refl },
        )

        go : ((j : ℕ) × IsIn j Q × (¬ (IsUncut M i Q j))) ⊎ ((j : ℕ) → IsIn j Q → IsUncut M i Q j) → (w : ℕ) × IsWeight M n i Q w
        go (inl (j, h, m)) = weight false (λ e. absurd (not_both false e refl), λ all. absurd (m (all j h)))
        go (inr all) = weight true (λ e. all, λ h. refl)
