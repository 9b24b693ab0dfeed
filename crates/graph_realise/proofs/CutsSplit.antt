-- A matrix with cuts is graphic by splitting.
use Rattle.std.proofs.Common.{ℕ, zero, suc, Bool, true, List, [], ◌∷◌, ◌++◌, ◌≡◌, ◌≢◌, ◌<◌, ◌≤◌, ◌∙◌, sym, ap, refl, arith, subst, ◌⊎◌, inl, inr, length, ◌==◌, ◌||◌}
use Rattle.cmr_base.specs.Members.{IsIn}
use Rattle.cmr_base.specs.Splits.{Agree, Splits, HasNoThree, IsNaming, IsFirstSplit, part_rows, with_row, HasSplit, SplitsGraphically}
use Rattle.cmr_base.specs.Cuts.{HasCuts}
use Rattle.cmr_base.proofs.PartNames.{rows_have_names}
use Rattle.cmr_base.proofs.RowLists.{same_or_not, search_rows, in_or_not, fewer}
use Rattle.graph_realise.proofs.CutTables.{has_fewer}
use Rattle.graph_realise.proofs.PartRows.{in_part, part_in, in_with, omitted}
use Rattle.graph_realise.proofs.NoCuts.{no_three}
use Rattle.graph_realise.proofs.MiddleArcs.{linked_side}
use Rattle.graph_realise.proofs.AgreeingParts.{across, Pair, pair_agrees}

-- the first member of a list that satisfies P
first_of_rows : (P : ℕ → Type 0) → ((x : ℕ) → P x ⊎ (¬ (P x))) → (xs : List ℕ)
    → ((x : ℕ) × (before : List ℕ) × (after : List ℕ) × (xs ≡ before ++ x ∷ after) × P x × ((r : ℕ) → IsIn r before → ¬ (P r))) ⊎ ((x : ℕ) → IsIn x xs → ¬ (P x))
first_of_rows P d [] = inr (λ x h. absurd h)
first_of_rows P d (y ∷ ys) = go (d y) (first_of_rows P d ys)
  where
    go : P y ⊎ (¬ (P y)) → ((x : ℕ) × (before : List ℕ) × (after : List ℕ) × (ys ≡ before ++ x ∷ after) × P x × ((r : ℕ) → IsIn r before → ¬ (P r))) ⊎ ((x : ℕ) → IsIn x ys → ¬ (P x))
        → ((x : ℕ) × (before : List ℕ) × (after : List ℕ) × (y ∷ ys ≡ before ++ x ∷ after) × P x × ((r : ℕ) → IsIn r before → ¬ (P r))) ⊎ ((x : ℕ) → (x ≡ y) ⊎ IsIn x ys → ¬ (P x))
    go (inl p) k = inl (y, [], ys, refl, p, λ r h. absurd h)
    go (inr n) (inl (x, b, a, e, p, none)) = inl (x, y ∷ b, a, ap (λ (z : List ℕ). y ∷ z) e, p, more)
      where
        more : (r : ℕ) → (r ≡ y) ⊎ IsIn r b → ¬ (P r)
        more r (inl e) q = n (subst P e q)
        more r (inr h) q = none r h q
    go (inr n) (inr all) = inr more
      where
        more : (r : ℕ) → (r ≡ y) ⊎ IsIn r ys → ¬ (P r)
        more r (inl e) q = n (subst P e q)
        more r (inr h) q = all r h q

module _ (M : ℕ → ℕ → Bool) (n : ℕ) (short : (r c : ℕ) → M r c ≡ true → c < n) where
  -- whether a row splits
  splits_or_not : (S : List ℕ) (i : ℕ) → IsIn i S → Splits M S i ⊎ (¬ (Splits M S i))
  splits_or_not S i hi = go (search_rows
      (λ j. (j ≢ i) × ((k : ℕ) × IsIn k S × (k ≢ i) × (ps.0 j ≢ ps.0 k)))
      (λ j. (j ≢ i) → (k : ℕ) → IsIn k S → k ≢ i → ps.0 j ≡ ps.0 k)
      outer S)
    where
      ps : (part : ℕ → ℕ) × IsNaming M S i part
      ps = rows_have_names M S i n short

      inner : (j k : ℕ) → ((k ≢ i) × (ps.0 j ≢ ps.0 k)) ⊎ (k ≢ i → ps.0 j ≡ ps.0 k)
      inner j k = pick (same_or_not k i) (same_or_not (ps.0 j) (ps.0 k))
        where
          pick : (k ≡ i) ⊎ (k ≢ i) → (ps.0 j ≡ ps.0 k) ⊎ (ps.0 j ≢ ps.0 k) → ((k ≢ i) × (ps.0 j ≢ ps.0 k)) ⊎ (k ≢ i → ps.0 j ≡ ps.0 k)
          pick (inl e) q = inr (λ m. absurd (m e))
          pick (inr m) (inl e) = inr (λ x. e)
          pick (inr m) (inr e) = inl (m, e)

      outer : (j : ℕ) → ((j ≢ i) × ((k : ℕ) × IsIn k S × (k ≢ i) × (ps.0 j ≢ ps.0 k))) ⊎ ((j ≢ i) → (k : ℕ) → IsIn k S → k ≢ i → ps.0 j ≡ ps.0 k)
      outer j = pick (same_or_not j i) (search_rows (λ k. (k ≢ i) × (ps.0 j ≢ ps.0 k)) (λ k. k ≢ i → ps.0 j ≡ ps.0 k) (inner j) S)
        where
          pick : (j ≡ i) ⊎ (j ≢ i) → ((k : ℕ) × IsIn k S × ((k ≢ i) × (ps.0 j ≢ ps.0 k))) ⊎ ((k : ℕ) → IsIn k S → k ≢ i → ps.0 j ≡ ps.0 k)
              → ((j ≢ i) × ((k : ℕ) × IsIn k S × (k ≢ i) × (ps.0 j ≢ ps.0 k))) ⊎ ((j ≢ i) → (k : ℕ) → IsIn k S → k ≢ i → ps.0 j ≡ ps.0 k)
          pick (inl e) q = inr (λ m. absurd (m e))
          pick (inr m) (inl (k, hk, a)) = inl (m, (k, hk, a.0, a.1))
          pick (inr m) (inr all) = inr (λ x. all)

      go : ((j : ℕ) × IsIn j S × ((j ≢ i) × ((k : ℕ) × IsIn k S × (k ≢ i) × (ps.0 j ≢ ps.0 k)))) ⊎ ((j : ℕ) → IsIn j S → (j ≢ i) → (k : ℕ) → IsIn k S → k ≢ i → ps.0 j ≡ ps.0 k)
          → Splits M S i ⊎ (¬ (Splits M S i))
      go (inl (j, hj, (ji, (k, hk, ki, ne)))) = inl (record {
        here = hi;
        one = j;
        two = k;
        one_in = hj;
        two_in = hk;
        one_other = ji;
        two_other = ki;
        apart = λ l. ne ((ps.1 j k hj hk ji ki).1 l);
      })
      go (inr all) = inr (λ s. s.apart ((ps.1 s.one s.two s.one_in s.two_in s.one_other s.two_other).0 (all s.one s.one_in s.one_other s.two s.two_in s.two_other)))

  splits_decided : (S : List ℕ) (i : ℕ) → Splits M S i ⊎ (¬ (Splits M S i))
  splits_decided S i = go (in_or_not i S)
    where
      go : IsIn i S ⊎ (¬ (IsIn i S)) → Splits M S i ⊎ (¬ (Splits M S i))
      go (inl h) = splits_or_not S i h
      go (inr m) = inr (λ s. m s.here)

module _ (M : ℕ → ℕ → Bool) (S : List ℕ) (K : HasCuts M (λ r. IsIn r S)) (i : ℕ) (here : IsIn i S) (part : ℕ → ℕ) (named : IsNaming M S i part) where
  pub part_side : (j k : ℕ) → IsIn j S → IsIn k S → j ≢ i → k ≢ i → part j ≡ part k → K.side i j ≡ K.side i k
  part_side j k hj hk nj nk e = let l = (named j k hj hk nj nk).0 e in linked_side M S K i j k l.0 here hj l.1

  pub pair : (j k : ℕ) → IsIn j S → IsIn k S → j ≢ i → k ≢ i → part j ≢ part k → K.side i j ≡ K.side i k
      → Pair M S K i (part_rows part i (part j) S) (part_rows part i (part k) S)
  pair j k hj hk nj nk ne s = record {
    i_in = here;
    p_in = λ x h. (p x h).0;
    q_in = λ x h. (q x h).0;
    p_other = λ x h e. (p x h).1 (sym e);
    q_other = λ x h e. (q x h).1 (sym e);
    apart = λ x y hx hy e. ne (sym (p x hx).2 ∙ ap part e ∙ (q y hy).2);
    one_side = λ x y hx hy. part_side x j (p x hx).0 hj (p x hx).1 nj (p x hx).2 ∙ s ∙ part_side k y hk (q y hy).0 nk (q y hy).1 (sym (q y hy).2);
    p_sees = λ x y z hx hy hz. let l = (named y z (q y hy).0 (q z hz).0 (q y hy).1 (q z hz).1).0 ((q y hy).2 ∙ sym (q z hz).2) in
        across M S K i x y z l.0 (p x hx).0 (q y hy).0 l.1 (λ m. ne (sym (p x hx).2 ∙ sym ((named y x (q y hy).0 (p x hx).0 (q y hy).1 (p x hx).1).1 m) ∙ (q y hy).2));
    q_sees = λ x y z hx hy hz. let l = (named y z (p y hy).0 (p z hz).0 (p y hy).1 (p z hz).1).0 ((p y hy).2 ∙ sym (p z hz).2) in
        across M S K i x y z l.0 (q x hx).0 (p y hy).0 l.1 (λ m. ne (sym (p y hy).2 ∙ (named y x (p y hy).0 (q x hx).0 (p y hy).1 (q x hx).1).1 m ∙ (q x hx).2));
  }
    where
      p : (x : ℕ) → IsIn x (part_rows part i (part j) S) → IsIn x S × (x ≢ i) × (part x ≡ part j)
      p x h = in_part part i (part j) x S h

      q : (x : ℕ) → IsIn x (part_rows part i (part k) S) → IsIn x S × (x ≢ i) × (part x ≡ part k)
      q x h = in_part part i (part k) x S h

  -- two parts on one side agree
  pub part_agrees : (j k : ℕ) → IsIn j S → IsIn k S → j ≢ i → k ≢ i → part j ≢ part k → K.side i j ≡ K.side i k → Agree M i (part_rows part i (part j) S) (part_rows part i (part k) S)
  part_agrees j k hj hk nj nk ne s = pair_agrees M S K i (part_rows part i (part j) S) (part_rows part i (part k) S) (pair j k hj hk nj nk ne s) j k
      (part_in part i (part j) j S hj nj refl) (part_in part i (part k) k S hk nk refl)

module _ (M : ℕ → ℕ → Bool) (S : List ℕ) (K : HasCuts M (λ r. IsIn r S)) (i : ℕ) (first : IsFirstSplit M S i) (part : ℕ → ℕ) (named : IsNaming M S i part) where
  shorter : (j : ℕ) → length (with_row part i (part j) S) < length S
  shorter j = go (same_or_not (part first.splits.one) (part j))
    where
      go : (part first.splits.one ≡ part j) ⊎ (part first.splits.one ≢ part j) → length (with_row part i (part j) S) < length S
      go (inr n) = fewer (λ k. k == i || part k == part j) first.splits.one S first.splits.one_in (omitted part i (part j) first.splits.one first.splits.one_other n)
      go (inl e) = fewer (λ k. k == i || part k == part j) first.splits.two S first.splits.two_in (omitted part i (part j) first.splits.two first.splits.two_other
          (λ f. first.splits.apart ((named first.splits.one first.splits.two first.splits.one_in first.splits.two_in first.splits.one_other first.splits.two_other).0 (e ∙ sym f))))

  pub has_split : (Rest : List ℕ → Type 0) → ((T : List ℕ) → length T < length S → HasCuts M (λ r. IsIn r T) → Rest T) → HasSplit M Rest S
  has_split Rest more = record {
    row = i;
    first = first;
    part = part;
    naming = named;
    side = K.side i;
    whole = part_side M S K i first.splits.here part named;
    agree = part_agrees M S K i first.splits.here part named;
    rest = λ j hj nj. let T = with_row part i (part j) S in
        more T (shorter j) (has_fewer M (λ x. IsIn x S) (λ x. IsIn x T) (λ x h. (in_with part i (part j) x S h).0) K);
  }

module _ (M : ℕ → ℕ → Bool) (n : ℕ) (short : (r c : ℕ) → M r c ≡ true → c < n) where
  -- rows with cuts are graphic by splitting
  pub cuts_split : (m : ℕ) (S : List ℕ) → length S ≤ m → HasCuts M (λ r. IsIn r S) → SplitsGraphically M m S
  cuts_split zero [] l K = λ c r s t hr hs ht a b d rs rt st. hr
  cuts_split zero (x ∷ S) l K = absurd (omega arith)
  cuts_split (suc m) S l K = go (first_of_rows (Splits M S) (splits_decided M n short S) S) (λ T. cuts_split m T)
    where
      go : ((x : ℕ) × (before : List ℕ) × (after : List ℕ) × (S ≡ before ++ x ∷ after) × Splits M S x × ((r : ℕ) → IsIn r before → ¬ (Splits M S r))) ⊎ ((x : ℕ) → IsIn x S → ¬ (Splits M S x))
          → ((T : List ℕ) → length T ≤ m → HasCuts M (λ r. IsIn r T) → SplitsGraphically M m T) → HasNoThree M S ⊎ HasSplit M (SplitsGraphically M m) S
      go (inr none) more = inl (no_three M S K (λ i h. none i h.here h))
      go (inl (i, before, after, place, splits, none)) more =
          let ps = rows_have_names M S i n short in
          inr (has_split M S K i (record { before = before; after = after; place = place; splits = splits; none = none }) ps.0 ps.1 (SplitsGraphically M m) (λ T k. more T (omega arith)))
