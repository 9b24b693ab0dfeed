-- A row that does not split the rows S does not split row i with a part of the others either. Row i does not split these rows
-- either. So the search tests each row once.
use Rattle.std.proofs.Common.{ℕ, Bool, true, List, [], ◌∷◌, ◌≡◌, ◌<◌, sym, refl, subst, ◌⊎◌, inl, inr, slice_index_or, length}
use Rattle.cmr_base.specs.Members.{IsIn}
use Rattle.cmr_base.specs.Splits.{AreJoined, LeadsTo, AreLinked, Splits, AreParts}
use Rattle.bridge_split.proofs.Links.{joined_off, linked_on}
use Rattle.cmr_base.proofs.Booleans.{true_is}
use Rattle.cmr_base.proofs.RowLists.{in_or_not}
use Rattle.graph_realise.proofs.PartLists.{IsWholePart, whole_part}

-- the rows T are row i and the part P
module _ (M : ℕ → ℕ → Bool) (S : List ℕ) (i : ℕ) (P : List ℕ) (W : IsWholePart M S i P) (T : List ℕ) (from : (r : ℕ) → IsIn r T → (r ≡ i) ⊎ IsIn r P) (to : (r : ℕ) → (r ≡ i) ⊎ IsIn r P → IsIn r T) where
  -- links of the part stay within it
  within : (j x k : ℕ) (rows : List ℕ) → IsIn j P → AreLinked M S i j x → LeadsTo M S i x rows k → LeadsTo M T i x rows k
  within j x k [] hj l e = e
  within j x k (y ∷ rows) hj l (hy, (c, off, a, b), e) = let m = linked_on M S i j x y l hy (c, off, a, b) in
      (to y (inr (W.closed j y hj hy (joined_off M S i x y (c, off, a, b)) m)), (c, off, a, b), within j y k rows hj m e)

  pub part_stays : ¬ (Splits M T i)
  part_stays s = s.apart (go (from s.one s.one_in) (from s.two s.two_in))
    where
      go : (s.one ≡ i) ⊎ IsIn s.one P → (s.two ≡ i) ⊎ IsIn s.two P → AreLinked M T i s.one s.two
      go (inl e) q = absurd (s.one_other e)
      go (inr h) (inl e) = absurd (s.two_other e)
      go (inr h) (inr k) = let l = W.linked s.one s.two h k in (l.0, within s.one s.one s.two l.0 h ([], refl) l.1)

  -- row i represents the rows outside
  kept : (r : ℕ) → IsIn r T ⊎ (¬ (IsIn r T)) → ℕ
  kept r (inl h) = r
  kept r (inr m) = i

  kept_in : (r : ℕ) (d : IsIn r T ⊎ (¬ (IsIn r T))) → IsIn (kept r d) T
  unfolding kept
  kept_in r (inl h) = h
  kept_in r (inr m) = to i (inl refl)

  -- a column that a row of the part has in common with a row outside uses row i
  crossing : (r s c : ℕ) → IsIn r P → IsIn s S → ¬ (IsIn s T) → M r c ≡ true → M s c ≡ true → M i c ≡ true
  crossing r s c hr hs out a b = true_is (M i c) (λ off. out (to s (inr (W.closed r s hr hs (λ z. out (to s (inl z))) (s ∷ [], (hs, (c, off, a, b), refl))))))

  -- a step over a column without j remains a step, or disappears
  step : (j r s : ℕ) → IsIn r S → IsIn s S → (d : IsIn r T ⊎ (¬ (IsIn r T))) → (e : IsIn s T ⊎ (¬ (IsIn s T))) → AreJoined M j r s → (kept r d ≡ kept s e) ⊎ AreJoined M j (kept r d) (kept s e)
  unfolding kept
  step j r s hr hs (inl h) (inl k) join = inr join
  step j r s hr hs (inr m) (inr n) join = inl refl
  step j r s hr hs (inl h) (inr n) (c, off, a, b) = go (from r h)
    where
      go : (r ≡ i) ⊎ IsIn r P → (r ≡ i) ⊎ AreJoined M j r i
      go (inl e) = inl e
      go (inr p) = inr (c, off, a, crossing r s c p hs n a b)
  step j r s hr hs (inr m) (inl k) (c, off, a, b) = go (from s k)
    where
      go : (s ≡ i) ⊎ IsIn s P → (i ≡ s) ⊎ AreJoined M j i s
      go (inl e) = inl (sym e)
      go (inr p) = inr (c, off, crossing s r c p hr m b a, b)

  lead : (j x y : ℕ) (rows : List ℕ) → IsIn x S → (d : IsIn x T ⊎ (¬ (IsIn x T))) → (e : IsIn y T) → LeadsTo M S j x rows y → AreLinked M T j (kept x d) y
  unfolding kept
  lead j x y [] hx d e l = go d
    where
      go : (d : IsIn x T ⊎ (¬ (IsIn x T))) → AreLinked M T j (kept x d) y
      go (inl h) = ([], l)
      go (inr m) = absurd (m (subst (λ (r : ℕ). IsIn r T) (sym l) e))
  lead j x y (z ∷ rows) hx d e (hz, join, l) = go (step j x z hx hz d (in_or_not z T) join) (lead j z y rows hz (in_or_not z T) e l)
    where
      go : (kept x d ≡ kept z (in_or_not z T)) ⊎ AreJoined M j (kept x d) (kept z (in_or_not z T)) → AreLinked M T j (kept z (in_or_not z T)) y → AreLinked M T j (kept x d) y
      go (inl q) k = subst (λ (r : ℕ). AreLinked M T j r y) (sym q) k
      go (inr q) k = (kept z (in_or_not z T) ∷ k.0, (kept_in z (in_or_not z T), q, k.1))

  -- a row that splits row i and the part splits all rows
  pub splits_all : IsIn i S → (j : ℕ) → Splits M T j → Splits M S j
  unfolding kept
  splits_all here j s = record {
    here = in_all j (from j s.here);
    one = s.one;
    two = s.two;
    one_in = in_all s.one (from s.one s.one_in);
    two_in = in_all s.two (from s.two s.two_in);
    one_other = s.one_other;
    two_other = s.two_other;
    apart = λ l. s.apart (lead j s.one s.two l.0 (in_all s.one (from s.one s.one_in)) (inl s.one_in) s.two_in l.1);
  }
    where
      in_all : (r : ℕ) → (r ≡ i) ⊎ IsIn r P → IsIn r S
      in_all r (inl e) = subst (λ (r : ℕ). IsIn r S) (sym e) here
      in_all r (inr h) = (W.inside r h).0

-- row i, and each row that does not split S, does not split row i with one of the parts
pub stays_whole : (M : ℕ → ℕ → Bool) (S : List ℕ) (i : ℕ) → IsIn i S → (parts : List (List ℕ)) → AreParts M S i parts → (a : ℕ) → a < length parts → (T : List ℕ)
    → ((r : ℕ) → IsIn r T → (r ≡ i) ⊎ IsIn r (slice_index_or parts a [])) → ((r : ℕ) → (r ≡ i) ⊎ IsIn r (slice_index_or parts a []) → IsIn r T)
    → (j : ℕ) → (j ≡ i) ⊎ (¬ (Splits M S j)) → ¬ (Splits M T j)
stays_whole M S i here parts all a l T from to j (inl e) s = part_stays M S i (slice_index_or parts a []) (whole_part M S i parts all a l) T from to (subst (Splits M T) e s)
stays_whole M S i here parts all a l T from to j (inr m) s = m (splits_all M S i (slice_index_or parts a []) (whole_part M S i parts all a l) T from to here j s)
