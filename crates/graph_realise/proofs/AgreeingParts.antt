-- Parts on one side of an arc agree.
use Rattle.std.proofs.Common.{ℕ, Bool, true, false, not, List, [], ◌∷◌, ◌≡◌, ◌≢◌, ◌∙◌, sym, ap, refl, ◌⊎◌, inl, inr}
use Rattle.cmr_base.specs.Members.{IsIn}
use Rattle.cmr_base.specs.Splits.{LeadsTo, AreLinked, IsCommon, IsUncut, IsUncutBy, Agree}
use Rattle.cmr_base.specs.Cuts.{differ, HasCuts}
use Rattle.cmr_base.proofs.Booleans.{false_is}
use Rattle.cmr_base.proofs.RowLists.{no_not, differ_true, bool_same, search_rows}
use Rattle.graph_realise.proofs.MiddleArcs.{joined_side}
use Rattle.graph_realise.proofs.Booleans.{differ_swap, other_of, swap}

module _ (M : ℕ → ℕ → Bool) (S : List ℕ) (K : HasCuts M (λ r. IsIn r S)) where
  -- a part lies on one side of arc j if no link of the part meets j
  pub across : (i j k k' : ℕ) (rest : List ℕ) → IsIn j S → IsIn k S → LeadsTo M S i k rest k' → ¬ (AreLinked M S i k j) → K.side j k ≡ K.side j k'
  across i j k k' [] hj hk l none = ap (K.side j) l
  across i j k k' (x ∷ rest) hj hk (hx, (c, off, a, b), l) none =
      joined_side M S K j k x hj hk hx (c, false_is (M j c) (λ e. none (j ∷ [], (hj, (c, off, a, e), refl))), a, b)
      ∙ across i j x k' rest hj hx l (λ m. none (x ∷ m.0, (hx, (c, off, a, b), m.1)))

  -- the end on side y of i of a column that uses arc i
  near_end : (i c : ℕ) (y : Bool) → IsIn i S → M i c ≡ true
      → (e : Bool) × ((j : ℕ) → IsIn j S → i ≢ j → K.side i j ≡ y → M j c ≡ differ (K.lies e j c) (K.side j i))
  near_end i c y hi w = go (bool_same (K.lies true i c) y)
    where
      other : K.lies false i c ≡ not (K.lies true i c)
      other = differ_true (K.lies true i c) (K.lies false i c) (sym w ∙ K.cuts.uses i c hi)

      far : (x p q s : Bool) → (x ≡ p) ⊎ (q ≡ s) → p ≡ y → x ≡ not y → q ≡ s
      far x p q s (inl a) e f = absurd (no_not y (sym e ∙ sym a ∙ f))
      far x p q s (inr b) e f = b

      go : (K.lies true i c ≡ y) ⊎ (K.lies true i c ≡ not y) → (e : Bool) × ((j : ℕ) → IsIn j S → i ≢ j → K.side i j ≡ y → M j c ≡ differ (K.lies e j c) (K.side j i))
      go (inl e) = (
        true,
        λ j hj n s. K.cuts.uses j c hj ∙ ap (differ (K.lies true j c))
            (far (K.lies false i c) (K.side i j) (K.lies false j c) (K.side j i) (K.cuts.meet false i j c hi hj n) s (other ∙ ap not e)),
      )
      go (inr e) = (
        false,
        λ j hj n s. K.cuts.uses j c hj ∙ differ_swap (K.lies true j c) (K.lies false j c) ∙ ap (differ (K.lies false j c))
            (far (K.lies true i c) (K.side i j) (K.lies true j c) (K.side j i) (K.cuts.meet true i j c hi hj n) s e),
      )

  -- arcs j and k on one side of i, j not beyond k: a column that uses i and k uses j if and only if k is beyond j
  seen : (i j k c : ℕ) → IsIn i S → IsIn j S → IsIn k S → i ≢ j → i ≢ k → j ≢ k → K.side i j ≡ K.side i k → K.side k j ≡ K.side k i
      → M i c ≡ true → M k c ≡ true → M j c ≡ differ (K.side j k) (K.side j i)
  seen i j k c hi hj hk ij ik jk s t w u =
      let near = near_end i c (K.side i k) hi w in
      let away : K.lies near.0 k c ≡ not (K.side k i) = other_of (K.lies near.0 k c) (K.side k i) (sym u ∙ near.1 k hk ik refl) in
      near.1 j hj ij s ∙ ap (λ (z : Bool). differ z (K.side j i)) (here (K.lies near.0 j c) (K.side j k) (K.lies near.0 k c) (K.side k j) (K.cuts.meet near.0 j k c hj hk jk) (away ∙ ap not (sym t)))
    where
      here : (x p q s : Bool) → (x ≡ p) ⊎ (q ≡ s) → q ≡ not s → x ≡ p
      here x p q s (inl a) e = a
      here x p q s (inr b) e = absurd (no_not q (e ∙ ap not (sym b)))

  -- two parts on one side of arc i
  pub record Pair (i : ℕ) (P Q : List ℕ) : Type 0 where
    pub i_in : IsIn i S
    pub p_in : (j : ℕ) → IsIn j P → IsIn j S
    pub q_in : (k : ℕ) → IsIn k Q → IsIn k S
    pub p_other : (j : ℕ) → IsIn j P → i ≢ j
    pub q_other : (k : ℕ) → IsIn k Q → i ≢ k
    pub apart : (j k : ℕ) → IsIn j P → IsIn k Q → j ≢ k
    pub one_side : (j k : ℕ) → IsIn j P → IsIn k Q → K.side i j ≡ K.side i k
    pub p_sees : (j k k' : ℕ) → IsIn j P → IsIn k Q → IsIn k' Q → K.side j k ≡ K.side j k'
    pub q_sees : (k j j' : ℕ) → IsIn k Q → IsIn j P → IsIn j' P → K.side k j ≡ K.side k j'

  reversed : (i : ℕ) (P Q : List ℕ) → Pair i P Q → Pair i Q P
  reversed i P Q p = record {
    i_in = p.i_in;
    p_in = p.q_in;
    q_in = p.p_in;
    p_other = p.q_other;
    q_other = p.p_other;
    apart = λ k j hk hj e. p.apart j k hj hk (sym e);
    one_side = λ k j hk hj. sym (p.one_side j k hj hk);
    p_sees = p.q_sees;
    q_sees = p.p_sees;
  }

  -- if P is never beyond a row of Q, P sees Q as a point
  points : (i : ℕ) (P Q : List ℕ) → Pair i P Q → (k0 : ℕ) → IsIn k0 Q → ((j k : ℕ) → IsIn j P → IsIn k Q → K.side k j ≡ K.side k i) → IsUncutBy M i Q P
  points i P Q p k0 h0 not_beyond j hj = go (differ (K.side j k0) (K.side j i)) refl
    where
      each : (c : ℕ) → IsCommon M i Q c → M j c ≡ differ (K.side j k0) (K.side j i)
      each c (w, (k, hk, u)) = seen i j k c p.i_in (p.p_in j hj) (p.q_in k hk) (p.p_other j hj) (p.q_other k hk) (p.apart j k hj hk) (p.one_side j k hj hk) (not_beyond j k hj hk) w u
          ∙ ap (λ (z : Bool). differ z (K.side j i)) (p.p_sees j k k0 hj hk h0)

      go : (t : Bool) → differ (K.side j k0) (K.side j i) ≡ t → IsUncut M i Q j
      go true e = inl (λ c u. each c u ∙ e)
      go false e = inr (λ c u. each c u ∙ e)

  pub pair_agrees : (i : ℕ) (P Q : List ℕ) → Pair i P Q → (j0 k0 : ℕ) → IsIn j0 P → IsIn k0 Q → Agree M i P Q
  pair_agrees i P Q p j0 k0 hj0 hk0 = go (search_rows (λ k. K.side k j0 ≡ not (K.side k i)) (λ k. K.side k j0 ≡ K.side k i) (λ k. swap (bool_same (K.side k j0) (K.side k i))) Q)
    where
      third : (k1 : ℕ) → IsIn k1 Q → K.side k1 j0 ≡ not (K.side k1 i) → (j : ℕ) → IsIn j P → (K.side j i ≡ K.side j k1) ⊎ (K.side k1 i ≡ K.side k1 j) → K.side j k1 ≡ K.side j i
      third k1 h1 e j hj (inl a) = sym a
      third k1 h1 e j hj (inr b) = absurd (no_not (K.side k1 i) (b ∙ p.q_sees k1 j j0 h1 hj hj0 ∙ e))

      go : ((k : ℕ) × IsIn k Q × (K.side k j0 ≡ not (K.side k i))) ⊎ ((k : ℕ) → IsIn k Q → K.side k j0 ≡ K.side k i) → Agree M i P Q
      go (inl (k1, h1, e)) = inr (points i Q P (reversed i P Q p) j0 hj0 (λ k j hk hj.
          p.p_sees j k k1 hj hk h1 ∙ third k1 h1 e j hj (K.cuts.three j k1 i (p.p_in j hj) (p.q_in k1 h1) p.i_in (p.apart j k1 hj h1) (λ z. p.p_other j hj (sym z)) (λ z. p.q_other k1 h1 (sym z)))))
      go (inr all) = inl (points i P Q p k0 hk0 (λ j k hj hk. p.q_sees k j j0 hk hj hj0 ∙ all k hk))
