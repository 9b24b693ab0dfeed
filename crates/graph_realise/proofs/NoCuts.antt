-- Rows without cuts. Either no row splits them and a column has three nonzeros, or there is an odd closed list of parts.
use Rattle.std.proofs.Common.{ℕ, zero, suc, Bool, true, false, not, List, [], ◌≡◌, ◌≢◌, ◌<◌, ◌+◌, ◌∙◌, sym, ap, arith, ◌⊎◌, inl, inr, slice_index_or, length}
use Rattle.cmr_base.specs.Members.{IsIn}
use Rattle.cmr_base.specs.Splits.{Splits, Agree, HasNoThree, IsOddClosed}
use Rattle.cmr_base.specs.Cuts.{HasCuts}
use Rattle.cmr_base.proofs.RowLists.{no_not, bool_same}
use Rattle.graph_realise.proofs.MiddleArcs.{middle, between_splits, linked_side}
use Rattle.graph_realise.proofs.AgreeingParts.{across, Pair, pair_agrees}
use Rattle.graph_realise.proofs.PartLists.{IsWholePart, is_whole, linked_same}

-- if no row splits, no column has three nonzeros
pub no_three : (M : ℕ → ℕ → Bool) (S : List ℕ) → HasCuts M (λ r. IsIn r S) → ((row : ℕ) → ¬ (Splits M S row)) → HasNoThree M S
no_three M S K none c r s t hr hs ht a b d rs rt st = go (middle M S K c r s t hr hs ht rs rt st a b d)
  where
    go : (K.side r s ≡ not (K.side r t)) ⊎ ((K.side s r ≡ not (K.side s t)) ⊎ (K.side t r ≡ not (K.side t s))) → ⊥
    go (inl e) = none r (between_splits M S K r s t hr hs ht (λ z. rs (sym z)) (λ z. rt (sym z)) e)
    go (inr (inl e)) = none s (between_splits M S K s r t hs hr ht rs (λ z. st (sym z)) e)
    go (inr (inr e)) = none t (between_splits M S K t r s ht hr hs rt st e)

module _ (M : ℕ → ℕ → Bool) (S : List ℕ) (K : HasCuts M (λ r. IsIn r S)) (i : ℕ) (here : IsIn i S) where
  whole_pair : (P Q : List ℕ) → IsWholePart M S i P → IsWholePart M S i Q → P ≢ Q → (j0 k0 : ℕ) → IsIn j0 P → IsIn k0 Q → K.side i j0 ≡ K.side i k0 → Pair M S K i P Q
  whole_pair P Q p q n j0 k0 hj0 hk0 e = record {
    i_in = here;
    p_in = λ j h. (p.inside j h).0;
    q_in = λ k h. (q.inside k h).0;
    p_other = λ j h z. (p.inside j h).1 (sym z);
    q_other = λ k h z. (q.inside k h).1 (sym z);
    apart = λ j k hj hk z. n (linked_same M S i P Q p q j k hj hk ([], z));
    one_side = λ j k hj hk. on_part P p j j0 hj hj0 ∙ e ∙ on_part Q q k0 k hk0 hk;
    p_sees = λ j k k' hj hk hk'. let l = q.linked k k' hk hk' in
        across M S K i j k k' l.0 (p.inside j hj).0 (q.inside k hk).0 l.1 (λ m. n (sym (linked_same M S i Q P q p k j hk hj m)));
    q_sees = λ k j j' hk hj hj'. let l = p.linked j j' hj hj' in
        across M S K i k j j' l.0 (q.inside k hk).0 (p.inside j hj).0 l.1 (λ m. n (linked_same M S i P Q p q j k hj hk m));
  }
    where
      on_part : (P : List ℕ) → IsWholePart M S i P → (j k : ℕ) → IsIn j P → IsIn k P → K.side i j ≡ K.side i k
      on_part P p j k hj hk = let l = p.linked j k hj hk in linked_side M S K i j k l.0 here (p.inside j hj).0 l.1

  -- parts that disagree lie on two sides
  other_side : (P Q : List ℕ) → IsWholePart M S i P → IsWholePart M S i Q → P ≢ Q → ¬ (Agree M i P Q) → (j k : ℕ) → IsIn j P → IsIn k Q → K.side i j ≡ not (K.side i k)
  other_side P Q p q n differs j k hj hk = go (bool_same (K.side i j) (K.side i k))
    where
      go : (K.side i j ≡ K.side i k) ⊎ (K.side i j ≡ not (K.side i k)) → K.side i j ≡ not (K.side i k)
      go (inr e) = e
      go (inl e) = absurd (differs (pair_agrees M S K i P Q (whole_pair P Q p q n j k hj hk e) j k hj hk))

  pub no_odd : (cycle : List (List ℕ)) → ¬ (IsOddClosed M S i cycle)
  no_odd cycle O = no_not (side_at 0) (sym (even_many O.half (let e = O.odd in omega arith)) ∙ last)
    where
      side_at : ℕ → Bool
      side_at a = K.side i (slice_index_or (slice_index_or cycle a []) 0 0)

      whole : (a : ℕ) → a < length cycle → IsWholePart M S i (slice_index_or cycle a [])
      whole a l = is_whole M S i (slice_index_or cycle a []) (O.parts a l)

      turn : (a b : ℕ) → a < length cycle → b < length cycle
          → (slice_index_or cycle a [] ≢ slice_index_or cycle b []) × (¬ (Agree M i (slice_index_or cycle a []) (slice_index_or cycle b [])))
          → side_at a ≡ not (side_at b)
      turn a b la lb d = other_side (slice_index_or cycle a []) (slice_index_or cycle b []) (whole a la) (whole b lb) d.0 d.1
          (slice_index_or (slice_index_or cycle a []) 0 0) (slice_index_or (slice_index_or cycle b []) 0 0) (whole a la).first (whole b lb).first

      step : (a : ℕ) → a + 1 < length cycle → side_at a ≡ not (side_at (a + 1))
      step a l = turn a (a + 1) (omega arith) l (O.next a l)

      twice : (x y z : Bool) → x ≡ not y → y ≡ not z → z ≡ x
      twice x y true e f = sym (e ∙ ap not f)
      twice x y false e f = sym (e ∙ ap not f)

      even_many : (h : ℕ) → h + h < length cycle → side_at (h + h) ≡ side_at 0
      even_many zero l = ap side_at (omega arith)
      even_many (suc h) l = ap side_at again ∙ twice (side_at (h + h)) (side_at (h + h + 1)) (side_at (h + h + 1 + 1)) (step (h + h) (omega arith)) (step (h + h + 1) (omega arith)) ∙ even_many h (omega arith)
        where
          again : suc h + suc h ≡ h + h + 1 + 1
          again = omega arith

      last : side_at (O.half + O.half) ≡ not (side_at 0)
      last = turn (O.half + O.half) 0 (let e = O.odd in omega arith) (let e = O.odd in omega arith) (O.closed (O.half + O.half) (sym O.odd))
