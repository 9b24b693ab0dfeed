-- The matrices that a tree reproduces have cuts.
use Rattle.std.proofs.Common.{ℕ, ℤ, pos, negsuc, ◌-ℤ◌, Bool, true, false, not, cond, List, [], ◌∷◌, ◌≡◌, ◌<◌, ◌≤◌, ◌∙◌, sym, ap, refl, arith, ◌⊎◌, inl, inr, nat_eq, ◌↔◌}
use Rattle.std.proofs.lemmas.Bool.{cases_lt}
use Rattle.cmr_base.specs.declared.network.Network.{Network}
use Rattle.cmr_base.specs.Members.{IsIn}
use Rattle.cmr_base.specs.Matrix.{is_nonzero}
use Rattle.cmr_base.specs.Cuts.{differ, bit, IsCuts, HasCuts, HasSignedCuts}
use Rattle.cmr_base.specs.Trees.{WalkStep, tail, head, arcs_of, IsPathOf, direction, RealisesSupport, Realises}
use Rattle.cmr_base.proofs.Booleans.{zero_is}
use Rattle.cmr_base.proofs.RowLists.{same_bit, not_both, two_cases, eq_of, ne_of}
use Rattle.cmr_base.proofs.TreeCuts.{tail_side, tail_side-walk, tail_side-path, near, direction-path}

-- a path uses an arc if and only if the direction of the arc is not 0
pub nonzero_direction : (steps : List WalkStep) (r : ℕ) → (is_nonzero (direction steps r) ≡ true) ↔ IsIn r (arcs_of steps)
nonzero_direction steps r = ((λ e. here steps e), (λ h. there steps h))
  where
    sign : (d : Bool) → is_nonzero (cond d (pos 1) (negsuc 0)) ≡ true
    sign true = refl
    sign false = refl

    here : (steps : List WalkStep) → is_nonzero (direction steps r) ≡ true → IsIn r (arcs_of steps)
    here [] e = absurd (not_both false e refl)
    here (step ∷ steps) e = go (nat_eq r step.arc) refl e (here steps)
      where
        go : (t : Bool) → nat_eq r step.arc ≡ t → is_nonzero (cond t (cond step.forwards (pos 1) (negsuc 0)) (direction steps r)) ≡ true
            → (is_nonzero (direction steps r) ≡ true → IsIn r (arcs_of steps)) → (r ≡ step.arc) ⊎ IsIn r (arcs_of steps)
        go true f e k = inl (eq_of r step.arc f)
        go false f e k = inr (k e)

    there : (steps : List WalkStep) → IsIn r (arcs_of steps) → is_nonzero (direction steps r) ≡ true
    there [] h = absurd h
    there (step ∷ steps) h = go (nat_eq r step.arc) refl h (there steps)
      where
        go : (t : Bool) → nat_eq r step.arc ≡ t → (r ≡ step.arc) ⊎ IsIn r (arcs_of steps) → (IsIn r (arcs_of steps) → is_nonzero (direction steps r) ≡ true)
            → is_nonzero (cond t (cond step.forwards (pos 1) (negsuc 0)) (direction steps r)) ≡ true
        go true f h k = sign step.forwards
        go false f (inl e) k = absurd (ne_of r step.arc f e)
        go false f (inr h) k = k h

-- a network that reproduces a matrix with directions reproduces its support
abbrev pub support_realised : (net : Network) (M : ℕ → ℕ → ℤ) (m n : ℕ) → Realises net M m n → RealisesSupport net (λ r c. is_nonzero (M r c)) m n
support_realised net M m n N = record {
  network = N.network;
  paths = λ c l. let p = N.paths c l in record {
    steps = p.steps;
    walk = p.walk;
    once = p.once;
    exact = λ r k. (
      (λ e. (nonzero_direction p.steps r).0 (sym (ap is_nonzero (p.exact r k)) ∙ e)),
      (λ h. ap is_nonzero (p.exact r k) ∙ (nonzero_direction p.steps r).1 h),
    );
  };
}

module _ (net : Network) (n : ℕ) where
  -- the node at an end of column c, and node 0 if there is no column c
  abbrev pub end_node : (c : ℕ) → (c < n) ⊎ (n ≤ c) → Bool → ℕ
  end_node c (inl l) true = tail net.walks c
  end_node c (inl l) false = head net.walks c
  end_node c (inr k) end = 0

  -- the side of arc r that contains an end of column c
  abbrev pub end_side : Bool → ℕ → ℕ → Bool
  end_side end r c = tail_side net.arcs r (end_node c (cases_lt c n) end)

-- M is 0 from column n on
abbrev pub support_cuts : (net : Network) (M : ℕ → ℕ → Bool) (m n : ℕ) → ((r c : ℕ) → M r c ≡ true → c < n) → RealisesSupport net M m n
    → IsCuts M (λ r. r < m) (λ r s. tail_side net.arcs r (tail net.arcs s)) (end_side net n)
support_cuts net M m n short G = record {
  meet = λ end r s c hr hs ne. near net.arcs m G.network.tree r s (end_node net n c (cases_lt c n) end) hr ne (in_range c end (cases_lt c n));
  three = λ r s t hr hs ht rs rt st. near net.arcs m G.network.tree r s (tail net.arcs t) hr rs (G.network.tree.nodes t ht).0;
  uses = λ r c l. by_ends r c l (cases_lt c n);
}
  where
    in_range : (c : ℕ) (end : Bool) (k : (c < n) ⊎ (n ≤ c)) → end_node net n c k end ≤ m
    in_range c true (inl l) = (G.network.nodes c l).0
    in_range c false (inl l) = (G.network.nodes c l).1
    in_range c end (inr k) = omega arith

    differ_self : (x : Bool) → false ≡ differ x x
    differ_self true = refl
    differ_self false = refl

    differ_other : (x y : Bool) → y ≡ not x → true ≡ differ x y
    differ_other true y e = ap not (sym e)
    differ_other false y e = sym e

    by_ends : (r c : ℕ) → r < m → (k : (c < n) ⊎ (n ≤ c)) → M r c ≡ differ (tail_side net.arcs r (end_node net n c k true)) (tail_side net.arcs r (end_node net n c k false))
    by_ends r c l (inr k) = pick (two_cases (M r c)) ∙ differ_self (tail_side net.arcs r 0)
      where
        pick : (M r c ≡ true) ⊎ (M r c ≡ false) → M r c ≡ false
        pick (inl e) = let z = short r c e in absurd (omega arith)
        pick (inr e) = e
    by_ends r c l (inl k) = pick (two_cases (M r c))
      where
        p : IsPathOf net.arcs m (λ r. M r c) (tail net.walks c) (head net.walks c)
        p = G.paths c k

        pick : (M r c ≡ true) ⊎ (M r c ≡ false) → M r c ≡ differ (tail_side net.arcs r (tail net.walks c)) (tail_side net.arcs r (head net.walks c))
        pick (inl e) = e ∙ differ_other (tail_side net.arcs r (tail net.walks c)) (tail_side net.arcs r (head net.walks c))
            (tail_side-path net.arcs m G.network.tree r (tail net.walks c) p.steps (head net.walks c) l p.walk p.once ((p.exact r l).0 e))
        pick (inr e) = e ∙ differ_self (tail_side net.arcs r (tail net.walks c))
            ∙ ap (differ (tail_side net.arcs r (tail net.walks c)))
            (tail_side-walk net.arcs r (tail net.walks c) p.steps (head net.walks c) p.walk (λ h. not_both (M r c) ((p.exact r l).1 h) e))

pub support_has_cuts : (net : Network) (M : ℕ → ℕ → Bool) (m n : ℕ) → ((r c : ℕ) → M r c ≡ true → c < n) → RealisesSupport net M m n → HasCuts M (λ r. r < m)
support_has_cuts net M m n short G = record {
  side = λ r s. tail_side net.arcs r (tail net.arcs s);
  lies = end_side net n;
  cuts = support_cuts net M m n short G;
}

-- the same with directions
pub has_signed_cuts : (net : Network) (M : ℕ → ℕ → ℤ) (m n : ℕ) → ((r c : ℕ) → is_nonzero (M r c) ≡ true → c < n) → Realises net M m n → HasSignedCuts M (λ r. r < m)
has_signed_cuts net M m n short N = record {
  side = λ r s. tail_side net.arcs r (tail net.arcs s);
  lies = end_side net n;
  cuts = support_cuts net (λ r c. is_nonzero (M r c)) m n short (support_realised net M m n N);
  signed = λ r c l. by_ends r c l (cases_lt c n);
}
  where
    by_ends : (r c : ℕ) → r < m → (k : (c < n) ⊎ (n ≤ c))
        → M r c ≡ bit (tail_side net.arcs r (end_node net n c k true)) -ℤ bit (tail_side net.arcs r (end_node net n c k false))
    by_ends r c l (inl k) =
        let p = N.paths c k in
        p.exact r l ∙ direction-path net.arcs m N.network.tree r (tail net.walks c) p.steps (head net.walks c) l p.walk p.once
    by_ends r c l (inr k) = zero_is (M r c) (pick (two_cases (is_nonzero (M r c)))) ∙ same_bit (tail_side net.arcs r 0)
      where
        pick : (is_nonzero (M r c) ≡ true) ⊎ (is_nonzero (M r c) ≡ false) → is_nonzero (M r c) ≡ false
        pick (inl e) = let z = short r c e in absurd (omega arith)
        pick (inr e) = e
