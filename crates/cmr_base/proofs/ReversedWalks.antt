-- Walks after arcs are reversed, reversed walks, and the matrices that a reversed network reproduces.
use Rattle.std.proofs.Common.{ℕ, zero, suc, ℤ, pos, negsuc, neg_ℤ, ◌*ℤ◌, Bool, true, false, not, cond, List, [], ◌∷◌, ◌++◌, map, length, get_or, ◌≡◌, ◌≢◌, ◌<◌, ◌≤◌, ◌∙◌, sym, ap, refl, subst, ◌⊎◌, inl, inr}
use Rattle.std.specs.List.{AllByRecursion}
use Rattle.cmr_base.specs.declared.network.Network.{Network}
use Rattle.cmr_base.specs.declared.network.Pair.{Pair}
use Rattle.cmr_base.specs.Members.{IsIn, IsDistinct}
use Rattle.cmr_base.specs.Signing.{IsSign}
use Rattle.cmr_base.specs.Cuts.{differ}
use Rattle.cmr_base.specs.Trees.{WalkStep, tail, head, from, to, IsWalk, IsTree, arcs_of, direction, IsDirectedPathOf, Realises}
use Rattle.cmr_base.specs.ReversedNetworks.{is_minus, reversed_pairs, reversed_network, IsMultiplied}
use Rattle.cmr_base.proofs.Integers.{products}
use Rattle.cmr_base.proofs.RowLists.{same_or_not, is_eq, is_ne}
use Rattle.cmr_base.proofs.GrownPaths.{in_prefix_or_last, distinct-append, direction-append-other, direction-append-last, walk-append}

-- negated if b is true
abbrev pub negated : Bool → ℤ → ℤ
negated b z = cond b (neg_ℤ z) z

abbrev minus_at : List ℤ → ℕ → Bool
minus_at signs k = is_minus (get_or signs k (pos 1))

length-reversed_pairs : (pairs : List Pair) (signs : List ℤ) → length (reversed_pairs pairs signs) ≡ length pairs
length-reversed_pairs [] signs = refl
length-reversed_pairs (p ∷ pairs) [] = ap (λ (n : ℕ). suc n) (length-reversed_pairs pairs [])
length-reversed_pairs (p ∷ pairs) (s ∷ signs) = ap (λ (n : ℕ). suc n) (length-reversed_pairs pairs signs)

tail-reversed_pairs : (pairs : List Pair) (signs : List ℤ) (k : ℕ) → tail (reversed_pairs pairs signs) k ≡ cond (minus_at signs k) (head pairs k) (tail pairs k)
tail-reversed_pairs [] signs k = none (minus_at signs k)
  where
    none : (b : Bool) → zero ≡ cond b zero zero
    none true = refl
    none false = refl
tail-reversed_pairs (p ∷ pairs) [] zero = refl
tail-reversed_pairs (p ∷ pairs) [] (suc k) = tail-reversed_pairs pairs [] k
tail-reversed_pairs (p ∷ pairs) (s ∷ signs) zero = first (is_minus s)
  where
    first : (b : Bool) → (cond b (record { tail = p.head; head = p.tail }) p).tail ≡ cond b p.head p.tail
    first true = refl
    first false = refl
tail-reversed_pairs (p ∷ pairs) (s ∷ signs) (suc k) = tail-reversed_pairs pairs signs k

head-reversed_pairs : (pairs : List Pair) (signs : List ℤ) (k : ℕ) → head (reversed_pairs pairs signs) k ≡ cond (minus_at signs k) (tail pairs k) (head pairs k)
head-reversed_pairs [] signs k = none (minus_at signs k)
  where
    none : (b : Bool) → zero ≡ cond b zero zero
    none true = refl
    none false = refl
head-reversed_pairs (p ∷ pairs) [] zero = refl
head-reversed_pairs (p ∷ pairs) [] (suc k) = head-reversed_pairs pairs [] k
head-reversed_pairs (p ∷ pairs) (s ∷ signs) zero = first (is_minus s)
  where
    first : (b : Bool) → (cond b (record { tail = p.head; head = p.tail }) p).head ≡ cond b p.tail p.head
    first true = refl
    first false = refl
head-reversed_pairs (p ∷ pairs) (s ∷ signs) (suc k) = head-reversed_pairs pairs signs k

-- ---- arcs reversed

module _ (arcs : List Pair) (signs : List ℤ) where
  reversed_step : WalkStep → WalkStep
  reversed_step s = record { arc = s.arc; forwards = differ (minus_at signs s.arc) s.forwards }

  from-reversed : (s : WalkStep) → from (reversed_pairs arcs signs) (reversed_step s) ≡ from arcs s
  unfolding reversed_step
  from-reversed s = go (minus_at signs s.arc) s.forwards (tail-reversed_pairs arcs signs s.arc) (head-reversed_pairs arcs signs s.arc)
    where
      go : (m d : Bool) → tail (reversed_pairs arcs signs) s.arc ≡ cond m (head arcs s.arc) (tail arcs s.arc) → head (reversed_pairs arcs signs) s.arc ≡ cond m (tail arcs s.arc) (head arcs s.arc)
          → cond (differ m d) (tail (reversed_pairs arcs signs) s.arc) (head (reversed_pairs arcs signs) s.arc) ≡ cond d (tail arcs s.arc) (head arcs s.arc)
      go true true t h = h
      go true false t h = t
      go false true t h = t
      go false false t h = h

  to-reversed : (s : WalkStep) → to (reversed_pairs arcs signs) (reversed_step s) ≡ to arcs s
  unfolding reversed_step
  to-reversed s = go (minus_at signs s.arc) s.forwards (tail-reversed_pairs arcs signs s.arc) (head-reversed_pairs arcs signs s.arc)
    where
      go : (m d : Bool) → tail (reversed_pairs arcs signs) s.arc ≡ cond m (head arcs s.arc) (tail arcs s.arc) → head (reversed_pairs arcs signs) s.arc ≡ cond m (tail arcs s.arc) (head arcs s.arc)
          → cond (differ m d) (head (reversed_pairs arcs signs) s.arc) (tail (reversed_pairs arcs signs) s.arc) ≡ cond d (head arcs s.arc) (tail arcs s.arc)
      go true true t h = t
      go true false t h = h
      go false true t h = h
      go false false t h = t

  walk-reversed : (x : ℕ) (steps : List WalkStep) (y : ℕ) → IsWalk arcs x steps y → IsWalk (reversed_pairs arcs signs) x (map reversed_step steps) y
  unfolding reversed_step
  walk-reversed x [] y w = w
  walk-reversed x (s ∷ steps) y w = (
    subst (λ (n : ℕ). s.arc < n) (sym (length-reversed_pairs arcs signs)) w.0,
    from-reversed s ∙ w.1,
    subst (λ (z : ℕ). IsWalk (reversed_pairs arcs signs) z (map reversed_step steps) y) (sym (to-reversed s)) (walk-reversed (to arcs s) steps y w.2),
  )

  arcs_of-reversed : (steps : List WalkStep) → arcs_of (map reversed_step steps) ≡ arcs_of steps
  unfolding reversed_step
  arcs_of-reversed [] = refl
  arcs_of-reversed (s ∷ steps) = ap (λ (xs : List ℕ). s.arc ∷ xs) (arcs_of-reversed steps)

  direction-reversed : (steps : List WalkStep) (r : ℕ) → direction (map reversed_step steps) r ≡ negated (minus_at signs r) (direction steps r)
  unfolding reversed_step
  direction-reversed [] r = none (minus_at signs r)
    where
      none : (b : Bool) → pos 0 ≡ cond b (neg_ℤ (pos 0)) (pos 0)
      none true = refl
      none false = refl
  direction-reversed (s ∷ steps) r = go (same_or_not r s.arc) (direction-reversed steps r)
    where
      own : (m d : Bool) → cond (differ m d) (pos 1) (negsuc 0) ≡ cond m (neg_ℤ (cond d (pos 1) (negsuc 0))) (cond d (pos 1) (negsuc 0))
      own true true = refl
      own true false = refl
      own false true = refl
      own false false = refl

      go : (r ≡ s.arc) ⊎ (r ≢ s.arc) → direction (map reversed_step steps) r ≡ negated (minus_at signs r) (direction steps r)
          → direction (reversed_step s ∷ map reversed_step steps) r ≡ negated (minus_at signs r) (direction (s ∷ steps) r)
      go (inl e) h = rw (is_eq r s.arc e) (own (minus_at signs s.arc) s.forwards ∙ ap (λ (k : ℕ). negated (minus_at signs k) (cond s.forwards (pos 1) (negsuc 0))) (sym e))
      go (inr n) h = rw (is_ne r s.arc n) h

  tree-reversed : (m : ℕ) → IsTree arcs m → IsTree (reversed_pairs arcs signs) m
  tree-reversed m T = record {
    count = length-reversed_pairs arcs signs ∙ T.count;
    nodes = λ r l. let n = T.nodes r l in (subst (λ (z : ℕ). z ≤ m) (sym (tail-reversed_pairs arcs signs r)) (one_of (minus_at signs r) n.1 n.0), subst (λ (z : ℕ). z ≤ m) (sym (head-reversed_pairs arcs signs r)) (one_of (minus_at signs r) n.0 n.1));
    linked = λ x y i k. let w = T.linked x y i k in (map reversed_step w.0, walk-reversed x w.0 y w.1);
  }
    where
      one_of : (b : Bool) {i k : ℕ} → i ≤ m → k ≤ m → cond b i k ≤ m
      one_of true i k = i
      one_of false i k = k

  path-reversed : (m : ℕ) (column : ℕ → ℤ) (x y : ℕ) → IsDirectedPathOf arcs m column x y → IsDirectedPathOf (reversed_pairs arcs signs) m (λ r. negated (minus_at signs r) (column r)) x y
  path-reversed m column x y p = record {
    steps = map reversed_step p.steps;
    walk = walk-reversed x p.steps y p.walk;
    once = subst IsDistinct (sym (arcs_of-reversed p.steps)) p.once;
    exact = λ r l. ap (negated (minus_at signs r)) (p.exact r l) ∙ sym (direction-reversed p.steps r);
  }

-- ---- reversed walks

abbrev back_step : WalkStep → WalkStep
back_step s = record { arc = s.arc; forwards = not s.forwards }

abbrev way_back : List WalkStep → List WalkStep
way_back [] = []
way_back (s ∷ steps) = way_back steps ++ back_step s ∷ []

in_way_back : (r : ℕ) (steps : List WalkStep) → IsIn r (arcs_of (way_back steps)) → IsIn r (arcs_of steps)
in_way_back r [] h = h
in_way_back r (s ∷ steps) h = go (in_prefix_or_last r (way_back steps) (back_step s) h) (in_way_back r steps)
  where
    go : IsIn r (arcs_of (way_back steps)) ⊎ (r ≡ s.arc) → (IsIn r (arcs_of (way_back steps)) → IsIn r (arcs_of steps)) → (r ≡ s.arc) ⊎ IsIn r (arcs_of steps)
    go (inl k) back = inr (back k)
    go (inr e) back = inl e

way_back-once : (steps : List WalkStep) → IsDistinct (arcs_of steps) → IsDistinct (arcs_of (way_back steps))
way_back-once [] o = o
way_back-once (s ∷ steps) o = distinct-append (way_back steps) (back_step s) (way_back-once steps o.1) (λ h. o.0 (in_way_back s.arc steps h))

direction-way_back : (steps : List WalkStep) → IsDistinct (arcs_of steps) → (r : ℕ) → direction (way_back steps) r ≡ neg_ℤ (direction steps r)
direction-way_back [] o r = refl
direction-way_back (s ∷ steps) o r = go (same_or_not r s.arc) (direction-way_back steps o.1 r)
  where
    reversed : (d : Bool) → cond (not d) (pos 1) (negsuc 0) ≡ neg_ℤ (cond d (pos 1) (negsuc 0))
    reversed true = refl
    reversed false = refl

    go : (r ≡ s.arc) ⊎ (r ≢ s.arc) → direction (way_back steps) r ≡ neg_ℤ (direction steps r) → direction (way_back steps ++ back_step s ∷ []) r ≡ neg_ℤ (direction (s ∷ steps) r)
    go (inl e) h = direction-append-last r (way_back steps) (back_step s) e (λ k. o.0 (subst (λ (z : ℕ). IsIn z (arcs_of steps)) e (in_way_back r steps k)))
        ∙ reversed s.forwards ∙ sym (ap (λ (b : Bool). neg_ℤ (cond b (cond s.forwards (pos 1) (negsuc 0)) (direction steps r))) (is_eq r s.arc e))
    go (inr n) h = direction-append-other r (way_back steps) (back_step s) n ∙ h
        ∙ sym (ap (λ (b : Bool). neg_ℤ (cond b (cond s.forwards (pos 1) (negsuc 0)) (direction steps r))) (is_ne r s.arc n))

module _ (arcs : List Pair) where
  walk-way_back : (x : ℕ) (steps : List WalkStep) (y : ℕ) → IsWalk arcs x steps y → IsWalk arcs y (way_back steps) x
  walk-way_back x [] y w = sym w
  walk-way_back x (s ∷ steps) y w = subst (λ (z : ℕ). IsWalk arcs y (way_back steps ++ back_step s ∷ []) z) (other s.forwards ∙ w.1)
      (walk-append arcs y (way_back steps) (to arcs s) (back_step s) (walk-way_back (to arcs s) steps y w.2) w.0 (turn s.forwards))
    where
      turn : (d : Bool) → cond (not d) (tail arcs s.arc) (head arcs s.arc) ≡ cond d (head arcs s.arc) (tail arcs s.arc)
      turn true = refl
      turn false = refl

      other : (d : Bool) → cond (not d) (head arcs s.arc) (tail arcs s.arc) ≡ cond d (tail arcs s.arc) (head arcs s.arc)
      other true = refl
      other false = refl

  path-way_back : (m : ℕ) (column : ℕ → ℤ) (x y : ℕ) → IsDirectedPathOf arcs m column x y → IsDirectedPathOf arcs m (λ r. neg_ℤ (column r)) y x
  path-way_back m column x y p = record {
    steps = way_back p.steps;
    walk = walk-way_back x p.steps y p.walk;
    once = way_back-once p.steps p.once;
    exact = λ r l. ap neg_ℤ (p.exact r l) ∙ sym (direction-way_back p.steps p.once r);
  }

-- ---- networks

negated-sign : (s z : ℤ) → IsSign s → negated (is_minus s) z ≡ s *ℤ z
negated-sign s z (inl e) = rw e (simp products)
negated-sign s z (inr e) = rw e (simp products)

sign_at : (signs : List ℤ) (k : ℕ) → AllByRecursion IsSign signs → IsSign (get_or signs k (pos 1))
sign_at [] k h = inl refl
sign_at (s ∷ signs) zero h = h.0
sign_at (s ∷ signs) (suc k) h = sign_at signs k h.1

-- if rows and columns are multiplied by signs, the network is reversed by these signs
pub reversed_realises : (net : Network) (M N : ℕ → ℕ → ℤ) (m n : ℕ) (row_signs column_signs : List ℤ) → IsMultiplied M N m n row_signs column_signs → Realises net M m n
    → Realises (reversed_network net row_signs column_signs) N m n
reversed_realises net M N m n row_signs column_signs k R = record {
  network = record {
    tree = tree-reversed net.arcs row_signs m R.network.tree;
    count = length-reversed_pairs net.walks column_signs ∙ R.network.count;
    nodes = λ c l. let e = R.network.nodes c l in (subst (λ (z : ℕ). z ≤ m) (sym (tail-reversed_pairs net.walks column_signs c)) (one_of (minus_at column_signs c) e.1 e.0), subst (λ (z : ℕ). z ≤ m) (sym (head-reversed_pairs net.walks column_signs c)) (one_of (minus_at column_signs c) e.0 e.1));
  };
  paths = λ c l. whole c l;
}
  where
    one_of : (b : Bool) {i k : ℕ} → i ≤ m → k ≤ m → cond b i k ≤ m
    one_of true i k = i
    one_of false i k = k

    -- the path of a column, reversed if the column's sign is -1
    along : (c : ℕ) (b : Bool) → c < n
        → IsDirectedPathOf (reversed_pairs net.arcs row_signs) m (λ r. negated b (negated (minus_at row_signs r) (M r c))) (cond b (head net.walks c) (tail net.walks c)) (cond b (tail net.walks c) (head net.walks c))
    along c true l = path-way_back (reversed_pairs net.arcs row_signs) m (λ r. negated (minus_at row_signs r) (M r c)) (tail net.walks c) (head net.walks c) (path-reversed net.arcs row_signs m (λ r. M r c) (tail net.walks c) (head net.walks c) (R.paths c l))
    along c false l = path-reversed net.arcs row_signs m (λ r. M r c) (tail net.walks c) (head net.walks c) (R.paths c l)

    entry_is : (r c : ℕ) → r < m → c < n → N r c ≡ negated (minus_at column_signs c) (negated (minus_at row_signs r) (M r c))
    entry_is r c i l = k.entries r c i l ∙ swap (get_or row_signs r (pos 1)) (get_or column_signs c (pos 1)) (M r c)
        ∙ sym (negated-sign (get_or column_signs c (pos 1)) (negated (minus_at row_signs r) (M r c)) (sign_at column_signs c k.columns)
        ∙ ap (λ (z : ℤ). get_or column_signs c (pos 1) *ℤ z) (negated-sign (get_or row_signs r (pos 1)) (M r c) (sign_at row_signs r k.rows)))
      where
        swap : (a b z : ℤ) → a *ℤ (b *ℤ z) ≡ b *ℤ (a *ℤ z)
        swap a b z = simp products

    whole : (c : ℕ) → c < n → IsDirectedPathOf (reversed_pairs net.arcs row_signs) m (λ r. N r c) (tail (reversed_pairs net.walks column_signs) c) (head (reversed_pairs net.walks column_signs) c)
    whole c l =
        let p = along c (minus_at column_signs c) l in
        record {
          steps = p.steps;
          walk = subst (λ (x : ℕ). IsWalk (reversed_pairs net.arcs row_signs) x p.steps (head (reversed_pairs net.walks column_signs) c)) (sym (tail-reversed_pairs net.walks column_signs c))
              (subst (λ (y : ℕ). IsWalk (reversed_pairs net.arcs row_signs) (cond (minus_at column_signs c) (head net.walks c) (tail net.walks c)) p.steps y) (sym (head-reversed_pairs net.walks column_signs c)) p.walk);
          once = p.once;
          exact = λ r i. entry_is r c i l ∙ p.exact r i;
        }
