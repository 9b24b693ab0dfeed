-- Labels of components: pairs of nodes are joined one after another, and joined nodes get one label.
use Rattle.std.proofs.Common.{ℕ, Bool, true, false, cond, List, [], ◌∷◌, ◌≡◌, ◌∙◌, sym, ap, refl, ◌⊎◌, inl, inr, nat_eq}
use Rattle.cmr_base.specs.declared.network.Pair.{Pair}
use Rattle.cmr_base.proofs.RowLists.{eq_of, self_eq}

-- the labels after u and v are joined
abbrev pub joined : (ℕ → ℕ) → ℕ → ℕ → ℕ → ℕ
joined label u v x = cond (nat_eq (label x) (label v)) (label u) (label x)

-- the labels after all pairs are joined
abbrev pub labels : (ℕ → ℕ) → List Pair → ℕ → ℕ
labels label [] = label
labels label (pair ∷ pairs) = labels (joined label pair.tail pair.head) pairs

abbrev pub HasPair : ℕ → ℕ → List Pair → Type 0
HasPair u v [] = ⊥
HasPair u v (pair ∷ pairs) = ((u ≡ pair.tail) × (v ≡ pair.head)) ⊎ HasPair u v pairs

abbrev pub EveryPair : (ℕ → ℕ → Type 0) → List Pair → Type 0
EveryPair E [] = Unit {0}
EveryPair E (pair ∷ pairs) = E pair.tail pair.head × EveryPair E pairs

-- nodes with one label keep one label
pub labels_keep : (label : ℕ → ℕ) (pairs : List Pair) (x y : ℕ) → label x ≡ label y → labels label pairs x ≡ labels label pairs y
labels_keep label [] x y e = e
labels_keep label (p ∷ ps) x y e = labels_keep (joined label p.tail p.head) ps x y (ap (λ (n : ℕ). cond (nat_eq n (label p.head)) (label p.tail) n) e)

joined_ends : (label : ℕ → ℕ) (u v : ℕ) → joined label u v u ≡ joined label u v v
joined_ends label u v = first (nat_eq (label u) (label v)) ∙ sym (ap (λ (t : Bool). cond t (label u) (label v)) (self_eq (label v)))
  where
    first : (t : Bool) → cond t (label u) (label u) ≡ label u
    first true = refl
    first false = refl

-- the nodes of a pair get one label
pub labels_join : (label : ℕ → ℕ) (pairs : List Pair) (u v : ℕ) → HasPair u v pairs → labels label pairs u ≡ labels label pairs v
labels_join label [] u v h = absurd h
labels_join label (p ∷ ps) u v (inl (a, b)) =
    labels_keep (joined label p.tail p.head) ps u v
    (ap (joined label p.tail p.head) a ∙ joined_ends label p.tail p.head ∙ ap (joined label p.tail p.head) (sym b))
labels_join label (p ∷ ps) u v (inr h) = labels_join (joined label p.tail p.head) ps u v h

-- nodes that get one label are equivalent, if the nodes of each pair are equivalent
pub labels_only : (E : ℕ → ℕ → Type 0) → ((x y : ℕ) → E x y → E y x) → ((x y z : ℕ) → E x y → E y z → E x z)
    → (label : ℕ → ℕ) (pairs : List Pair) → EveryPair E pairs → ((x y : ℕ) → label x ≡ label y → E x y) → (x y : ℕ) → labels label pairs x ≡ labels label pairs y → E x y
labels_only E flip trans label [] all h x y e = h x y e
labels_only E flip trans label (p ∷ ps) all h x y e = labels_only E flip trans (joined label p.tail p.head) ps all.1 step x y e
  where
    step : (x y : ℕ) → joined label p.tail p.head x ≡ joined label p.tail p.head y → E x y
    step x y e = go (nat_eq (label x) (label p.head)) (nat_eq (label y) (label p.head)) refl refl e
      where
        go : (s t : Bool) → nat_eq (label x) (label p.head) ≡ s → nat_eq (label y) (label p.head) ≡ t → cond s (label p.tail) (label x) ≡ cond t (label p.tail) (label y) → E x y
        go true true a b e = h x y (eq_of (label x) (label p.head) a ∙ sym (eq_of (label y) (label p.head) b))
        go true false a b e = trans x p.head y (h x p.head (eq_of (label x) (label p.head) a)) (trans p.head p.tail y (flip p.tail p.head all.0) (h p.tail y e))
        go false true a b e = trans x p.tail y (h x p.tail e) (trans p.tail p.head y all.0 (h p.head y (sym (eq_of (label y) (label p.head) b))))
        go false false a b e = h x y e
