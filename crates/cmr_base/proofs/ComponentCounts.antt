-- Counts of components: each pair joins at most two components into one.
use Rattle.std.proofs.Common.{ℕ, zero, suc, Bool, true, false, cond, List, [], ◌∷◌, ◌≡◌, ◌<◌, ◌≤◌, ◌+◌, ◌∙◌, sym, ap, refl, arith, nat_eq, length}
use Rattle.cmr_base.specs.declared.network.Pair.{Pair}
use Rattle.cmr_base.proofs.RowLists.{eq_of, self_eq, is_ne}
use Rattle.cmr_base.proofs.ComponentLabels.{joined, labels}

-- the number of nodes below n that are the labels of their own components
abbrev pub representatives : ℕ → (ℕ → ℕ) → ℕ
representatives zero label = 0
representatives (suc n) label = cond (nat_eq (label n) n) 1 0 + representatives n label

label_label-joined : (label : ℕ → ℕ) (u v : ℕ) → ((x : ℕ) → label (label x) ≡ label x) → (x : ℕ) → joined label u v (joined label u v x) ≡ joined label u v x
label_label-joined label u v h x = go (nat_eq (label x) (label v)) refl
  where
    either_way : (t : Bool) → nat_eq (label u) (label v) ≡ t → cond t (label u) (label u) ≡ label u
    either_way true e = refl
    either_way false e = refl

    go : (t : Bool) → nat_eq (label x) (label v) ≡ t → joined label u v (cond t (label u) (label x)) ≡ cond t (label u) (label x)
    go true e = rw (h u) (either_way (nat_eq (label u) (label v)) refl)
    go false e = rw (h x, e) refl

-- 1 if p is below n, and 0 otherwise
abbrev pub count_at : ℕ → ℕ → ℕ
count_at p zero = 0
count_at p (suc n) = cond (nat_eq n p) 1 0 + count_at p n

count_at-above : (p n : ℕ) → n ≤ p → count_at p n ≡ 0
count_at-above p zero l = refl
count_at-above p (suc n) l = rw (is_ne n p (λ e. absurd (omega arith)), count_at-above p n (omega arith)) refl

pub count_at_most_one : (p n : ℕ) → count_at p n ≤ 1
count_at_most_one p zero = omega arith
count_at_most_one p (suc n) = go (nat_eq n p) refl (count_at_most_one p n)
  where
    same : (n p : ℕ) → n ≡ p → n ≤ p
    same n p e = omega arith

    go : (t : Bool) → nat_eq n p ≡ t → count_at p n ≤ 1 → cond t 1 0 + count_at p n ≤ 1
    go true e k = let z : count_at p n ≡ 0 = count_at-above p n (same n p (eq_of n p e)) in omega arith
    go false e k = omega arith

-- one join removes at most one representative
fewer_by_join : (label : ℕ → ℕ) (u v : ℕ) → ((x : ℕ) → label (label x) ≡ label x) → (n : ℕ) → representatives n label ≤ representatives n (joined label u v) + count_at (label v) n
fewer_by_join label u v h zero = omega arith
fewer_by_join label u v h (suc n) =
    add (cond (nat_eq (label n) n) 1 0) (cond (nat_eq (joined label u v n) n) 1 0) (cond (nat_eq n (label v)) 1 0)
    (representatives n label) (representatives n (joined label u v)) (count_at (label v) n)
    (node (nat_eq (label n) n) (nat_eq n (label v)) refl refl) (fewer_by_join label u v h n)
  where
    add : (a b c x y z : ℕ) → a ≤ b + c → x ≤ y + z → a + x ≤ (b + y) + (c + z)
    add a b c x y z e f = omega arith

    node : (s t : Bool) → nat_eq (label n) n ≡ s → nat_eq n (label v) ≡ t → cond s 1 0 ≤ cond (nat_eq (cond (nat_eq (label n) (label v)) (label u) (label n)) n) 1 0 + cond t 1 0
    node false t e f = omega arith
    node true true e f = omega arith
    node true false e f =
        let own : label n ≡ n = eq_of (label n) n e in
        let other : nat_eq (label n) (label v) ≡ false = ap (λ (z : ℕ). nat_eq z (label v)) own ∙ f in
        rw (other, e) (omega arith)

-- the pairs remove at most as many representatives as there are pairs
pub fewer_representatives : (n : ℕ) (label : ℕ → ℕ) (pairs : List Pair) → ((x : ℕ) → label (label x) ≡ label x) → representatives n label ≤ representatives n (labels label pairs) + length pairs
fewer_representatives n label [] h = omega arith
fewer_representatives n label (p ∷ ps) h =
    let rest = fewer_representatives n (joined label p.tail p.head) ps (label_label-joined label p.tail p.head h) in
    let first = fewer_by_join label p.tail p.head h n in
    let most = count_at_most_one (label p.head) n in
    omega arith

pub representatives-own : (n : ℕ) → representatives n (λ x. x) ≡ n
representatives-own zero = refl
representatives-own (suc n) = rw (self_eq n, representatives-own n) (plain n)
  where
    plain : (n : ℕ) → 1 + n ≡ suc n
    plain n = omega arith

-- if all nodes have one label, there is at most one representative
pub one_representative : (n : ℕ) (label : ℕ → ℕ) (p : ℕ) → ((x : ℕ) → x < n → label x ≡ p) → representatives n label ≤ count_at p n
one_representative zero label p h = omega arith
one_representative (suc n) label p h =
    let rest = one_representative n label p (λ x l. h x (omega arith)) in
    go (nat_eq (label n) n) refl rest
  where
    flip : (a b : ℕ) → a ≡ b → nat_eq b a ≡ true
    flip a b k = ap (nat_eq b) k ∙ self_eq b

    go : (t : Bool) → nat_eq (label n) n ≡ t → representatives n label ≤ count_at p n → cond t 1 0 + representatives n label ≤ cond (nat_eq n p) 1 0 + count_at p n
    go true e k =
        let f : nat_eq n p ≡ true = ap (nat_eq n) (sym (h n (omega arith))) ∙ flip (label n) n (eq_of (label n) n e) in
        rw f (omega arith)
    go false e k = omega arith
