-- Trees that grow arc by arc, in an order in which no arc lies beyond a later one, and the arcs beyond which their nodes lie.
use Rattle.std.proofs.Common.{ℕ, suc, Bool, true, false, cond, List, [], ◌∷◌, ◌≡◌, ◌≢◌, ◌≤◌, ◌∙◌, sym, ap, refl, arith, subst, ◌⊎◌, inl, inr, nat_eq, length}
use Rattle.cmr_base.specs.Members.{IsIn, IsDistinct}
use Rattle.cmr_base.specs.GrownTrees.{IsOrdered, HungArc, node_of, grown}
use Rattle.cmr_base.proofs.RowLists.{not_both, two_cases, search_rows, is_eq, is_ne, self_eq}

-- whether node z lies beyond arc j, seen from node 0
abbrev pub beyond_in : List HungArc → ℕ → ℕ → Bool
beyond_in [] j z = false
beyond_in (a ∷ t) j z = cond (nat_eq z (suc (length t))) (cond (nat_eq j a.row) true (beyond_in t j a.node)) (beyond_in t j z)

pub node_of_in_range : (t : List HungArc) (x : ℕ → Bool) → node_of t x ≤ length t
node_of_in_range [] x = omega arith
node_of_in_range (a ∷ t) x = go (x a.row) (node_of_in_range t x)
  where
    go : (b : Bool) → node_of t x ≤ length t → cond b (suc (length t)) (node_of t x) ≤ suc (length t)
    go true l = omega arith
    go false l = omega arith

-- the rows of the arcs
abbrev pub rows_of : List HungArc → List ℕ
rows_of [] = []
rows_of (a ∷ t) = a.row ∷ rows_of t

pub beyond_in-absent : (t : List HungArc) (j z : ℕ) → ¬ (IsIn j (rows_of t)) → beyond_in t j z ≡ false
beyond_in-absent [] j z h = refl
beyond_in-absent (a ∷ t) j z h = go (nat_eq z (suc (length t))) (beyond_in-absent t j a.node (λ k. h (inr k))) (beyond_in-absent t j z (λ k. h (inr k)))
  where
    go : (b : Bool) → beyond_in t j a.node ≡ false → beyond_in t j z ≡ false → cond b (cond (nat_eq j a.row) true (beyond_in t j a.node)) (beyond_in t j z) ≡ false
    go true e f = rw (is_ne j a.row (λ k. h (inl k))) e
    go false e f = f

-- beyond r s: arc s is beyond arc r
module _ (beyond : ℕ → ℕ → Bool) where
  pub rows-grown : (L : List ℕ) → rows_of (grown beyond L) ≡ L
  rows-grown [] = refl
  rows-grown (h ∷ L) = ap (λ (z : List ℕ). h ∷ z) (rows-grown L)

  pub length-grown : (L : List ℕ) → length (grown beyond L) ≡ length L
  length-grown [] = refl
  length-grown (h ∷ L) = ap (λ (z : ℕ). suc z) (length-grown L)

  -- the same rows in an order in which the tree grows
  pub record IsOrderOf (rows list : List ℕ) : Type 0 where
    pub order : IsOrdered beyond list
    pub all : (x : ℕ) → IsIn x rows → IsIn x list
    pub only : (x : ℕ) → IsIn x list → IsIn x rows
    pub count : length list ≡ length rows

  -- the arcs beyond which a node lies: of two arcs, one has the node and the other arc on one side
  abbrev pub IsNode : (ℕ → Type 0) → (ℕ → Bool) → Type 0
  IsNode R x = (r s : ℕ) → R r → R s → r ≢ s → (x r ≡ beyond r s) ⊎ (x s ≡ beyond s r)

  module _ (R : ℕ → Type 0)
      (three : (r s t : ℕ) → R r → R s → R t → r ≢ s → r ≢ t → s ≢ t → (beyond r t ≡ beyond r s) ⊎ (beyond s t ≡ beyond s r))
      (root : (r s : ℕ) → R r → R s → r ≢ s → (beyond r s ≡ false) ⊎ (beyond s r ≡ false)) where
    -- the node of a set of arcs lies beyond exactly these arcs
    pub beyond_in-node_of : (L : List ℕ) → IsOrdered beyond L → ((y : ℕ) → IsIn y L → R y) → (x : ℕ → Bool) → IsNode (λ r. IsIn r L) x → (j : ℕ) → IsIn j L
        → beyond_in (grown beyond L) j (node_of (grown beyond L) x) ≡ x j
    beyond_in-node_of [] o sub x n j h = absurd h
    beyond_in-node_of (h ∷ L) o sub x n j k = go (x h) refl k
        (λ m. beyond_in-node_of L o.1 (λ y m. sub y (inr m)) x (λ r s hr hs rs. n r s (inr hr) (inr hs) rs) j m)
        (λ m. beyond_in-node_of L o.1 (λ y m. sub y (inr m)) (λ j. beyond j h)
        (λ r s hr hs rs. three r s h (sub r (inr hr)) (sub s (inr hs)) (sub h (inl refl)) rs (λ e. (o.0 r hr).0 (sym e)) (λ e. (o.0 s hs).0 (sym e))) j m)
      where
        -- if the node lies beyond h, it lies beyond the same earlier arcs as h
        passed : x h ≡ true → IsIn j L → x j ≡ beyond j h
        passed e m = pick (n h j (inl refl) (inr m) (o.0 j m).0)
          where
            pick : (x h ≡ beyond h j) ⊎ (x j ≡ beyond j h) → x j ≡ beyond j h
            pick (inl a) = absurd (not_both (x h) e (a ∙ (o.0 j m).1))
            pick (inr a) = a

        old : (z : ℕ) → z ≤ length (grown beyond L) → nat_eq z (suc (length (grown beyond L))) ≡ false
        old z l = is_ne z (suc (length (grown beyond L))) (λ e. absurd (omega arith))

        not_in : ¬ (IsIn h (rows_of (grown beyond L)))
        not_in m = (o.0 h (subst (λ (z : List ℕ). IsIn h z) (rows-grown L) m)).0 refl

        go : (b : Bool) → x h ≡ b → (j ≡ h) ⊎ IsIn j L → (IsIn j L → beyond_in (grown beyond L) j (node_of (grown beyond L) x) ≡ x j)
            → (IsIn j L → beyond_in (grown beyond L) j (node_of (grown beyond L) (λ j. beyond j h)) ≡ beyond j h)
            → beyond_in (grown beyond (h ∷ L)) j (cond b (suc (length (grown beyond L))) (node_of (grown beyond L) x)) ≡ x j
        go true e (inl f) r q = rw (self_eq (suc (length (grown beyond L))), is_eq j h f) (sym (ap x f ∙ e))
        go true e (inr m) r q = rw (self_eq (suc (length (grown beyond L))), is_ne j h (λ f. (o.0 j m).0 (sym f))) (q m ∙ sym (passed e m))
        go false e (inl f) r q = rw (old (node_of (grown beyond L) x) (node_of_in_range (grown beyond L) x)) (ap (λ (z : ℕ). beyond_in (grown beyond L) z (node_of (grown beyond L) x)) f ∙ beyond_in-absent (grown beyond L) h (node_of (grown beyond L) x) not_in ∙ sym (ap x f ∙ e))
        go false e (inr m) r q = rw (old (node_of (grown beyond L) x) (node_of_in_range (grown beyond L) x)) (r m)

    -- lying beyond is transitive
    beyond_trans : (r s t : ℕ) → R r → R s → R t → r ≢ s → r ≢ t → s ≢ t → beyond r s ≡ true → beyond s t ≡ true → beyond r t ≡ true
    beyond_trans r s t hr hs ht rs rt st a b = go (three r s t hr hs ht rs rt st) (root r s hr hs rs)
      where
        go : (beyond r t ≡ beyond r s) ⊎ (beyond s t ≡ beyond s r) → (beyond r s ≡ false) ⊎ (beyond s r ≡ false) → beyond r t ≡ true
        go (inl e) q = e ∙ a
        go (inr e) (inl q) = absurd (not_both (beyond r s) a q)
        go (inr e) (inr q) = absurd (not_both (beyond s t) b (e ∙ q))

    -- one more row
    HasInserted : ℕ → List ℕ → Type 0
    HasInserted x ys = (zs : List ℕ) × IsOrdered beyond zs × ((z : ℕ) → (z ≡ x) ⊎ IsIn z ys → IsIn z zs) × ((z : ℕ) → IsIn z zs → (z ≡ x) ⊎ IsIn z ys) × (length zs ≡ suc (length ys))

    inserted : (x : ℕ) (ys : List ℕ) → R x → ((y : ℕ) → IsIn y ys → R y) → (¬ (IsIn x ys)) → IsOrdered beyond ys → HasInserted x ys
    unfolding HasInserted
    inserted x [] hx sub new o = (x ∷ [], ((λ y k. absurd k), tt), λ z k. k, λ z k. k, refl)
    inserted x (h ∷ L) hx sub new o = go (search_rows (λ y. beyond x y ≡ true) (λ y. beyond x y ≡ false) (λ y. two_cases (beyond x y)) (h ∷ L)) (inserted x L hx (λ y m. sub y (inr m)) (λ m. new (inr m)) o.1)
      where
        clear : (y : ℕ) → (y ≡ h) ⊎ IsIn y L → beyond x y ≡ true → beyond h x ≡ false
        clear y m e = pick (two_cases (beyond h x)) m
          where
            pick : (beyond h x ≡ true) ⊎ (beyond h x ≡ false) → (y ≡ h) ⊎ IsIn y L → beyond h x ≡ false
            pick (inr f) k = f
            pick (inl f) (inl g) = root_no (root x h hx (sub h (inl refl)) (λ q. new (inl q)))
              where
                root_no : (beyond x h ≡ false) ⊎ (beyond h x ≡ false) → beyond h x ≡ false
                root_no (inl a) = absurd (not_both (beyond x y) e (ap (beyond x) g ∙ a))
                root_no (inr a) = a
            pick (inl f) (inr k) = absurd (not_both (beyond h y)
                (beyond_trans h x y (sub h (inl refl)) hx (sub y (inr k)) (λ q. new (inl (sym q))) (o.0 y k).0 (λ q. new (inr (subst (λ (z : ℕ). IsIn z L) (sym q) k))) f e) (o.0 y k).1)

        go : ((y : ℕ) × ((y ≡ h) ⊎ IsIn y L) × (beyond x y ≡ true)) ⊎ ((y : ℕ) → (y ≡ h) ⊎ IsIn y L → beyond x y ≡ false) → HasInserted x L → HasInserted x (h ∷ L)
        go (inr none) r = (x ∷ h ∷ L, ((λ y k. ((λ e. new (subst (λ (z : ℕ). (z ≡ h) ⊎ IsIn z L) (sym e) k)), none y k)), o), λ z k. k, λ z k. k, refl)
        go (inl (y, m, e)) r = (h ∷ r.0, (least, r.1), to, back, ap (λ (z : ℕ). suc z) r.4)
          where
            least : (z : ℕ) → IsIn z r.0 → (h ≢ z) × (beyond h z ≡ false)
            least z k = pick (r.3 z k)
              where
                pick : (z ≡ x) ⊎ IsIn z L → (h ≢ z) × (beyond h z ≡ false)
                pick (inl f) = ((λ q. new (inl (sym (q ∙ f)))), ap (beyond h) f ∙ clear y m e)
                pick (inr k) = o.0 z k

            to : (z : ℕ) → (z ≡ x) ⊎ ((z ≡ h) ⊎ IsIn z L) → (z ≡ h) ⊎ IsIn z r.0
            to z (inl f) = inr (r.2 z (inl f))
            to z (inr (inl f)) = inl f
            to z (inr (inr k)) = inr (r.2 z (inr k))

            back : (z : ℕ) → (z ≡ h) ⊎ IsIn z r.0 → (z ≡ x) ⊎ ((z ≡ h) ⊎ IsIn z L)
            back z (inl f) = inr (inl f)
            back z (inr k) = pick (r.3 z k)
              where
                pick : (z ≡ x) ⊎ IsIn z L → (z ≡ x) ⊎ ((z ≡ h) ⊎ IsIn z L)
                pick (inl f) = inl f
                pick (inr k) = inr (inr k)

    pub has_order : (xs : List ℕ) → IsDistinct xs → ((y : ℕ) → IsIn y xs → R y) → (list : List ℕ) × IsOrderOf xs list
    unfolding HasInserted
    has_order [] d sub = ([], record { order = tt; all = λ x h. h; only = λ x h. h; count = refl })
    has_order (x ∷ xs) d sub = go (has_order xs d.1 (λ y m. sub y (inr m)))
      where
        go : (list : List ℕ) × IsOrderOf xs list → (list : List ℕ) × IsOrderOf (x ∷ xs) list
        go (list, s) =
            let r = inserted x list (sub x (inl refl)) (λ y m. sub y (inr (s.only y m))) (λ m. d.0 (s.only x m)) s.order in
            (r.0, record { order = r.1; all = λ z k. r.2 z (down z k); only = λ z k. up z (r.3 z k); count = r.4 ∙ ap (λ (z : ℕ). suc z) s.count })
          where
            down : (z : ℕ) → (z ≡ x) ⊎ IsIn z xs → (z ≡ x) ⊎ IsIn z list
            down z (inl e) = inl e
            down z (inr k) = inr (s.all z k)

            up : (z : ℕ) → (z ≡ x) ⊎ IsIn z list → (z ≡ x) ⊎ IsIn z xs
            up z (inl e) = inl e
            up z (inr k) = inr (s.only z k)
