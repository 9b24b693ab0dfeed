-- Arcs in a growing order, and the tree that grows in this order.
use Rattle.std.proofs.Common.{◌≡◌, ◌≢◌, ◌<◌, ◌≤◌, ◌+◌, ◌-◌, ◌++◌, ◌∙◌, ℕ, zero, suc, Bool, true, false, cond, List, [], ◌∷◌, length, map, get_or, take, drop, drop-cons, sym, ap, refl, subst, arith, ◌⊎◌, inl, inr}
use Rattle.std.specs.List.{insert}
use Rattle.std.proofs.lemmas.Bool.{cases_lt}
use Rattle.std.proofs.lemmas.List.{length-drop}
use Rattle.std.proofs.lemmas.List.FromFn.{length-range_with_len, map-range_with_len_more}
use Rattle.cmr_base.proofs.RemovedLines.{first_lines_in, in_first_lines}
use Rattle.cmr_base.specs.Cuts.{IsCuts}
use Rattle.cmr_base.specs.GrownTrees.{IsOrdered, arcs_by, beyond, grown, node_of, pair_of, place, reversed_unless, walks_by}
use Rattle.cmr_base.specs.LineSets.{first_lines}
use Rattle.cmr_base.specs.Members.{IsIn}
use Rattle.cmr_base.specs.declared.network.Pair.{Pair}
use Rattle.cmr_base.proofs.GrownNodes.{IsOrderOf, length-grown}
use Rattle.cmr_base.proofs.Members.{in_at}
use Rattle.cmr_base.proofs.RowLists.{not_both, is_eq}
use Rattle.graph_realise.specs.Orders.{IsGrowingOrder}
use Rattle.cmr_base.proofs.Places.{found_at}
use Rattle.cmr_base.proofs.CutTrees.{root_beyond, three_beyond}

module _ (M : ℕ → ℕ → Bool) (m : ℕ) (side : ℕ → ℕ → Bool) (lies : Bool → ℕ → ℕ → Bool) (K : IsCuts M (λ r. r < m) side lies) where
  -- if y lies beyond x and not beyond h, x does not lie beyond h
  clear : (h x y : ℕ) → h < m → x < m → y < m → h ≢ x → x ≢ y → h ≢ y → beyond side lies x y ≡ true → beyond side lies h y ≡ false → beyond side lies h x ≡ false
  clear h x y lh lx ly hx xy hy e f = through (three_beyond M m side lies K h x y lh lx ly hx hy xy) (root_beyond M m side lies K h x lh lx hx)
    where
      through : (beyond side lies h y ≡ beyond side lies h x) ⊎ (beyond side lies x y ≡ beyond side lies x h)
          → (beyond side lies h x ≡ false) ⊎ (beyond side lies x h ≡ false) → beyond side lies h x ≡ false
      through (inl a) q = sym a ∙ f
      through (inr a) (inl b) = b
      through (inr a) (inr b) = absurd (not_both (beyond side lies x y) e (a ∙ b))

  in_inserted : (ys : List ℕ) (p x z : ℕ) → IsIn z (take p ys ++ x ∷ drop p ys) → (z ≡ x) ⊎ IsIn z ys
  in_inserted ys zero x z h = h
  in_inserted [] (suc p) x z h = h
  in_inserted (y ∷ ys) (suc p) x z (inl e) = inr (inl e)
  in_inserted (y ∷ ys) (suc p) x z (inr h) = go (in_inserted ys p x z h)
    where
      go : (z ≡ x) ⊎ IsIn z ys → (z ≡ x) ⊎ ((z ≡ y) ⊎ IsIn z ys)
      go (inl e) = inl e
      go (inr k) = inr (inr k)

  inserted_in : (ys : List ℕ) (p x z : ℕ) → (z ≡ x) ⊎ IsIn z ys → IsIn z (take p ys ++ x ∷ drop p ys)
  inserted_in ys zero x z h = h
  inserted_in [] (suc p) x z h = h
  inserted_in (y ∷ ys) (suc p) x z (inl e) = inr (inserted_in ys p x z (inl e))
  inserted_in (y ∷ ys) (suc p) x z (inr (inl e)) = inl e
  inserted_in (y ∷ ys) (suc p) x z (inr (inr h)) = inr (inserted_in ys p x z (inr h))

  inserted_ordered : (ys : List ℕ) (p x : ℕ) → x < m → ((y : ℕ) → IsIn y ys → y < m) → ¬ (IsIn x ys) → IsOrdered (beyond side lies) ys → p ≤ length ys
      → ((k : ℕ) → k + 1 ≡ p → beyond side lies x (get_or ys k 0) ≡ true) → ((k : ℕ) → p ≤ k → k < length ys → beyond side lies x (get_or ys k 0) ≡ false)
      → IsOrdered (beyond side lies) (take p ys ++ x ∷ drop p ys)
  inserted_ordered ys zero x lx below new o le last tail =
      ((λ y h. let q = found_at ys y h in ((λ e. new (subst (λ (z : ℕ). IsIn z ys) (sym e) h)), subst (λ (z : ℕ). beyond side lies x z ≡ false) q.2 (tail q.0 (omega arith) q.1))), o)
  inserted_ordered [] (suc p) x lx below new o le last tail = absurd (omega arith)
  inserted_ordered (h ∷ L) (suc p) x lx below new o le last tail = (
    least,
    inserted_ordered L p x lx (λ y k. below y (inr k)) (λ k. new (inr k)) o.1 (omega arith) later (λ k a b. tail (suc k) (omega arith) (omega arith)),
  )
    where
      later : (k : ℕ) → k + 1 ≡ p → beyond side lies x (get_or L k 0) ≡ true
      later k e = last (suc k) (omega arith)

      -- the arc before the position lies beyond x
      near : h ≢ x → beyond side lies h x ≡ false
      near n = go (cases_lt 0 p)
        where
          go : (0 < p) ⊎ (p ≤ 0) → beyond side lies h x ≡ false
          go (inl l) =
              let y = get_or L (p - 1) 0 in
              let k = in_at L (p - 1) (omega arith) in
              clear h x y (below h (inl refl)) lx (below y (inr k)) n (λ e. new (inr (subst (λ (z : ℕ). IsIn z L) (sym e) k))) (o.0 y k).0 (later (p - 1) (omega arith)) (o.0 y k).1
          go (inr l) = first (root_beyond M m side lies K h x (below h (inl refl)) lx n)
            where
              here : beyond side lies x h ≡ true
              here = last 0 (omega arith)

              first : (beyond side lies h x ≡ false) ⊎ (beyond side lies x h ≡ false) → beyond side lies h x ≡ false
              first (inl a) = a
              first (inr a) = absurd (not_both (beyond side lies x h) here a)

      least : (z : ℕ) → IsIn z (take p L ++ x ∷ drop p L) → (h ≢ z) × (beyond side lies h z ≡ false)
      least z k = pick (in_inserted L p x z k)
        where
          pick : (z ≡ x) ⊎ IsIn z L → (h ≢ z) × (beyond side lies h z ≡ false)
          pick (inl e) = ((λ q. new (inl (sym (q ∙ e)))), ap (beyond side lies h) e ∙ near (λ q. new (inl (sym q))))
          pick (inr g) = o.0 z g

  -- another arc
  pub order_more : (order : List ℕ) (place arc : ℕ) → arc < m → IsGrowingOrder (beyond side lies) arc order → place ≤ length order
      → ((k : ℕ) → k + 1 ≡ place → beyond side lies arc (get_or order k 0) ≡ true) → ((k : ℕ) → place ≤ k → k < length order → beyond side lies arc (get_or order k 0) ≡ false)
      → (new : List ℕ) → new ≡ insert order place arc → length new ≡ length order + 1 → IsGrowingOrder (beyond side lies) (arc + 1) new
  order_more order place arc l so le last tail new e long = rw e (record {
    ordered = inserted_ordered order place arc l (λ y h. let k = so.only y h in omega arith) (λ h. let k = so.only arc h in absurd (omega arith)) so.ordered le last tail;
    all = λ row k. inserted_in order place arc row (before row (cases_lt row arc) k);
    only = λ row h. after row (in_inserted order place arc row h);
    many = sym (ap (λ (xs : List ℕ). length xs) e) ∙ long ∙ ap (λ (z : ℕ). z + 1) so.many;
  })
    where
      before : (row : ℕ) → (row < arc) ⊎ (arc ≤ row) → row < arc + 1 → (row ≡ arc) ⊎ IsIn row order
      before row (inl k) q = inr (so.all row k)
      before row (inr k) q = inl (omega arith)

      after : (row : ℕ) → (row ≡ arc) ⊎ IsIn row order → row < arc + 1
      after row (inl k) = omega arith
      after row (inr k) = let q = so.only row k in omega arith

-- the order in the form that the lemmas on trees require
pub order_of : (beyond' : ℕ → ℕ → Bool) (m : ℕ) (order : List ℕ) → IsGrowingOrder beyond' m order → IsOrderOf beyond' (first_lines m) order
order_of beyond' m order so = record {
  order = so.ordered;
  all = λ x h. so.all x (first_lines_in m x h);
  only = λ x h. in_first_lines m x (so.only x h);
  count = so.many ∙ sym (length-range_with_len 0 m);
}

-- ---- nodes by positions

module _ (is_beyond : ℕ → ℕ → Bool) where
  pub node_here : (order : List ℕ) (is_in : ℕ → Bool) (place : ℕ) → place < length order → node_of (grown is_beyond (drop place order)) is_in ≡ node_of (grown is_beyond order) is_in
      → is_in (get_or order place 0) ≡ true → length order - place ≡ node_of (grown is_beyond order) is_in
  node_here order is_in place l so e =
      let cut = drop-cons order place 0 l in
      let long = length-drop (suc place) order in
      count ∙ sym (ap (λ (t : Bool). cond t (suc (length (grown is_beyond (drop (suc place) order)))) (node_of (grown is_beyond (drop (suc place) order)) is_in)) e)
      ∙ sym (ap (λ (xs : List ℕ). node_of (grown is_beyond xs) is_in) cut) ∙ so
    where
      count : length order - place ≡ suc (length (grown is_beyond (drop (suc place) order)))
      count = let a = length-grown is_beyond (drop (suc place) order) in let b = length-drop (suc place) order in omega arith

  pub node_later : (order : List ℕ) (is_in : ℕ → Bool) (place : ℕ) → place < length order → node_of (grown is_beyond (drop place order)) is_in ≡ node_of (grown is_beyond order) is_in
      → is_in (get_or order place 0) ≡ false → node_of (grown is_beyond (drop (place + 1) order)) is_in ≡ node_of (grown is_beyond order) is_in
  node_later order is_in place l so e =
      let cut = drop-cons order place 0 l in
      let next : place + 1 ≡ suc place = omega arith in
      ap (λ (z : ℕ). node_of (grown is_beyond (drop z order)) is_in) next
      ∙ sym (ap (λ (t : Bool). cond t (suc (length (grown is_beyond (drop (suc place) order)))) (node_of (grown is_beyond (drop (suc place) order)) is_in)) e)
      ∙ sym (ap (λ (xs : List ℕ). node_of (grown is_beyond xs) is_in) cut) ∙ so

  pub pair_here : (order : List ℕ) (row place : ℕ) (inner : ℕ) → place < length order → pair_of (grown is_beyond (drop place order)) row ≡ pair_of (grown is_beyond order) row
      → get_or order place 0 ≡ row → inner ≡ node_of (grown is_beyond (drop (place + 1) order)) (λ r. is_beyond r row)
      → record { tail = inner; head = length order - place } ≡ pair_of (grown is_beyond order) row
  pair_here order row place inner l so e f =
      let cut = drop-cons order place 0 l in
      let next : place + 1 ≡ suc place = omega arith in
      ap (λ (z : ℕ). record { tail = z; head = length order - place }) (f ∙ ap (λ (z : ℕ). node_of (grown is_beyond (drop z order)) (λ r. is_beyond r row)) next
      ∙ ap (λ (z : ℕ). node_of (grown is_beyond (drop (suc place) order)) (λ r. is_beyond r z)) (sym e))
      ∙ ap (λ (z : ℕ). record { tail = node_of (grown is_beyond (drop (suc place) order)) (λ r. is_beyond r (get_or order place 0)); head = z }) count
      ∙ sym (ap (λ (t : Bool). cond t (record { tail = node_of (grown is_beyond (drop (suc place) order)) (λ r. is_beyond r (get_or order place 0)); head = suc (length (grown is_beyond (drop (suc place) order))) })
      (pair_of (grown is_beyond (drop (suc place) order)) row)) (is_eq row (get_or order place 0) (sym e)))
      ∙ sym (ap (λ (xs : List ℕ). pair_of (grown is_beyond xs) row) cut) ∙ so
    where
      count : length order - place ≡ suc (length (grown is_beyond (drop (suc place) order)))
      count = let a = length-grown is_beyond (drop (suc place) order) in let b = length-drop (suc place) order in omega arith

-- ---- lists of arcs and of walks

pub mapped_more : {A : Type 0} → (f : ℕ → A) (k : ℕ) (xs : List A) (x : A) → xs ≡ map f (first_lines k) → x ≡ f k → (ys : List A) → ys ≡ xs ++ x ∷ [] → ys ≡ map f (first_lines (k + 1))
mapped_more {A} f k xs x e g ys h =
    h ∙ ap (λ (z : List A). z ++ x ∷ []) e ∙ ap (λ (z : A). map f (first_lines k) ++ z ∷ []) g ∙ sym (map-range_with_len_more f 0 k k (omega arith))

pub arcs_more : (side : ℕ → ℕ → Bool) (lies : Bool → ℕ → ℕ → Bool) (order : List ℕ) (k : ℕ) (xs : List Pair) (x : Pair) → xs ≡ arcs_by side lies order k
    → x ≡ reversed_unless (lies true k 0) (pair_of (grown (beyond side lies) order) k) → (ys : List Pair) → ys ≡ xs ++ x ∷ [] → ys ≡ arcs_by side lies order (k + 1)
arcs_more side lies order k xs x e g ys h = mapped_more (λ (r : ℕ). reversed_unless (lies true r 0) (pair_of (grown (beyond side lies) order) r)) k xs x e g ys h

walk_by : (ℕ → ℕ → Bool) → (Bool → ℕ → ℕ → Bool) → List ℕ → ℕ → Pair
walk_by side lies order column = record { tail = node_of (grown (beyond side lies) order) (place side lies true column); head = node_of (grown (beyond side lies) order) (place side lies false column) }

pub walks_more : (side : ℕ → ℕ → Bool) (lies : Bool → ℕ → ℕ → Bool) (order : List ℕ) (k : ℕ) (xs : List Pair) (tail head : ℕ) → xs ≡ walks_by side lies order k
    → tail ≡ node_of (grown (beyond side lies) order) (place side lies true k) → head ≡ node_of (grown (beyond side lies) order) (place side lies false k)
    → (ys : List Pair) → ys ≡ xs ++ record { tail = tail; head = head } ∷ [] → ys ≡ walks_by side lies order (k + 1)
unfolding walk_by
walks_more side lies order k xs tail head e g f ys h =
    mapped_more (walk_by side lies order) k xs (record { tail = tail; head = head }) e (pair g f) ys h
  where
    pair : {a b c d : ℕ} → a ≡ b → c ≡ d → ◌≡◌ {A = Pair} (record { tail = a; head = c }) (record { tail = b; head = d })
    pair p q = cc
