-- Routes along two paths of one tree.
use Rattle.std.proofs.Common.{ℕ, suc, ◌+◌, ◌%◌, Bool, true, List, [], ◌∷◌, ◌++◌, ◌≡◌, ◌≢◌, ◌<◌, ◌≤◌, ◌∙◌, sym, ap, refl, arith, subst, inl, inr, length, append_assoc}
use Rattle.std.proofs.lemmas.Bool.{cases_eq}
use Rattle.cmr_base.proofs.Lists.{length-more}
use Rattle.bridge_split.specs.Forests.{IsRoute, AreInOneTree, HasRoute}

module _ (D : ℕ → ℕ → Bool) (count : ℕ) where
  route_begin : (x k y : ℕ) (rest : List ℕ) → IsRoute D count k rest y → x < count → D x k ≡ true → x ≢ k → IsRoute D count x (x ∷ rest) y
  route_begin x k y [] h l e n = absurd h
  route_begin x k y (z ∷ []) (f, g, m) l e n = (refl, l, ap (D x) (sym f) ∙ e, (λ q. n (q ∙ sym f)), (refl, g, m))
  route_begin x k y (z ∷ w ∷ rest) (f, m, join, other, h) l e n = (refl, l, ap (D x) (sym f) ∙ e, (λ q. n (q ∙ sym f)), (refl, m, join, other, h))

  route_end : (x k y : ℕ) (rest : List ℕ) → IsRoute D count x rest k → y < count → D k y ≡ true → k ≢ y → IsRoute D count x (rest ++ y ∷ []) y
  route_end x k y [] h l e n = absurd h
  route_end x k y (z ∷ []) (f, g, m) l e n = (f, m, ap (λ (v : ℕ). D v y) (sym g) ∙ e, (λ q. n (g ∙ q)), (refl, refl, l))
  route_end x k y (z ∷ w ∷ rest) (f, m, join, other, h) l e n = (f, m, join, other, route_end w k y (w ∷ rest) h l e n)

  module _ (depth : ℕ → ℕ) where
    pub route_one : (before after : List ℕ) (x y : ℕ) → x < count → y ≡ x → after ≡ before ++ x ∷ [] → HasRoute D count depth before after x y
    route_one before after x y l e f = record { rest = x ∷ []; appended = f; route = (refl, e, l); parity = let g = ap depth e in odd (depth x) (depth y) g }
      where
        odd : (m n : ℕ) → n ≡ m → (1 + m + n) % 2 ≡ 1
        odd m n e = omega arith

    pub route_prefix : (before mid after : List ℕ) (x k y : ℕ) → mid ≡ before ++ x ∷ [] → HasRoute D count depth mid after k y → x < count → D x k ≡ true
        → depth x ≡ suc (depth k) → HasRoute D count depth before after x y
    route_prefix before mid after x k y e h l join deeper = record {
      rest = x ∷ h.rest;
      appended = h.appended ∙ ap (λ (v : List ℕ). v ++ h.rest) e ∙ append_assoc before (x ∷ []) h.rest;
      route = route_begin x k y h.rest h.route l join (λ q. let f = ap depth q in omega arith);
      parity = odd (length h.rest) (depth x) (depth y) (depth k) deeper h.parity;
    }
      where
        odd : (n a b c : ℕ) → a ≡ suc c → (n + c + b) % 2 ≡ 1 → (suc n + a + b) % 2 ≡ 1
        odd n a b c e f = omega arith

    pub route_back : (before mid after : List ℕ) (x k y : ℕ) → after ≡ mid ++ y ∷ [] → HasRoute D count depth before mid x k → y < count → D k y ≡ true
        → depth y ≡ suc (depth k) → HasRoute D count depth before after x y
    route_back before mid after x k y e h l join deeper = record {
      rest = h.rest ++ y ∷ [];
      appended = e ∙ ap (λ (v : List ℕ). v ++ y ∷ []) h.appended ∙ append_assoc before h.rest (y ∷ []);
      route = route_end x k y h.rest h.route l join (λ q. let f = ap depth q in omega arith);
      parity = odd (length h.rest) (length (h.rest ++ y ∷ [])) (depth x) (depth y) (depth k) (length-more h.rest y) deeper h.parity;
    }
      where
        odd : (n m a b c : ℕ) → m ≡ suc n → b ≡ suc c → (n + a + c) % 2 ≡ 1 → (m + a + b) % 2 ≡ 1
        odd n m a b c e f g = omega arith

    module _ (parent : ℕ → ℕ) (reached : List ℕ) where
      pub swapped : (x y : ℕ) → AreInOneTree D count depth parent reached x y → AreInOneTree D count depth parent reached y x
      swapped x y t = record { are = t.are; one_in = t.two_in; two_in = t.one_in; same = sym t.same }

      -- the deeper of two numbers has a parent
      pub deeper_up : (x y : ℕ) → AreInOneTree D count depth parent reached x y → x ≢ y → depth y ≤ depth x → 0 < depth x
      deeper_up x y t n l = elim (cases_eq (depth x) 0) [
        | inl e ↦ absurd (n (sym (t.are.top x t.one_in e) ∙ t.same ∙ t.are.top y t.two_in (let z : depth y ≡ 0 = omega arith in z)))
        | inr m ↦ positive (depth x) m
      ]
        where
          positive : (a : ℕ) → a ≢ 0 → 0 < a
          positive a m = omega arith

      pub up_tree : (x y : ℕ) (t : AreInOneTree D count depth parent reached x y) → 0 < depth x → AreInOneTree D count depth parent reached (parent x) y
      up_tree x y t l = let u = t.are.up x t.one_in l in record { are = t.are; one_in = u.0; two_in = t.two_in; same = sym u.3 ∙ t.same }

      pub climbs : (x y v : ℕ) → AreInOneTree D count depth parent reached x y → x ≢ y → depth y ≤ depth x → v ≡ parent x
          → AreInOneTree D count depth parent reached v y × (x < count) × (D x v ≡ true) × (depth x ≡ suc (depth v))
      climbs x y v t n l e =
          let m = deeper_up x y t n l in
          let u = t.are.up x t.one_in m in
          subst (λ (z : ℕ). AreInOneTree D count depth parent reached z y × (x < count) × (D x z ≡ true) × (depth x ≡ suc (depth z))) (sym e) (up_tree x y t m, t.are.inside x t.one_in, u.2, u.1)
