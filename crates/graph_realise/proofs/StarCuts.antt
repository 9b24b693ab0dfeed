-- Rows without a column of three nonzeros are the arcs of a star.
use Rattle.std.proofs.Common.{ℕ, Bool, true, false, not, cond, List, [], ◌∷◌, ◌≡◌, ◌≢◌, ◌∙◌, sym, ap, refl, ◌⊎◌, inl, inr, nat_eq}
use Rattle.cmr_base.specs.Members.{IsIn}
use Rattle.cmr_base.specs.Splits.{HasNoThree}
use Rattle.cmr_base.specs.Cuts.{differ, HasCuts, IsCuts}
use Rattle.graph_realise.specs.Stars.{lead, star_lies}
use Rattle.cmr_base.proofs.RowLists.{not_both, eq_of, ne_of}

module _ (M : ℕ → ℕ → Bool) where
  lead_is : (S : List ℕ) (r c : ℕ) → IsIn r S → M r c ≡ true → IsIn (lead M S c) S × (M (lead M S c) c ≡ true)
  lead_is [] r c h e = absurd h
  lead_is (x ∷ S) r c h e = go (M x c) refl h (λ h. lead_is S r c h e)
    where
      go : (t : Bool) → M x c ≡ t → (r ≡ x) ⊎ IsIn r S → (IsIn r S → IsIn (lead M S c) S × (M (lead M S c) c ≡ true))
          → ((cond t x (lead M S c) ≡ x) ⊎ IsIn (cond t x (lead M S c)) S) × (M (cond t x (lead M S c)) c ≡ true)
      go true f h k = (inl refl, f)
      go false f (inl a) k = absurd (not_both (M x c) (sym (ap (λ (z : ℕ). M z c) a) ∙ e) f)
      go false f (inr a) k = let q = k a in (inr q.0, q.1)

  star_uses : (S : List ℕ) (r c : ℕ) → M r c ≡ differ (star_lies M S true r c) (star_lies M S false r c)
  star_uses S r c = go (M r c) (nat_eq r (lead M S c))
    where
      go : (m t : Bool) → m ≡ differ (cond m (not (differ true t)) false) (cond m (not (differ false t)) false)
      go true true = refl
      go true false = refl
      go false t = refl

  star_meet : (S : List ℕ) → HasNoThree M S → (e : Bool) (r s c : ℕ) → IsIn r S → IsIn s S → r ≢ s → (star_lies M S e r c ≡ false) ⊎ (star_lies M S e s c ≡ false)
  star_meet S none e r s c hr hs n = go (M r c) (M s c) (nat_eq r (lead M S c)) (nat_eq s (lead M S c)) e refl refl refl refl
    where
      go : (a b t u d : Bool) → M r c ≡ a → M s c ≡ b → nat_eq r (lead M S c) ≡ t → nat_eq s (lead M S c) ≡ u
          → (cond a (not (differ d t)) false ≡ false) ⊎ (cond b (not (differ d u)) false ≡ false)
      go false b t u d p q v w = inl refl
      go true false t u d p q v w = inr refl
      go true true true true true p q v w = absurd (n (eq_of r (lead M S c) v ∙ sym (eq_of s (lead M S c) w)))
      go true true true u false p q v w = inl refl
      go true true false u true p q v w = inl refl
      go true true true false true p q v w = inr refl
      go true true false true false p q v w = inr refl
      go true true false false false p q v w = let l = lead_is S r c hr p in absurd (none c r s (lead M S c) hr hs l.0 p q l.1 n (ne_of r (lead M S c) v) (ne_of s (lead M S c) w))

  pub star_is : (S : List ℕ) → HasNoThree M S → IsCuts M (λ r. IsIn r S) (λ r s. false) (star_lies M S)
  star_is S none = record {
    meet = λ e r s c hr hs n. star_meet S none e r s c hr hs n;
    three = λ r s t hr hs ht a b c. inl refl;
    uses = λ r c h. star_uses S r c;
  }

  pub star_cuts : (S : List ℕ) → HasNoThree M S → HasCuts M (λ r. IsIn r S)
  star_cuts S none = record { side = λ r s. false; lies = star_lies M S; cuts = star_is S none }
