-- A part of a list with one line added.
use Rattle.std.proofs.Common.{◌≡◌, ◌≢◌, ◌∙◌, ◌⊎◌, inl, inr, ℕ, Bool, true, false, nat_eq, ℤ, pos, ◌+ℤ◌, List, ◌∷◌, refl, ap, sym, subst, arith}
use Rattle.std.specs.Prelude.{filter}
use Rattle.std.proofs.lemmas.Bool.{false≢true}
use Rattle.cmr_base.specs.Members.{IsIn}
use Rattle.cmr_base.specs.Sums.{sum_over}
use Rattle.cmr_base.proofs.Integers.{sums}
use Rattle.cmr_base.proofs.Members.{sum_over_members, increasing_are_distinct}
use Rattle.cmr_base.proofs.IncreasingLists.{IncreasesIn}
use Rattle.cmr_base.proofs.RowLists.{eq_of, filter_in, in_filter, is_eq, is_ne, ne_of}
use Rattle.balance.proofs.FilterSums.{sum_empty, increases-part}

abbrev pub either : Bool → Bool → Bool
either true b = true
either false b = b

abbrev pub added : (ℕ → Bool) → ℕ → ℕ → Bool
added q c j = either (q j) (nat_eq j c)

abbrev pub only : ℕ → ℕ → Bool
only c = added (λ j. false) c

pub added_true : (q : ℕ → Bool) (c j : ℕ) → added q c j ≡ true → (q j ≡ true) ⊎ (j ≡ c)
added_true q c j e = go (q j) e
  where
    go : (b : Bool) → either b (nat_eq j c) ≡ true → (b ≡ true) ⊎ (j ≡ c)
    go true e = inl refl
    go false e = inr (eq_of j c e)

pub added_old : (q : ℕ → Bool) (c j : ℕ) → q j ≡ true → added q c j ≡ true
added_old q c j e = ap (λ b. either b (nat_eq j c)) e

pub added_new : (q : ℕ → Bool) (c j : ℕ) → j ≡ c → added q c j ≡ true
added_new q c j e = go (q j)
  where
    go : (b : Bool) → either b (nat_eq j c) ≡ true
    go true = refl
    go false = is_eq j c e

pub added_false : (q : ℕ → Bool) (c j : ℕ) → added q c j ≡ false → (q j ≡ false) × (j ≢ c)
added_false q c j e = go (q j) e
  where
    go : (b : Bool) → either b (nat_eq j c) ≡ false → (b ≡ false) × (j ≢ c)
    go true e = absurd (false≢true (sym e))
    go false e = (refl, ne_of j c e)

pub not_added : (q : ℕ → Bool) (c j : ℕ) → q j ≡ false → j ≢ c → added q c j ≡ false
not_added q c j e f = ap (λ b. either b (nat_eq j c)) e ∙ is_ne j c f

pub sum_added : (q : ℕ → Bool) (c high : ℕ) (xs : List ℕ) (f : ℕ → ℤ) → IncreasesIn 0 high xs → IsIn c xs → q c ≡ false → sum_over (filter (added q c) xs) f ≡ f c +ℤ sum_over (filter q xs) f
sum_added q c high xs f increases there out = sum_over_members (filter (added q c) xs) (c ∷ filter q xs) f (increasing_are_distinct 0 high (filter (added q c) xs) (increases-part (added q c) 0 high xs increases))
    ((λ h. false≢true (sym out ∙ (in_filter q c xs h).1)), increasing_are_distinct 0 high (filter q xs) (increases-part q 0 high xs increases)) to from
  where
    to : (x : ℕ) → IsIn x (filter (added q c) xs) → (x ≡ c) ⊎ IsIn x (filter q xs)
    to x h = let k = in_filter (added q c) x xs h in elim (added_true q c x k.1) [ inl e ↦ inr (filter_in q x xs k.0 e) | inr e ↦ inl e ]

    from : (x : ℕ) → (x ≡ c) ⊎ IsIn x (filter q xs) → IsIn x (filter (added q c) xs)
    from x (inl e) = filter_in (added q c) x xs (subst (λ y. IsIn y xs) (sym e) there) (added_new q c x e)
    from x (inr h) = let k = in_filter q x xs h in filter_in (added q c) x xs k.0 (added_old q c x k.1)

pub sum_only : (c high : ℕ) (xs : List ℕ) (f : ℕ → ℤ) → IncreasesIn 0 high xs → IsIn c xs → sum_over (filter (only c) xs) f ≡ f c
sum_only c high xs f increases there = sum_added (λ j. false) c high xs f increases there refl ∙ last (f c) (sum_over (filter (λ j. false) xs) f) (sum_empty (λ j. false) xs f (λ x h e. absurd (false≢true e)))
  where
    last : (a b : ℤ) → b ≡ pos 0 → a +ℤ b ≡ a
    last a b e = omega (arith, sums)
