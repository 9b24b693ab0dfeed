-- Lists with some items removed.
use Rattle.std.proofs.Common.{◌≡◌, ◌⊎◌, inl, inr, ◌++◌, ◌+◌, ◌∙◌, ℕ, suc, ℤ, pos, List, [], ◌∷◌, length, refl, ap, sym, subst, arith}
use Rattle.std.specs.List.{AllByRecursion}
use Rattle.cmr_base.specs.Matrix.{IsEntry}
use Rattle.cmr_base.specs.Signing.{IsSign}
use Rattle.cmr_base.proofs.Lists.{HasOneMore, one_more_first, one_more_later, all_weaker}
use Rattle.cmr_base.proofs.IncreasingLists.{IncreasesIn, increases_from_lower}
use Rattle.ghouila.proofs.SignedSums.{zero_or_sign}

-- the first list is the second list with some items removed
abbrev pub IsSublist : List ℕ → List ℕ → Type 0
IsSublist P [] = P ≡ []
IsSublist P (x ∷ R) = IsSublist P R ⊎ ((Q : List ℕ) × (P ≡ x ∷ Q) × IsSublist Q R)

pub sublist_none : (R : List ℕ) → IsSublist [] R
sublist_none [] = refl
sublist_none (x ∷ R) = inl (sublist_none R)

-- the list of a single item
pub sublist_each : (R : List ℕ) → AllByRecursion (λ x. IsSublist (x ∷ []) R) R
sublist_each [] = tt
sublist_each (x ∷ R) = (inr ([], refl, sublist_none R), all_weaker (λ y. IsSublist (y ∷ []) R) (λ y. IsSublist (y ∷ []) (x ∷ R)) (λ y h. inl h) R (sublist_each R))

pub sublist_increases : (low high : ℕ) (R P : List ℕ) → IncreasesIn low high R → IsSublist P R → IncreasesIn low high P
sublist_increases low high [] P increases e = subst (IncreasesIn low high) (sym e) tt
sublist_increases low high (x ∷ R) P increases (inl h) = increases_from_lower low (x + 1) high P (omega (arith, increases.0)) (sublist_increases (x + 1) high R P increases.2 h)
sublist_increases low high (x ∷ R) P increases (inr h) = subst (IncreasesIn low high) (sym h.1) (increases.0, increases.1, sublist_increases (x + 1) high R h.0 increases.2 h.2)

-- a sublist with one item more, in its order
pub record IsSublistWith (item : ℕ) (fewer R : List ℕ) : Type 0 where
  pub list : List ℕ
  pub more : HasOneMore item fewer list
  pub sublist : IsSublist list R

pub sublist_with : (item : ℕ) (R' R P : List ℕ) → HasOneMore item R' R → IsSublist P R' → IsSublistWith item P R
sublist_with item R' R P more h = subst (IsSublistWith item P) (sym more.more_is) (go more.prefix more.back P (subst (IsSublist P) more.fewer_is h))
  where
    go : (prefix back P : List ℕ) → IsSublist P (prefix ++ back) → IsSublistWith item P (prefix ++ item ∷ back)
    go [] back P h = record { list = item ∷ P; more = one_more_first item P; sublist = inr (P, refl, h) }
    go (x ∷ prefix) back P (inl h) = let s = go prefix back P h in record { list = s.list; more = s.more; sublist = inl s.sublist }
    go (x ∷ prefix) back P (inr h) =
        let s = go prefix back h.0 h.2 in
        record {
          list = x ∷ s.list;
          more = subst (λ (xs : List ℕ). HasOneMore item xs (x ∷ s.list)) (sym h.1) (one_more_later x item h.0 s.list s.more);
          sublist = inr (s.list, refl, s.sublist);
        }

pub length-one_more : (item : ℕ) (fewer more : List ℕ) → HasOneMore item fewer more → length more ≡ suc (length fewer)
length-one_more item fewer more h = ap length h.more_is ∙ go h.prefix h.back ∙ ap (λ xs. suc (length xs)) (sym h.fewer_is)
  where
    go : (prefix back : List ℕ) → length (prefix ++ item ∷ back) ≡ suc (length (prefix ++ back))
    go [] back = refl
    go (x ∷ prefix) back = ap suc (go prefix back)

-- a row in which the column has a sign
pub record HasSignIn (f : ℕ → ℤ) (R : List ℕ) : Type 0 where
  pub row : ℕ
  pub others : List ℕ
  pub more : HasOneMore row others R
  pub sign : IsSign (f row)

pub zeros_or_sign : (f : ℕ → ℤ) (R : List ℕ) → AllByRecursion (λ i. IsEntry (f i)) R → AllByRecursion (λ i. f i ≡ pos 0) R ⊎ HasSignIn f R
zeros_or_sign f [] h = inl tt
zeros_or_sign f (i ∷ R) h = elim (zero_or_sign (f i) h.0) [
  | inr u ↦ inr (record { row = i; others = R; more = one_more_first i R; sign = u })
  | inl z ↦ elim (zeros_or_sign f R h.1) [
    | inl zeros ↦ inl (z, zeros)
    | inr s ↦ inr (record { row = s.row; others = i ∷ s.others; more = one_more_later i s.row s.others R s.more; sign = s.sign })
  ]
]
