-- Sublists of sublists, and the search for a sublist with a property.
use Rattle.std.proofs.Common.{◌≡◌, ◌<◌, ◌≤◌, ◌⊎◌, inl, inr, ◌++◌, ◌+◌, ◌∙◌, ℕ, zero, suc, List, [], ◌∷◌, length, refl, ap, sym, subst, arith}
use Rattle.std.specs.List.{AllByRecursion, Contains}
use Rattle.cmr_base.proofs.Lists.{HasOneMore, all_weaker, contains_first, contains_later}
use Rattle.cmr_base.proofs.IncreasingLists.{IncreasesIn}
use Rattle.ghouila.proofs.Sublists.{IsSublist, sublist_none}

pub sublist_whole : (R : List ℕ) → IsSublist R R
sublist_whole [] = refl
sublist_whole (x ∷ R) = inr (R, refl, sublist_whole R)

pub sublist_of_sublist : (R Q P : List ℕ) → IsSublist Q R → IsSublist P Q → IsSublist P R
sublist_of_sublist [] Q P h k = subst (IsSublist P) h k
sublist_of_sublist (x ∷ R) Q P (inl h) k = inl (sublist_of_sublist R Q P h k)
sublist_of_sublist (x ∷ R) Q P (inr h) k = elim (subst (IsSublist P) h.1 k) [
  | inl l ↦ inl (sublist_of_sublist R h.0 P h.2 l)
  | inr l ↦ inr (l.0, l.1, sublist_of_sublist R h.0 l.0 h.2 l.2)
]

pub sublist_fewer : (item : ℕ) (fewer more : List ℕ) → HasOneMore item fewer more → IsSublist fewer more
sublist_fewer item fewer more h = subst (IsSublist fewer) (sym h.more_is) (subst (λ (xs : List ℕ). IsSublist xs (h.prefix ++ item ∷ h.back)) (sym h.fewer_is) (go h.prefix h.back))
  where
    go : (prefix back : List ℕ) → IsSublist (prefix ++ back) (prefix ++ item ∷ back)
    go [] back = inl (sublist_whole back)
    go (x ∷ prefix) back = inr (prefix ++ back, refl, go prefix back)

pub sublist_members : (R P : List ℕ) → IsSublist P R → AllByRecursion (Contains R) P
sublist_members [] P h = subst (AllByRecursion (Contains [])) (sym h) tt
sublist_members (x ∷ R) P (inl h) = all_weaker (Contains R) (Contains (x ∷ R)) (λ y there. contains_later y x R there) P (sublist_members R P h)
sublist_members (x ∷ R) P (inr h) = subst (AllByRecursion (Contains (x ∷ R))) (sym h.1)
    (contains_first x R, all_weaker (Contains R) (Contains (x ∷ R)) (λ y there. contains_later y x R there) h.0 (sublist_members R h.0 h.2))

pub sublist_short : (R P : List ℕ) → IsSublist P R → length P ≤ length R
sublist_short [] P h = let none = ap length h in omega (arith, none)
sublist_short (x ∷ R) P (inl h) = let short = sublist_short R P h in omega (arith, short)
sublist_short (x ∷ R) P (inr h) = let one_more = ap length h.1 in let short = sublist_short R h.0 h.2 in omega (arith, one_more, short)

-- each sublist has a property, or one has another
pub every_or_one : (R : List ℕ) (Holds Fails : List ℕ → Type 0) → ((P : List ℕ) → Holds P ⊎ Fails P) → ((P : List ℕ) → IsSublist P R → Holds P) ⊎ ((P : List ℕ) × IsSublist P R × Fails P)
every_or_one [] Holds Fails test = elim (test []) [ inl h ↦ inl (λ P e. subst Holds (sym e) h) | inr f ↦ inr ([], refl, f) ]
every_or_one (x ∷ R) Holds Fails test = go (every_or_one R Holds Fails test) (every_or_one R (λ P. Holds (x ∷ P)) (λ P. Fails (x ∷ P)) (λ P. test (x ∷ P)))
  where
    go : ((P : List ℕ) → IsSublist P R → Holds P) ⊎ ((P : List ℕ) × IsSublist P R × Fails P)
        → ((P : List ℕ) → IsSublist P R → Holds (x ∷ P)) ⊎ ((P : List ℕ) × IsSublist P R × Fails (x ∷ P))
        → ((P : List ℕ) → IsSublist P (x ∷ R) → Holds P) ⊎ ((P : List ℕ) × IsSublist P (x ∷ R) × Fails P)
    go (inl none) (inl some) = inl (λ P h. elim h [ inl k ↦ none P k | inr k ↦ subst Holds (sym k.1) (some k.0 k.2) ])
    go (inl none) (inr bad) = inr (x ∷ bad.0, inr (bad.0, refl, bad.1), bad.2)
    go (inr bad) some = inr (bad.0, inl bad.1, bad.2)

pub sublist_same : (R P : List ℕ) → IsSublist P R → length R ≤ length P → P ≡ R
sublist_same [] P h l = h
sublist_same (x ∷ R) P (inl h) l = absurd (let short = sublist_short R P h in omega (arith, short))
sublist_same (x ∷ R) P (inr h) l = h.1 ∙ ap (λ (xs : List ℕ). x ∷ xs) (sublist_same R h.0 h.2 (let one_more = ap length h.1 in omega (arith, one_more)))

-- ---- increasing lists

member_at_least : (low high y : ℕ) (R : List ℕ) → IncreasesIn low high R → Contains R y → low ≤ y
member_at_least low high y [] increases there = absurd (let inside = there.1 in omega (arith, inside))
member_at_least low high y (x ∷ R) increases (zero, inside, e) = omega (arith, increases.0, e)
member_at_least low high y (x ∷ R) increases (suc k, inside, e) = let later = member_at_least (x + 1) high y R increases.2 (k, omega arith, e) in omega (arith, increases.0, later)

later_member : (x y : ℕ) (R : List ℕ) → x < y → Contains (x ∷ R) y → Contains R y
later_member x y R l (zero, inside, e) = absurd (omega arith)
later_member x y R l (suc k, inside, e) = (k, omega arith, e)

later_members : (low high x : ℕ) (R P : List ℕ) → x < low → IncreasesIn low high P → AllByRecursion (Contains (x ∷ R)) P → AllByRecursion (Contains R) P
later_members low high x R [] l increases members = tt
later_members low high x R (y ∷ P) l increases members = (
  later_member x y R (omega (arith, increases.0)) members.0,
  later_members (y + 1) high x R P (omega (arith, increases.0)) increases.2 members.1,
)

pub sublist_of_members : (low high : ℕ) (R P : List ℕ) → IncreasesIn low high R → IncreasesIn low high P → AllByRecursion (Contains R) P → IsSublist P R
sublist_of_members low high [] [] increases part members = refl
sublist_of_members low high [] (y ∷ P) increases part members = absurd (let inside = members.0.1 in omega (arith, inside))
sublist_of_members low high (x ∷ R) [] increases part members = sublist_none (x ∷ R)
sublist_of_members low high (x ∷ R) (y ∷ P) increases part ((zero, inside, e), members) =
    let same : y ≡ x = sym e in
    inr (
      P,
      ap (λ (k : ℕ). k ∷ P) same,
      sublist_of_members (x + 1) high R P increases.2 (subst (λ (k : ℕ). IncreasesIn (k + 1) high P) same part.2)
          (later_members (x + 1) high x R P (omega arith) (subst (λ (k : ℕ). IncreasesIn (k + 1) high P) same part.2) members),
    )
sublist_of_members low high (x ∷ R) (y ∷ P) increases part ((suc k, inside, e), members) =
    let from : x + 1 ≤ y = member_at_least (x + 1) high y R increases.2 (k, omega arith, e) in
    inl (sublist_of_members (x + 1) high R (y ∷ P) increases.2 (from, part.1, part.2)
    ((k, omega arith, e), later_members (y + 1) high x R P (omega (arith, from)) part.2 members))
