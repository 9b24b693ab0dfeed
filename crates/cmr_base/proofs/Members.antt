-- Members of a list, lists of distinct numbers, and increasing lists of given numbers.
use Rattle.std.proofs.Common.{◌≡◌, ◌≢◌, ◌<◌, ◌≤◌, ◌+◌, ◌⊎◌, inl, inr, ◌∙◌, ◌++◌, ◌↔◌, ℕ, zero, suc, Bool, true, false, cond, nat_eq, ℤ, ◌+ℤ◌, List, [], ◌∷◌, length, get_or, refl, ap, sym, subst, arith}
use Rattle.std.specs.List.{AllByRecursion}
use Rattle.std.specs.List.Sorted.{IsStrictlyIncreasing}
use Rattle.cmr_base.specs.Members.{IsIn, IsDistinct}
use Rattle.cmr_base.specs.Sums.{sum_over}
use Rattle.cmr_base.proofs.Integers.{sums}
use Rattle.cmr_base.proofs.IncreasingLists.{IncreasesIn, increases_in, increases_along}
use Rattle.cmr_base.proofs.Booleans.{eq_of, is_ne, ne_of}

-- each number of the first is in the second
abbrev pub IsWithin : List ℕ → List ℕ → Type 0
IsWithin xs ys = (x : ℕ) → IsIn x xs → IsIn x ys

pub some_in : (x : ℕ) (xs : List ℕ) → IsIn x xs → 0 < length xs
some_in x [] h = absurd h
some_in x (y ∷ ys) h = omega arith

pub all_in : (P : ℕ → Type 0) (xs : List ℕ) → AllByRecursion P xs → (x : ℕ) → IsIn x xs → P x
all_in P [] h x g = absurd g
all_in P (y ∷ ys) h x (inl e) = subst P (sym e) h.0
all_in P (y ∷ ys) h x (inr g) = all_in P ys h.1 x g

pub all_of_members : (P : ℕ → Type 0) (xs : List ℕ) → ((x : ℕ) → IsIn x xs → P x) → AllByRecursion P xs
all_of_members P [] h = tt
all_of_members P (x ∷ xs) h = (h x (inl refl), all_of_members P xs (λ y g. h y (inr g)))

pub in-append : (xs : List ℕ) (x y : ℕ) → IsIn y (xs ++ x ∷ []) ↔ (IsIn y xs ⊎ (y ≡ x))
in-append [] x y = (to, from)
  where
    to : (y ≡ x) ⊎ ⊥ → ⊥ ⊎ (y ≡ x)
    to (inl e) = inr e
    to (inr h) = absurd h

    from : ⊥ ⊎ (y ≡ x) → (y ≡ x) ⊎ ⊥
    from (inl h) = absurd h
    from (inr e) = inl e
in-append (z ∷ zs) x y = let k = in-append zs x y in (to k.0, from k.1)
  where
    to : (IsIn y (zs ++ x ∷ []) → IsIn y zs ⊎ (y ≡ x)) → (y ≡ z) ⊎ IsIn y (zs ++ x ∷ []) → ((y ≡ z) ⊎ IsIn y zs) ⊎ (y ≡ x)
    to k (inl e) = inl (inl e)
    to k (inr h) = elim (k h) [ inl g ↦ inl (inr g) | inr e ↦ inr e ]

    from : (IsIn y zs ⊎ (y ≡ x) → IsIn y (zs ++ x ∷ [])) → ((y ≡ z) ⊎ IsIn y zs) ⊎ (y ≡ x) → (y ≡ z) ⊎ IsIn y (zs ++ x ∷ [])
    from k (inl (inl e)) = inl e
    from k (inl (inr h)) = inr (k (inl h))
    from k (inr e) = inr (k (inr e))

pub in_at : (xs : List ℕ) (k : ℕ) → k < length xs → IsIn (get_or xs k 0) xs
in_at [] k l = absurd (omega arith)
in_at (x ∷ xs) zero l = inl refl
in_at (x ∷ xs) (suc k) l = inr (in_at xs k (omega arith))

-- ---- increasing lists

increases_above : (low high x : ℕ) (xs : List ℕ) → IncreasesIn low high xs → IsIn x xs → low ≤ x
increases_above low high x [] h g = absurd g
increases_above low high x (y ∷ ys) h (inl e) = let l = h.0 in omega arith
increases_above low high x (y ∷ ys) h (inr g) = let l = h.0 in let m = increases_above (y + 1) high x ys h.2 g in omega arith

pub increasing_are_distinct : (low high : ℕ) (xs : List ℕ) → IncreasesIn low high xs → IsDistinct xs
increasing_are_distinct low high [] h = tt
increasing_are_distinct low high (x ∷ xs) h = ((λ g. let l = increases_above (x + 1) high x xs h.2 g in omega arith), increasing_are_distinct (x + 1) high xs h.2)

increases-append : (low x : ℕ) (xs : List ℕ) → IncreasesIn low x xs → low ≤ x → IncreasesIn low (x + 1) (xs ++ x ∷ [])
increases-append low x [] h l = (l, omega arith, tt)
increases-append low x (y ∷ ys) h l = (h.0, let m = h.1 in omega arith, increases-append (y + 1) x ys h.2 (let m = h.1 in omega arith))

pub increasing-append : (xs : List ℕ) (x : ℕ) → IsStrictlyIncreasing xs → ((y : ℕ) → IsIn y xs → y < x) → IsStrictlyIncreasing (xs ++ x ∷ [])
increasing-append xs x increasing below = increases_along 0 (x + 1) (xs ++ x ∷ []) (increases-append 0 x xs (increases_in 0 x xs increasing (λ k l. below (get_or xs k 0) (in_at xs k l)) (λ l. omega arith)) (omega arith))

-- ---- a list without a number

abbrev pub removed : ℕ → List ℕ → List ℕ
removed i [] = []
removed i (x ∷ xs) = cond (nat_eq x i) (removed i xs) (x ∷ removed i xs)

in-removed : (i x : ℕ) (xs : List ℕ) → IsIn x xs → x ≢ i → IsIn x (removed i xs)
in-removed i x [] h d = absurd h
in-removed i x (y ∷ ys) h d = go (nat_eq y i) refl h (λ g. in-removed i x ys g d)
  where
    go : (b : Bool) → nat_eq y i ≡ b → (x ≡ y) ⊎ IsIn x ys → (IsIn x ys → IsIn x (removed i ys)) → IsIn x (cond b (removed i ys) (y ∷ removed i ys))
    go true e (inl q) k = absurd (d (q ∙ eq_of y i e))
    go true e (inr g) k = k g
    go false e (inl q) k = inl q
    go false e (inr g) k = inr (k g)

removed_in : (i x : ℕ) (xs : List ℕ) → IsIn x (removed i xs) → IsIn x xs × (x ≢ i)
removed_in i x [] h = absurd h
removed_in i x (y ∷ ys) h = go (nat_eq y i) refl h (λ g. removed_in i x ys g)
  where
    go : (b : Bool) → nat_eq y i ≡ b → IsIn x (cond b (removed i ys) (y ∷ removed i ys)) → (IsIn x (removed i ys) → IsIn x ys × (x ≢ i)) → ((x ≡ y) ⊎ IsIn x ys) × (x ≢ i)
    go true e g k = let v = k g in (inr v.0, v.1)
    go false e (inl q) k = (inl q, λ p. ne_of y i e (sym q ∙ p))
    go false e (inr g) k = let v = k g in (inr v.0, v.1)

removed_none : (x : ℕ) (xs : List ℕ) → ¬ (IsIn x xs) → removed x xs ≡ xs
removed_none x [] h = refl
removed_none x (y ∷ ys) h = rw (is_ne y x (λ e. h (inl (sym e)))) (ap (λ (zs : List ℕ). y ∷ zs) (removed_none x ys (λ g. h (inr g))))

removed_distinct : (x : ℕ) (xs : List ℕ) → IsDistinct xs → IsDistinct (removed x xs)
removed_distinct x [] h = tt
removed_distinct x (y ∷ ys) h = go (nat_eq y x) (removed_distinct x ys h.1)
  where
    go : (b : Bool) → IsDistinct (removed x ys) → IsDistinct (cond b (removed x ys) (y ∷ removed x ys))
    go true k = k
    go false k = ((λ g. h.0 (removed_in x y ys g).0), k)

length-removed : (x : ℕ) (xs : List ℕ) → IsDistinct xs → length xs ≤ suc (length (removed x xs))
length-removed x [] h = omega arith
length-removed x (y ∷ ys) h = go (nat_eq y x) refl (length-removed x ys h.1)
  where
    go : (b : Bool) → nat_eq y x ≡ b → length ys ≤ suc (length (removed x ys)) → length (y ∷ ys) ≤ suc (length (cond b (removed x ys) (y ∷ removed x ys)))
    go true e k = let q : y ≡ x = eq_of y x e in
        let f : length (removed x ys) ≡ length ys = ap length (removed_none x ys (λ i. h.0 (subst (λ (v : ℕ). IsIn v ys) (sym q) i))) in omega arith
    go false e k = omega arith

-- a list of distinct numbers below n has at most n numbers
pub distinct_few : (n : ℕ) (xs : List ℕ) → IsDistinct xs → ((x : ℕ) → IsIn x xs → x < n) → length xs ≤ n
distinct_few zero [] h low = omega arith
distinct_few zero (x ∷ xs) h low = absurd (let l = low x (inl refl) in omega arith)
distinct_few (suc n) xs h low =
    let k = distinct_few n (removed n xs) (removed_distinct n xs h) (λ x g. let v = removed_in n x xs g in let l = low x v.0 in let d = v.1 in omega arith) in
    let m = length-removed n xs h in omega arith

sum_over-removed : (x : ℕ) (ys : List ℕ) (f : ℕ → ℤ) → IsDistinct ys → IsIn x ys → sum_over ys f ≡ f x +ℤ sum_over (removed x ys) f
sum_over-removed x [] f h g = absurd g
sum_over-removed x (y ∷ ys) f h g = go (nat_eq y x) refl g (λ i. sum_over-removed x ys f h.1 i)
  where
    swap : (a b c d : ℤ) → c ≡ b +ℤ d → a +ℤ c ≡ b +ℤ (a +ℤ d)
    swap a b c d e = omega (arith, sums)

    go : (b : Bool) → nat_eq y x ≡ b → (x ≡ y) ⊎ IsIn x ys → (IsIn x ys → sum_over ys f ≡ f x +ℤ sum_over (removed x ys) f)
        → f y +ℤ sum_over ys f ≡ f x +ℤ sum_over (cond b (removed x ys) (y ∷ removed x ys)) f
    go true e g k = let q : y ≡ x = eq_of y x e in
        rw (removed_none x ys (λ i. h.0 (subst (λ (v : ℕ). IsIn v ys) (sym q) i))) (ap (λ (v : ℕ). f v +ℤ sum_over ys f) q)
    go false e (inl q) k = absurd (ne_of y x e (sym q))
    go false e (inr i) k = swap (f y) (f x) (sum_over ys f) (sum_over (removed x ys) f) (k i)

-- distinct lists of the same numbers have the same sums
pub sum_over_members : (xs ys : List ℕ) (f : ℕ → ℤ) → IsDistinct xs → IsDistinct ys → IsWithin xs ys → IsWithin ys xs → sum_over xs f ≡ sum_over ys f
sum_over_members [] [] f a b w v = refl
sum_over_members [] (y ∷ ys) f a b w v = absurd (v y (inl refl))
sum_over_members (x ∷ xs) ys f a b w v =
    ap (λ (z : ℤ). f x +ℤ z) (sum_over_members xs (removed x ys) f a.1 (removed_distinct x ys b) low high)
    ∙ sym (sum_over-removed x ys f b (w x (inl refl)))
  where
    low : IsWithin xs (removed x ys)
    low z g = in-removed x z ys (w z (inr g)) (λ e. a.0 (subst (λ (u : ℕ). IsIn u xs) e g))

    high : IsWithin (removed x ys) xs
    high z g = let i = removed_in x z ys g in other (v z i.0) i.1
      where
        other : (z ≡ x) ⊎ IsIn z xs → z ≢ x → IsIn z xs
        other (inl e) d = absurd (d e)
        other (inr h) d = h
