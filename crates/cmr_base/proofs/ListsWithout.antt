-- Numbers of a list and their indices, and a list without one of its numbers.
use Rattle.std.proofs.Common.{◌≡◌, ◌≢◌, ◌<◌, ◌≤◌, ◌+◌, ◌∙◌, ◌⊎◌, inl, inr, ℕ, zero, suc, Bool, true, false, cond, not, eqb, List, [], ◌∷◌, length, get_or, Contains, refl, ap, sym, subst, arith, eqb-true}
use Rattle.std.specs.List.Sorted.{IsStrictlyIncreasing}
use Rattle.std.proofs.lemmas.Bool.{eqb-false, cases_eq}
use Rattle.std.proofs.lemmas.List.Kept.{IsStrictlyIncreasing-filter}
use Rattle.cmr_base.specs.LineSets.{without}
use Rattle.cmr_base.specs.Members.{IsIn, IsDistinct}
use Rattle.cmr_base.proofs.Members.{IsWithin, in_at}
pub use Rattle.cmr_base.proofs.Members.{in_at as in-get_or}
pub use Rattle.cmr_base.proofs.Booleans.{true_is_false}

pub in_from_contains : (xs : List ℕ) (x : ℕ) → Contains xs x → IsIn x xs
in_from_contains [] x (k, lt, e) = absurd (omega arith)
in_from_contains (y ∷ ys) x (zero, lt, e) = inl (sym e)
in_from_contains (y ∷ ys) x (suc k, lt, e) = inr (in_from_contains ys x (k, omega arith, e))

pub contains_from_in : (xs : List ℕ) (x : ℕ) → IsIn x xs → Contains xs x
contains_from_in [] x h = absurd h
contains_from_in (y ∷ ys) x (inl e) = (zero, omega arith, sym e)
contains_from_in (y ∷ ys) x (inr h) = let w = contains_from_in ys x h in (suc w.0, (let l = w.1 in omega arith), w.2)

pub empty_from_none : (xs : List ℕ) → ((x : ℕ) → IsIn x xs → ⊥) → xs ≡ []
empty_from_none [] h = refl
empty_from_none (x ∷ xs) h = absurd (h x (inl refl))

-- ---- increasing lists

pub increasing_tail : (x : ℕ) (xs : List ℕ) → IsStrictlyIncreasing (x ∷ xs) → IsStrictlyIncreasing xs
increasing_tail x xs increases k h = let next : suc k + 1 ≡ suc (k + 1) = omega arith in subst (λ n. get_or xs k 0 < get_or (x ∷ xs) n 0) next (increases (suc k) (omega arith))

pub head_below : (x y : ℕ) (xs : List ℕ) → IsStrictlyIncreasing (x ∷ xs) → IsIn y xs → x < y
head_below x y [] increases h = absurd h
head_below x y (z ∷ zs) increases (inl e) = let l = increases 0 (omega arith) in omega (arith, l)
head_below x y (z ∷ zs) increases (inr h) = let l = increases 0 (omega arith) in let m = head_below z y zs (increasing_tail x (z ∷ zs) increases) h in omega (arith, l, m)

pub increasing_distinct : (xs : List ℕ) → IsStrictlyIncreasing xs → IsDistinct xs
increasing_distinct [] increases = tt
increasing_distinct (x ∷ xs) increases = ((λ h. let l = head_below x x xs increases h in omega (arith, l)), increasing_distinct xs (increasing_tail x xs increases))

-- indices in a list without repeats
pub same_place : (xs : List ℕ) (i k : ℕ) → IsDistinct xs → i < length xs → k < length xs → get_or xs i 0 ≡ get_or xs k 0 → i ≡ k
same_place [] i k d h g e = absurd (omega arith)
same_place (x ∷ xs) zero zero d h g e = refl
same_place (x ∷ xs) zero (suc k) d h g e = absurd (d.0 (subst (λ (y : ℕ). IsIn y xs) (sym e) (in_at xs k (omega arith))))
same_place (x ∷ xs) (suc i) zero d h g e = absurd (d.0 (subst (λ (y : ℕ). IsIn y xs) e (in_at xs i (omega arith))))
same_place (x ∷ xs) (suc i) (suc k) d h g e = ap suc (same_place xs i k d.1 (omega arith) (omega arith) e)

-- the first index of a number in a list
abbrev pub place_of : ℕ → List ℕ → ℕ
place_of x [] = 0
place_of x (y ∷ ys) = cond (eqb y x) 0 (suc (place_of x ys))

pub record IsPlaceOf (x : ℕ) (xs : List ℕ) (place : ℕ) : Type 0 where
  pub in_range : place < length xs
  pub there : get_or xs place 0 ≡ x

pub place_is : (x : ℕ) (xs : List ℕ) → IsIn x xs → IsPlaceOf x xs (place_of x xs)
place_is x [] h = absurd h
place_is x (y ∷ ys) h = go (eqb y x) refl h (λ g. place_is x ys g)
  where
    go : (b : Bool) → eqb y x ≡ b → (x ≡ y) ⊎ IsIn x ys → (IsIn x ys → IsPlaceOf x ys (place_of x ys)) → IsPlaceOf x (y ∷ ys) (cond b 0 (suc (place_of x ys)))
    go true e h k = record { in_range = omega arith; there = eqb-true y x e }
    go false e (inl q) k = absurd (eqb-false y x e (sym q))
    go false e (inr h) k = let w = k h in record { in_range = (let l = w.in_range in omega (arith, l)); there = w.there }

-- ---- a list without a number

pub in_without : (i x : ℕ) (xs : List ℕ) → IsIn x xs → x ≢ i → IsIn x (without xs i)
in_without i x [] h d = absurd h
in_without i x (y ∷ ys) h d = go (eqb y i) refl h (λ g. in_without i x ys g d)
  where
    go : (b : Bool) → eqb y i ≡ b → (x ≡ y) ⊎ IsIn x ys → (IsIn x ys → IsIn x (without ys i)) → IsIn x (cond (not b) (y ∷ without ys i) (without ys i))
    go true e (inl q) k = absurd (d (q ∙ eqb-true y i e))
    go true e (inr h) k = k h
    go false e (inl q) k = inl q
    go false e (inr h) k = inr (k h)

pub without_in : (i x : ℕ) (xs : List ℕ) → IsIn x (without xs i) → IsIn x xs × (x ≢ i)
without_in i x [] h = absurd h
without_in i x (y ∷ ys) h = go (eqb y i) refl h (λ g. without_in i x ys g)
  where
    go : (b : Bool) → eqb y i ≡ b → IsIn x (cond (not b) (y ∷ without ys i) (without ys i)) → (IsIn x (without ys i) → IsIn x ys × (x ≢ i)) → ((x ≡ y) ⊎ IsIn x ys) × (x ≢ i)
    go true e h k = let w = k h in (inr w.0, w.1)
    go false e (inl q) k = (inl q, (λ r. eqb-false y i e (sym q ∙ r)))
    go false e (inr h) k = let w = k h in (inr w.0, w.1)

pub within-without : (i : ℕ) (xs : List ℕ) → IsWithin (without xs i) xs
within-without i xs x h = (without_in i x xs h).0

pub without-within : (i : ℕ) (xs ys : List ℕ) → IsWithin xs ys → IsWithin (without xs i) (without ys i)
without-within i xs ys h x g = let w = without_in i x xs g in in_without i x ys (h x w.0) w.1

pub without_increases : (i : ℕ) (xs : List ℕ) → IsStrictlyIncreasing xs → IsStrictlyIncreasing (without xs i)
without_increases i xs increases = IsStrictlyIncreasing-filter (λ line. not (eqb line i)) xs increases

-- the list gets no longer, and shorter if it contained the number
pub without_short : (i : ℕ) (xs : List ℕ) → length (without xs i) ≤ length xs
without_short i [] = omega arith
without_short i (x ∷ xs) = go (eqb x i) (without_short i xs)
  where
    go : (b : Bool) → length (without xs i) ≤ length xs → length (cond (not b) (x ∷ without xs i) (without xs i)) ≤ length (x ∷ xs)
    go true k = omega arith
    go false k = omega arith

pub without_shorter : (i : ℕ) (xs : List ℕ) → IsIn i xs → length (without xs i) < length xs
without_shorter i [] h = absurd h
without_shorter i (x ∷ xs) h = go (eqb x i) refl h (λ g. without_shorter i xs g) (without_short i xs)
  where
    go : (b : Bool) → eqb x i ≡ b → (i ≡ x) ⊎ IsIn i xs → (IsIn i xs → length (without xs i) < length xs) → length (without xs i) ≤ length xs
        → length (cond (not b) (x ∷ without xs i) (without xs i)) < length (x ∷ xs)
    go true e h k s = omega arith
    go false e (inl q) k s = absurd (eqb-false x i e (sym q))
    go false e (inr h) k s = let m = k h in omega (arith, m)

-- a number that f maps to i, or a proof that there is none
pub preimage : (f : ℕ → ℕ) (i : ℕ) (xs : List ℕ) → ((x : ℕ) × IsIn x xs × (f x ≡ i)) ⊎ ((x : ℕ) → IsIn x xs → f x ≢ i)
preimage f i [] = inr (λ x h. absurd h)
preimage f i (y ∷ ys) = go (cases_eq (f y) i) (preimage f i ys)
  where
    go : (f y ≡ i) ⊎ (f y ≢ i) → ((x : ℕ) × IsIn x ys × (f x ≡ i)) ⊎ ((x : ℕ) → IsIn x ys → f x ≢ i) → ((x : ℕ) × IsIn x (y ∷ ys) × (f x ≡ i)) ⊎ ((x : ℕ) → IsIn x (y ∷ ys) → f x ≢ i)
    go (inl e) k = inl (y, inl refl, e)
    go (inr d) (inl (x, h, e)) = inl (x, inr h, e)
    go (inr d) (inr none) = inr (λ x h e. step x h e)
      where
        step : (x : ℕ) → (x ≡ y) ⊎ IsIn x ys → f x ≡ i → ⊥
        step x (inl q) e = d (ap f (sym q) ∙ e)
        step x (inr h) e = none x h e
