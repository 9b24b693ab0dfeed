-- Numbers of a list by their indices, and lists by their numbers.
use Rattle.std.proofs.Common.{refl, ap₂, ◌≡◌, ◌≢◌, ◌∙◌, ◌<◌, ◌≤◌, ◌+◌, ℕ, suc, List, [], ◌∷◌, length, get_or, sym, ap, subst, arith, ◌⊎◌, inl, inr}
use Rattle.std.proofs.lemmas.Bool.{cases_lt}
use Rattle.std.proofs.lemmas.List.{get_or_default}
use Rattle.std.specs.List.{Contains}
use Rattle.std.specs.List.Sorted.{IsStrictlyIncreasing}
use Rattle.cmr_base.specs.LineSets.{AllBelow, without}
use Rattle.cmr_base.specs.Members.{IsIn, IsDistinct}
use Rattle.cmr_base.proofs.ListsWithout.{increasing_tail, head_below, in_without, without_shorter, place_of, place_is}
use Rattle.cmr_base.proofs.Members.{in_at}
use Rattle.cmr_base.proofs.Submatrices.{increasing_places}

pub found_at : (xs : List ℕ) (x : ℕ) → IsIn x xs → (k : ℕ) × (k < length xs) × (get_or xs k 0 ≡ x)
found_at [] x h = absurd h
found_at (y ∷ ys) x (inl e) = (0, omega arith, sym e)
found_at (y ∷ ys) x (inr h) = let r = found_at ys x h in let l = r.1 in (suc r.0, omega arith, r.2)

-- a property of the numbers at all indices
pub all_placed : (P : ℕ → Type 0) (xs : List ℕ) (count : ℕ) → length xs ≤ count → ((k : ℕ) → k < count → P (get_or xs k 0)) → (x : ℕ) → IsIn x xs → P x
all_placed P xs count le so x h = let q = found_at xs x h in let l = q.1 in subst P q.2 (so q.0 (omega arith))

-- a property of each number below a count, and of one more number
pub each_more : (P : ℕ → Type 0) (count : ℕ) → ((k : ℕ) → k < count → P k) → P count → (k : ℕ) → k < count + 1 → P k
each_more P count each here k l = pick (cases_lt k count)
  where
    pick : (k < count) ⊎ (count ≤ k) → P k
    pick (inl h) = each k h
    pick (inr h) = let e : count ≡ k = omega (arith, h, l) in subst P e here

-- the same at one more index
pub more_placed : (P : ℕ → Type 0) (xs : List ℕ) (index : ℕ) → ((k : ℕ) → k < index → P (get_or xs k 0)) → P (get_or xs index 0) → (k : ℕ) → k < index + 1 → P (get_or xs k 0)
more_placed P xs index = each_more (λ k. P (get_or xs k 0)) index

-- a number that is not in the list is at no index
pub not_placed : (xs : List ℕ) (x : ℕ) → ¬ (IsIn x xs) → (k : ℕ) → k < length xs → get_or xs k 0 ≢ x
not_placed xs x n k l e = n (subst (λ (z : ℕ). IsIn z xs) e (in_at xs k l))

-- a number below the number at an index of an increasing list is at an earlier index
pub placed_before : (P : ℕ → Type 0) (xs : List ℕ) (index : ℕ) → IsStrictlyIncreasing xs → ((k : ℕ) → k < index → P (get_or xs k 0)) → (x : ℕ) → IsIn x xs → x < get_or xs index 0 → P x
placed_before P xs index increasing so x h low = pick (found_at xs x h)
  where
    pick : (k : ℕ) × (k < length xs) × (get_or xs k 0 ≡ x) → P x
    pick (k, l, e) = elim (cases_lt k index) [
      | inl m ↦ subst P e (so k m)
      | inr m ↦ elim (cases_lt index k) [
        | inl n ↦ let above = increasing_places xs index k increasing n l in absurd (omega (arith, above, e, low))
        | inr n ↦ let same : k ≡ index = omega arith in let here = ap (λ (z : ℕ). get_or xs z 0) same in absurd (omega (arith, here, e, low))
      ]
    ]

pub members_below : (bound : ℕ) (xs : List ℕ) → AllBelow bound xs → (x : ℕ) → IsIn x xs → x < bound
members_below bound xs below x h = let q = found_at xs x h in subst (λ (y : ℕ). y < bound) q.2 (below q.0 q.1)

pub contained_below : (bound : ℕ) (xs : List ℕ) (x : ℕ) → AllBelow bound xs → Contains xs x → x < bound
contained_below bound xs x below (k, l, e) = let same : get_or xs k x ≡ x = e in subst (λ (y : ℕ). y < bound) (get_or_default xs k 0 x l ∙ same) (below k l)

-- numbers that differ at any two indices are distinct
pub distinct_from_apart : (xs : List ℕ) → ((i k : ℕ) → i < k → k < length xs → get_or xs i 0 ≢ get_or xs k 0) → IsDistinct xs
distinct_from_apart [] apart = tt
distinct_from_apart (x ∷ xs) apart = (
  (λ h. let p = place_is x xs h in apart 0 (suc (place_of x xs)) (omega arith) (let l = p.in_range in omega (arith, l)) (sym p.there)),
  distinct_from_apart xs (λ i k l h. apart (suc i) (suc k) (omega (arith, l)) (omega (arith, h))),
)

-- distinct numbers from another list are at most as many
pub fewer_distinct : (xs ys : List ℕ) → IsDistinct xs → ((x : ℕ) → IsIn x xs → IsIn x ys) → length xs ≤ length ys
fewer_distinct [] ys d sub = omega arith
fewer_distinct (x ∷ xs) ys d sub =
    let rest = fewer_distinct xs (without ys x) d.1 (λ y h. in_without x y ys (sub y (inr h)) (λ e. d.0 (subst (λ (z : ℕ). IsIn z xs) e h))) in
    let less = without_shorter x ys (sub x (inl refl)) in
    omega (arith, rest, less)

-- increasing lists with the same numbers are equal
pub increasing_same : (xs ys : List ℕ) → IsStrictlyIncreasing xs → IsStrictlyIncreasing ys → ((x : ℕ) → IsIn x xs → IsIn x ys) → ((x : ℕ) → IsIn x ys → IsIn x xs) → xs ≡ ys
increasing_same [] [] rx ry f g = refl
increasing_same [] (y ∷ ys) rx ry f g = absurd (g y (inl refl))
increasing_same (x ∷ xs) [] rx ry f g = absurd (f x (inl refl))
increasing_same (x ∷ xs) (y ∷ ys) rx ry f g = ap₂ (λ (z : ℕ) (zs : List ℕ). z ∷ zs) heads
    (increasing_same xs ys (increasing_tail x xs rx) (increasing_tail y ys ry) (λ z h. left z h (f z (inr h))) (λ z h. right z h (g z (inr h))))
  where
    heads : x ≡ y
    heads = go (f x (inl refl)) (g y (inl refl))
      where
        go : (x ≡ y) ⊎ IsIn x ys → (y ≡ x) ⊎ IsIn y xs → x ≡ y
        go (inl e) k = e
        go (inr h) (inl e) = sym e
        go (inr h) (inr k) = let a = head_below y x ys ry h in let b = head_below x y xs rx k in absurd (omega arith)

    left : (z : ℕ) → IsIn z xs → (z ≡ y) ⊎ IsIn z ys → IsIn z ys
    left z h (inl e) = let a = head_below x z xs rx h in let b = heads in absurd (omega arith)
    left z h (inr k) = k

    right : (z : ℕ) → IsIn z ys → (z ≡ x) ⊎ IsIn z xs → IsIn z xs
    right z h (inl e) = let a = head_below y z ys ry h in let b = heads in absurd (omega arith)
    right z h (inr k) = k
