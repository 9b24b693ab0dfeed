-- Lines that are members of lists of lines.
use Rattle.std.proofs.Common.{◌≡◌, ◌<◌, ◌≤◌, ◌||◌, inl, inr, ℕ, true, false, not, eqb, List, [], ◌∷◌, length, get_or, Contains, Result, Ok, Err, is_ok, ap, sym, subst, arith, eqb-true}
use Rattle.std.proofs.lemmas.Bool.{eq-eqb, cases_lt}
use Rattle.std.specs.List.Sorted.{IsStrictlyIncreasing, IsBinarySearchResult}
use Rattle.std.specs.Ordering.{nat_cmp}
use Rattle.std.proofs.lemmas.List.Sorted.{searched}
use Rattle.cmr_base.specs.Members.{IsIn}
use Rattle.cmr_base.proofs.ListsWithout.{true_is_false, in_from_contains, contains_from_in, in-get_or, place_of, place_is}
use Rattle.cmr_base.proofs.Submatrices.{increasing_places}
use Rattle.cmr_base.proofs.Booleans.{false_is, or_is, or_left, or_right, or_false}
use Rattle.cmr_base.proofs.Lists.{filter_same}
use Rattle.tree_type.specs.Sides.{is_among, inside, outside, inside_with, outside_with}

pub in_among : (xs : List ℕ) (x : ℕ) → IsIn x xs → is_among xs x ≡ true
in_among [] x h = absurd h
in_among (y ∷ ys) x (inl e) = or_left (eqb x y) (is_among ys x) (eq-eqb x y e)
in_among (y ∷ ys) x (inr h) = or_right (eqb x y) (is_among ys x) (in_among ys x h)

pub among_in : (xs : List ℕ) (x : ℕ) → is_among xs x ≡ true → IsIn x xs
among_in [] x e = true_is_false (sym e)
among_in (y ∷ ys) x e = elim (or_is (eqb x y) (is_among ys x) e) [
  | inl q ↦ inl (eqb-true x y q)
  | inr q ↦ inr (among_in ys x q)
]

pub contains_among : (xs : List ℕ) (x : ℕ) → Contains xs x → is_among xs x ≡ true
contains_among xs x h = in_among xs x (in_from_contains xs x h)

pub among_contains : (xs : List ℕ) (x : ℕ) → is_among xs x ≡ true → Contains xs x
among_contains xs x e = contains_from_in xs x (among_in xs x e)

not_in : (xs : List ℕ) (x : ℕ) → (IsIn x xs → ⊥) → is_among xs x ≡ false
not_in xs x h = false_is (is_among xs x) (λ e. h (among_in xs x e))

increases : (xs : List ℕ) → IsStrictlyIncreasing xs → (i j : ℕ) → i ≤ j → j < length xs → get_or xs i 0 ≤ get_or xs j 0
increases xs up i j le lt = elim (cases_lt i j) [
  | inl l ↦ let below = increasing_places xs i j up l lt in omega (arith, below)
  | inr l ↦ let same : i ≡ j = omega (arith, l, le) in let e = ap (λ k. get_or xs k 0) same in omega (arith, e)
]

-- a binary search finds each member
pub searched_among : (xs : List ℕ) (x : ℕ) (r : Result ℕ ℕ) → IsStrictlyIncreasing xs → IsBinarySearchResult (λ y. nat_cmp y x) xs r → is_ok r ≡ is_among xs x
searched_among xs x (Ok i) up h = let at = searched xs x (Ok i) h (increases xs up) in sym (in_among xs x (subst (λ (y : ℕ). IsIn y xs) at.1 (in-get_or xs i at.0)))
searched_among xs x (Err i) up h = let parted = searched xs x (Err i) h (increases xs up) in sym (not_in xs x (λ g. apart parted.1 parted.2 (place_of x xs) (place_is x xs g).in_range (place_is x xs g).there))
  where
    apart : ((k : ℕ) → k < i → get_or xs k 0 < x) → ((k : ℕ) → i ≤ k → k < length xs → x < get_or xs k 0) → (k : ℕ) → k < length xs → get_or xs k 0 ≡ x → ⊥
    apart before after k l e = elim (cases_lt k i) [
      | inl b ↦ let low = before k b in omega (arith, low, e)
      | inr a ↦ let high = after k a l in omega (arith, high, e)
    ]

-- no further lines
pub inside_alone : (set xs : List ℕ) → inside_with set [] xs ≡ inside set xs
inside_alone set xs = filter_same (λ x. is_among set x || false) (is_among set) (λ x. or_false (is_among set x)) xs

pub outside_alone : (set xs : List ℕ) → outside_with set [] xs ≡ outside set xs
outside_alone set xs = filter_same (λ x. not (is_among set x) || false) (λ x. not (is_among set x)) (λ x. or_false (not (is_among set x))) xs
