-- Numbers are different if and only if they are increasing after they are sorted.
use Rattle.std.proofs.Common.{ℕ, List, eqb, eq-eqb, ne_eqb, ◌≡◌, ◌∙◌, sym, inl, inr, arith, get_or}
use Rattle.std.specs.Prelude.{◌↔◌, IsPermutation}
use Rattle.std.specs.List.{IsDistinct}
use Rattle.std.specs.List.Sorted.{IsNonDecreasing, IsStrictlyIncreasing}
use Rattle.std.proofs.lemmas.Bool.{cases_eq, eqb-false}
use Rattle.std.proofs.lemmas.List.{get_or_default}
use Rattle.std.proofs.lemmas.List.Kept.{AllPairs-from_increasing}
use Rattle.std.proofs.lemmas.List.Sorted.{IsPermutation-sym}
use Rattle.std.proofs.lemmas.Map.Keys.{apart_from_distinct, IsDistinct-from_apart, IsDistinct-IsPermutation, IsStrictlyIncreasing-from_distinct}
use Rattle.digests.specs.Digests.{AreDifferent}

equal_flips : (x y : ℕ) → eqb x y ≡ eqb y x
equal_flips x y = elim (cases_eq x y) [ inl e ↦ eq-eqb x y e ∙ sym (eq-eqb y x (sym e)) | inr d ↦ ne_eqb x y d ∙ sym (ne_eqb y x (λ e. d (sym e))) ]

different_if_distinct : (numbers : List ℕ) → IsDistinct eqb numbers → AreDifferent numbers
different_if_distinct numbers distinct one other below inside =
    eqb-false (get_or numbers one 0) (get_or numbers other 0) (apart_from_distinct eqb numbers one other 0 distinct below inside)

distinct_if_different : (numbers : List ℕ) → AreDifferent numbers → IsDistinct eqb numbers
distinct_if_different numbers different = IsDistinct-from_apart eqb numbers (λ i j d below inside.
    ne_eqb (get_or numbers i d) (get_or numbers j d)
    (rw (get_or_default numbers i d 0 (omega (arith, below, inside)), get_or_default numbers j d 0 inside) (different i j below inside)))

distinct_if_increasing : (sorted : List ℕ) → IsStrictlyIncreasing sorted → IsDistinct eqb sorted
distinct_if_increasing sorted increases = IsDistinct-from_apart eqb sorted
    (λ i j d a b. ne_eqb (get_or sorted i d) (get_or sorted j d) (λ e. let below = AllPairs-from_increasing sorted increases i j d a b in omega (arith, below, e)))

pub different_when_sorted : (numbers sorted : List ℕ) → IsPermutation numbers sorted → IsNonDecreasing sorted → IsStrictlyIncreasing sorted ↔ AreDifferent numbers
different_when_sorted numbers sorted permuted ordered = (
  (λ increases. different_if_distinct numbers
      (IsDistinct-IsPermutation eqb equal_flips sorted numbers (IsPermutation-sym numbers sorted permuted) (distinct_if_increasing sorted increases))),
  (λ different. IsStrictlyIncreasing-from_distinct sorted ordered
      (IsDistinct-IsPermutation eqb equal_flips numbers sorted permuted (distinct_if_different numbers different))),
)
