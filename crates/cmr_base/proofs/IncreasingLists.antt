-- Increasing lists of numbers, and the increasing list of the numbers that occur an odd number of times in a list.
use Rattle.std.proofs.Common.{◌≡◌, ◌≢◌, ◌<◌, ◌≤◌, ◌+◌, ◌⊎◌, inl, inr, ℕ, zero, suc, Bool, true, false, cond, nat_eq, nat_lt, ℤ, pos, ◌+ℤ◌, ◌-ℤ◌, List, [], ◌∷◌, length, take, get_or, refl, ap, sym, subst, arith}
use Rattle.std.specs.List.{AllByRecursion, range_with_len}
use Rattle.std.specs.List.Sorted.{IsStrictlyIncreasing}
use Rattle.std.proofs.lemmas.Bool.{cases_eq}
use Rattle.std.proofs.lemmas.Bool.Decides.{nat_tests}
use Rattle.cmr_base.specs.Matrix.{Matrix, height}
use Rattle.cmr_base.specs.LineSets.{AllBelow, IsRowSet, IsColumnSet}
use Rattle.cmr_base.specs.Sums.{sum_over, IsEven}
use Rattle.cmr_base.proofs.Integers.{sums}
use Rattle.cmr_base.proofs.Parity.{IsFour}
use Rattle.cmr_base.proofs.Lists.{IsJoined, one_more_first, joined_later}
use Rattle.cmr_base.proofs.Booleans.{eq_of}

-- each number is at least low and below high, and above the previous number
abbrev pub IncreasesIn : ℕ → ℕ → List ℕ → Type 0
IncreasesIn low high [] = Unit {0}
IncreasesIn low high (x ∷ xs) = (low ≤ x) × (x < high) × IncreasesIn (x + 1) high xs

pub increases_in : (low high : ℕ) (xs : List ℕ) → IsStrictlyIncreasing xs → ((k : ℕ) → k < length xs → get_or xs k 0 < high) → (0 < length xs → low ≤ get_or xs 0 0) → IncreasesIn low high xs
increases_in low high [] increases below from = tt
increases_in low high (x ∷ xs) increases below from = (
  from (omega arith),
  below 0 (omega arith),
  increases_in (x + 1) high xs (λ k h. let next : suc k + 1 ≡ suc (k + 1) = omega arith in subst (λ n. get_or xs k 0 < get_or (x ∷ xs) n 0) next (increases (suc k) (omega arith))) (λ k h. below (suc k) (omega arith)) (λ h. let up = increases 0 (omega arith) in omega (arith, up)),
)

pub increases_from_lower : (low from high : ℕ) (xs : List ℕ) → low ≤ from → IncreasesIn from high xs → IncreasesIn low high xs
increases_from_lower low from high [] h increases = tt
increases_from_lower low from high (x ∷ xs) h increases = (omega (arith, increases.0), increases.1, increases.2)

pub increasing_in_range : (low high : ℕ) (xs : List ℕ) → IncreasesIn low high xs → (k : ℕ) → k < length xs → get_or xs k 0 < high
increasing_in_range low high [] increases k h = absurd (omega arith)
increasing_in_range low high (x ∷ xs) increases zero h = increases.1
increasing_in_range low high (x ∷ xs) increases (suc k) h = increasing_in_range (x + 1) high xs increases.2 k (omega arith)

pub increasing_at_least : (low high : ℕ) (xs : List ℕ) → IncreasesIn low high xs → (k : ℕ) → k < length xs → low ≤ get_or xs k 0
increasing_at_least low high [] increases k h = absurd (omega arith)
increasing_at_least low high (x ∷ xs) increases zero h = increases.0
increasing_at_least low high (x ∷ xs) increases (suc k) h = let from = increasing_at_least (x + 1) high xs increases.2 k (omega arith) in omega (arith, increases.0)

-- the numbers before an index are below the number at the index
pub increasing_prefix : (low high : ℕ) (xs : List ℕ) → IncreasesIn low high xs → (k : ℕ) → k < length xs → AllByRecursion (λ x. x < get_or xs k 0) (take k xs)
increasing_prefix low high [] increases k h = absurd (omega arith)
increasing_prefix low high (x ∷ xs) increases zero h = tt
increasing_prefix low high (x ∷ xs) increases (suc k) h = (
  let from = increasing_at_least (x + 1) high xs increases.2 k (omega arith) in omega arith,
  increasing_prefix (x + 1) high xs increases.2 k (omega arith),
)

next_above : (low high : ℕ) (xs : List ℕ) → IncreasesIn low high xs → (k : ℕ) → suc k < length xs → get_or xs k 0 < get_or xs (suc k) 0
next_above low high [] increases k h = absurd (omega arith)
next_above low high (x ∷ []) increases k h = absurd (omega arith)
next_above low high (x ∷ y ∷ xs) increases zero h = omega (arith, increases.2.0)
next_above low high (x ∷ y ∷ xs) increases (suc k) h = next_above (x + 1) high (y ∷ xs) increases.2 k (omega arith)

pub increases_along : (low high : ℕ) (xs : List ℕ) → IncreasesIn low high xs → IsStrictlyIncreasing xs
increases_along low high xs increases k h = let next : k + 1 ≡ suc k = omega arith in rw next (next_above low high xs increases k (omega arith))

pub increasing_short : (low high : ℕ) (xs : List ℕ) → IncreasesIn low high xs → low ≤ high → length xs + low ≤ high
increasing_short low high [] increases h = omega arith
increasing_short low high (x ∷ xs) increases h = omega (arith, increases.0, increases.1, increasing_short (x + 1) high xs increases.2 (omega (arith, increases.1)))

pub increasing_count : (bound : ℕ) (xs : List ℕ) → IsStrictlyIncreasing xs → AllBelow bound xs → length xs ≤ bound
increasing_count bound xs increases below = let short = increasing_short 0 bound xs (increases_in 0 bound xs increases below (λ h. omega arith)) (omega arith) in omega (arith, short)

pub increasing_below : (low high : ℕ) (xs : List ℕ) → IncreasesIn low high xs → AllByRecursion (λ x. x < high) xs
increasing_below low high [] increases = tt
increasing_below low high (x ∷ xs) increases = (increases.1, increasing_below (x + 1) high xs increases.2)

pub row_set_increases : (m : Matrix) (rows : List ℕ) → IsRowSet m rows → IncreasesIn 0 (height m) rows
row_set_increases m rows is = increases_in 0 (height m) rows is.increasing is.in_range (λ h. omega arith)

pub increasing_row_set : (m : Matrix) (rows : List ℕ) → IncreasesIn 0 (height m) rows → IsRowSet m rows
increasing_row_set m rows increases = record {
  increasing = increases_along 0 (height m) rows increases;
  in_range = increasing_in_range 0 (height m) rows increases;
}

pub column_set_increases : (m : Matrix) (columns : List ℕ) → IsColumnSet m columns → IncreasesIn 0 m.width columns
column_set_increases m columns is = increases_in 0 m.width columns is.increasing is.in_range (λ h. omega arith)

pub increasing_column_set : (m : Matrix) (columns : List ℕ) → IncreasesIn 0 m.width columns → IsColumnSet m columns
increasing_column_set m columns increases = record {
  increasing = increases_along 0 m.width columns increases;
  in_range = increasing_in_range 0 m.width columns increases;
}

-- ---- one number inserted or removed

-- the list without the number if it contains the number, and with the number otherwise
abbrev pub toggle : ℕ → List ℕ → List ℕ
toggle n [] = n ∷ []
toggle n (x ∷ xs) = cond (nat_lt n x) (n ∷ x ∷ xs) (cond (nat_eq n x) xs (x ∷ toggle n xs))

-- the increasing list of the numbers that occur an odd number of times
abbrev pub odd_times : List ℕ → List ℕ
odd_times [] = []
odd_times (x ∷ xs) = toggle x (odd_times xs)

all-toggle : (P : ℕ → Type 0) (n : ℕ) (xs : List ℕ) → P n → AllByRecursion P xs → AllByRecursion P (toggle n xs)
all-toggle P n [] p h = (p, tt)
all-toggle P n (x ∷ xs) p h = go (nat_lt n x) (nat_eq n x) (all-toggle P n xs p h.1)
  where
    go : (s t : Bool) → AllByRecursion P (toggle n xs) → AllByRecursion P (cond s (n ∷ x ∷ xs) (cond t xs (x ∷ toggle n xs)))
    go true t k = (p, h)
    go false true k = h.1
    go false false k = (h.0, k)

pub all-odd_times : (P : ℕ → Type 0) (xs : List ℕ) → AllByRecursion P xs → AllByRecursion P (odd_times xs)
all-odd_times P [] h = tt
all-odd_times P (x ∷ xs) h = all-toggle P x (odd_times xs) h.0 (all-odd_times P xs h.1)

-- the number is inserted or removed
toggle_adds : (n : ℕ) (xs : List ℕ) (f : ℕ → ℤ) → (sum_over (toggle n xs) f ≡ f n +ℤ sum_over xs f) ⊎ (sum_over xs f ≡ f n +ℤ sum_over (toggle n xs) f)
toggle_adds n [] f = inl refl
toggle_adds n (x ∷ xs) f = go (nat_lt n x) (nat_eq n x) refl (toggle_adds n xs f)
  where
    before : (a b c d : ℤ) → d ≡ b +ℤ c → a +ℤ d ≡ b +ℤ (a +ℤ c)
    before a b c d e = omega (arith, sums)

    go : (s t : Bool) → nat_eq n x ≡ t → (sum_over (toggle n xs) f ≡ f n +ℤ sum_over xs f) ⊎ (sum_over xs f ≡ f n +ℤ sum_over (toggle n xs) f)
        → (sum_over (cond s (n ∷ x ∷ xs) (cond t xs (x ∷ toggle n xs))) f ≡ f n +ℤ sum_over (x ∷ xs) f) ⊎ (sum_over (x ∷ xs) f ≡ f n +ℤ sum_over (cond s (n ∷ x ∷ xs) (cond t xs (x ∷ toggle n xs))) f)
    go true t e rest = inl refl
    go false true e rest = inr (ap (λ (k : ℕ). f k +ℤ sum_over xs f) (sym (eq_of n x e)))
    go false false e (inl h) = inl (before (f x) (f n) (sum_over xs f) (sum_over (toggle n xs) f) h)
    go false false e (inr h) = inr (before (f x) (f n) (sum_over (toggle n xs) f) (sum_over xs f) h)

pub even_change-odd_times : (xs : List ℕ) (f : ℕ → ℤ) → IsEven (sum_over xs f -ℤ sum_over (odd_times xs) f)
even_change-odd_times [] f = (pos 0, refl)
even_change-odd_times (x ∷ xs) f = elim (toggle_adds x (odd_times xs) f) [
  | inl h ↦ comes (f x) (sum_over xs f) (sum_over (odd_times xs) f) (sum_over (toggle x (odd_times xs)) f) h (even_change-odd_times xs f)
  | inr h ↦ goes (f x) (sum_over xs f) (sum_over (odd_times xs) f) (sum_over (toggle x (odd_times xs)) f) h (even_change-odd_times xs f)
]
  where
    comes : (a b c d : ℤ) → d ≡ a +ℤ c → IsEven (b -ℤ c) → IsEven ((a +ℤ b) -ℤ d)
    comes a b c d h (k, e) = (k, omega (arith, sums))

    goes : (a b c d : ℤ) → c ≡ a +ℤ d → IsEven (b -ℤ c) → IsEven ((a +ℤ b) -ℤ d)
    goes a b c d h (k, e) = (a +ℤ k, omega (arith, sums))

pub four_change-odd_times : (xs : List ℕ) (f : ℕ → ℤ) → AllByRecursion (λ x. IsEven (f x)) xs → IsFour (sum_over xs f -ℤ sum_over (odd_times xs) f)
four_change-odd_times [] f h = (pos 0, refl)
four_change-odd_times (x ∷ xs) f h = elim (toggle_adds x (odd_times xs) f) [
  | inl e ↦ comes (f x) (sum_over xs f) (sum_over (odd_times xs) f) (sum_over (toggle x (odd_times xs)) f) e (four_change-odd_times xs f h.1)
  | inr e ↦ goes (f x) (sum_over xs f) (sum_over (odd_times xs) f) (sum_over (toggle x (odd_times xs)) f) e h.0 (four_change-odd_times xs f h.1)
]
  where
    comes : (a b c d : ℤ) → d ≡ a +ℤ c → IsFour (b -ℤ c) → IsFour ((a +ℤ b) -ℤ d)
    comes a b c d h (k, e) = (k, omega (arith, sums))

    goes : (a b c d : ℤ) → c ≡ a +ℤ d → IsEven a → IsFour (b -ℤ c) → IsFour ((a +ℤ b) -ℤ d)
    goes a b c d h (l, f) (k, e) = (l +ℤ k, omega (arith, sums))

increases-toggle : (low high n : ℕ) (xs : List ℕ) → low ≤ n → n < high → IncreasesIn low high xs → IncreasesIn low high (toggle n xs)
increases-toggle low high n [] from to increases = (from, to, tt)
increases-toggle low high n (x ∷ xs) from to increases = go (nat_lt n x) (nat_eq n x) refl refl (λ h. increases-toggle (x + 1) high n xs h to increases.2)
  where
    less : (n x : ℕ) → nat_lt n x ≡ true → n + 1 ≤ x
    less n x e = grind (arith, nat_tests)

    more : (n x : ℕ) → nat_lt n x ≡ false → nat_eq n x ≡ false → x + 1 ≤ n
    more n x e f = grind (arith, nat_tests)

    go : (s t : Bool) → nat_lt n x ≡ s → nat_eq n x ≡ t → (x + 1 ≤ n → IncreasesIn (x + 1) high (toggle n xs)) → IncreasesIn low high (cond s (n ∷ x ∷ xs) (cond t xs (x ∷ toggle n xs)))
    go true t e f k = (from, to, (less n x e, increases.1, increases.2))
    go false true e f k = increases_from_lower low (x + 1) high xs (omega (arith, increases.0)) increases.2
    go false false e f k = (increases.0, increases.1, k (more n x e f))

pub increases-odd_times : (high : ℕ) (xs : List ℕ) → AllByRecursion (λ x. x < high) xs → IncreasesIn 0 high (odd_times xs)
increases-odd_times high [] h = tt
increases-odd_times high (x ∷ xs) h = increases-toggle 0 high x (odd_times xs) (omega arith) h.0 (increases-odd_times high xs h.1)

-- ---- an increasing list with one smaller number

pub increasing_apart : (low high n : ℕ) (xs : List ℕ) → n < low → IncreasesIn low high xs → AllByRecursion (λ x. x ≢ n) xs
increasing_apart low high n [] h increases = tt
increasing_apart low high n (x ∷ xs) h increases = (omega (arith, increases.0), increasing_apart (x + 1) high n xs (omega (arith, increases.0)) increases.2)

pub record IsSplitAt (n : ℕ) (xs : List ℕ) : Type 0 where
  pub there : Bool
  pub others : List ℕ
  pub joined : IsJoined there n others xs
  pub apart : AllByRecursion (λ x. x ≢ n) others

pub split_at : (low high n : ℕ) (xs : List ℕ) → IncreasesIn low high xs → IsSplitAt n xs
split_at low high n [] increases = record { there = false; others = []; joined = refl; apart = tt }
split_at low high n (x ∷ xs) increases = elim (cases_eq x n) [
  | inl e ↦ record {
    there = true;
    others = xs;
    joined = subst (λ k. IsJoined true k xs (x ∷ xs)) e (one_more_first x xs);
    apart = increasing_apart (x + 1) high n xs (omega arith) increases.2;
  }
  | inr other ↦
      let later = split_at (x + 1) high n xs increases.2 in
      record {
        there = later.there;
        others = x ∷ later.others;
        joined = joined_later later.there x n later.others xs later.joined;
        apart = (other, later.apart);
      }
]

pub row_set_short : (m : Matrix) (rows : List ℕ) → IsStrictlyIncreasing rows → ((k : ℕ) → k < length rows → get_or rows k 0 < height m) → length rows ≤ height m
row_set_short m rows increases inside = let short = increasing_short 0 (height m) rows (row_set_increases m rows (record { increasing = increases; in_range = inside })) (omega arith) in omega arith

-- ---- ranges and maps

pub increases-range : (first count high : ℕ) → high ≡ first + count → IncreasesIn first high (range_with_len first count)
increases-range first zero high e = tt
increases-range first (suc count) high e = (omega arith, omega arith, increases-range (first + 1) count high (omega arith))
