-- Sums over a set of columns, by the bits of its number.
use Rattle.std.proofs.Common.{◌≡◌, ◌<◌, ◌+◌, ◌/◌, ◌%◌, ◌^◌, ◌∙◌, ◌⊎◌, ℕ, zero, suc, ℤ, pos, ◌+ℤ◌, ◌∷◌, refl, ap, ap₂, sym, subst, inl, inr, arith, min}
use Rattle.std.specs.Prelude.{bit_and, count_ones}
use Rattle.std.specs.List.{AllByRecursion}
use Rattle.std.specs.Int.{bit_at}
use Rattle.std.proofs.lemmas.Nat.Bits.{bit_at_and, bit_at_lowest, bit_at-suc, bit_at-zero, same_from_bits}
use Rattle.std.proofs.lemmas.Bool.{cases_eq}
use Rattle.std.proofs.Math.Nat.{pow-suc}
use lib.Count.{ones_step}
use Rattle.cmr_base.specs.LineSets.{set_numbered}
use Rattle.cmr_base.specs.Sums.{sum_over, IsEven, IsTwoModFour}
use Rattle.cmr_base.proofs.Integers.{sums}
use Rattle.parity.proofs.Bits.{ones-zero}

-- the sum has the parity of the count
pub record HasParity (sum : ℤ) (count : ℕ) : Type 0 where
  pub twos : ℤ
  pub is : sum ≡ pos count +ℤ (twos +ℤ twos)

-- the sum is twice the count modulo 4
pub record HasDouble (sum : ℤ) (count : ℕ) : Type 0 where
  pub fours : ℤ
  pub is : sum ≡ (pos count +ℤ pos count) +ℤ ((fours +ℤ fours) +ℤ (fours +ℤ fours))

pub even_from_count : (sum : ℤ) (count : ℕ) → HasParity sum count → count % 2 ≡ 0 → IsEven sum
even_from_count sum count h even =
    let twice : count ≡ count / 2 + count / 2 = omega arith in
    let e = h.is in
    (pos (count / 2) +ℤ h.twos, omega (arith, sums))

pub count_from_even : (sum : ℤ) (count : ℕ) → HasParity sum count → IsEven sum → count % 2 ≡ 0
count_from_even sum count h (k, e) = let is = h.is in omega (arith, sums)

pub two_from_count : (sum : ℤ) (count : ℕ) → HasDouble sum count → count % 2 ≡ 1 → IsTwoModFour sum
two_from_count sum count h odd =
    let twice : count ≡ 1 + (count / 2 + count / 2) = omega arith in
    let e = h.is in
    (pos (count / 2) +ℤ h.fours, omega (arith, sums))

pub count_from_two : (sum : ℤ) (count : ℕ) → HasDouble sum count → IsTwoModFour sum → count % 2 ≡ 1
count_from_two sum count h (k, e) = let is = h.is in omega (arith, sums)

ones-and : (a b : ℕ) → count_ones (bit_and a b) ≡ min (a % 2) (b % 2) + count_ones (bit_and (a / 2) (b / 2))
ones-and a b =
    let low : bit_and a b % 2 ≡ min (a % 2) (b % 2) = sym (bit_at_lowest (bit_and a b)) ∙ bit_at_and a b 0 ∙ ap₂ min (bit_at_lowest a) (bit_at_lowest b) in
    let high : bit_and a b / 2 ≡ bit_and (a / 2) (b / 2) = same_from_bits (bit_and a b / 2) (bit_and (a / 2) (b / 2)) (λ i. sym (bit_at-suc (bit_and a b) i) ∙ bit_at_and a b (suc i) ∙ ap₂ min (bit_at-suc a i) (bit_at-suc b i) ∙ sym (bit_at_and (a / 2) (b / 2) i)) in
    ones_step (bit_and a b) ∙ ap₂ (λ (x y : ℕ). x + y) low (ap count_ones high)

ones-and_zero : (a b : ℕ) → b ≡ 0 → count_ones (bit_and a b) ≡ 0
ones-and_zero a b e = ap (λ n. count_ones (bit_and a n)) e ∙ ap count_ones none ∙ ones-zero
  where
    none : bit_and a 0 ≡ 0
    none = same_from_bits (bit_and a 0) 0 (λ i. bit_at_and a 0 i ∙ omega (arith, bit_at-zero i))

-- ---- the set with a number, by its lowest line
numbered_with : (count first number : ℕ) → number % 2 ≡ 1 → set_numbered (suc count) first number ≡ first ∷ set_numbered count (first + 1) (number / 2)
numbered_with count first number odd = rw odd refl

numbered_without : (count first number : ℕ) → number % 2 ≡ 0 → set_numbered (suc count) first number ≡ set_numbered count (first + 1) (number / 2)
numbered_without count first number even = rw even refl

low_cases : (number : ℕ) → (number % 2 ≡ 1) ⊎ (number % 2 ≡ 0)
low_cases number = elim (cases_eq (number % 2) 1) [
  | inl one ↦ inl one
  | inr other ↦ inr (omega arith)
]

-- a property of the bits of the number is a property of the lines of the set
pub all_numbered : (P : ℕ → Type 0) (count first number : ℕ) → ((place : ℕ) → place < count → bit_at number place ≡ 1 → P (first + place)) → AllByRecursion P (set_numbered count first number)
all_numbered P zero first number h = tt
all_numbered P (suc count) first number h =
    by (low_cases number) (all_numbered P count (first + 1) (number / 2) (λ place lt one.
    let next : first + suc place ≡ (first + 1) + place = omega arith in
    subst P next (h (suc place) (omega arith) (bit_at-suc number place ∙ one))))
  where
    by : (number % 2 ≡ 1) ⊎ (number % 2 ≡ 0) → AllByRecursion P (set_numbered count (first + 1) (number / 2)) → AllByRecursion P (set_numbered (suc count) first number)
    by (inl odd) later =
        let here : first + 0 ≡ first = omega arith in
        subst (AllByRecursion P) (sym (numbered_with count first number odd)) (subst P here (h 0 (omega arith) (bit_at_lowest number ∙ odd)), later)
    by (inr even) later = subst (AllByRecursion P) (sym (numbered_without count first number even)) later

pub at_numbered : (P : ℕ → Type 0) (count first number : ℕ) → AllByRecursion P (set_numbered count first number) → (place : ℕ) → place < count → bit_at number place ≡ 1 → P (first + place)
at_numbered P zero first number all place lt one = absurd (omega arith)
at_numbered P (suc count) first number all zero lt one =
    let here : first ≡ first + 0 = omega arith in
    subst P here (subst (AllByRecursion P) (numbered_with count first number (sym (bit_at_lowest number) ∙ one)) all).0
at_numbered P (suc count) first number all (suc place) lt one =
    let next : (first + 1) + place ≡ first + suc place = omega arith in
    subst P next (at_numbered P count (first + 1) (number / 2) (rest (low_cases number)) place (omega arith) (sym (bit_at-suc number place) ∙ one))
  where
    rest : (number % 2 ≡ 1) ⊎ (number % 2 ≡ 0) → AllByRecursion P (set_numbered count (first + 1) (number / 2))
    rest (inl odd) = (subst (AllByRecursion P) (numbered_with count first number odd) all).1
    rest (inr even) = subst (AllByRecursion P) (numbered_without count first number even) all

-- ---- sums over the set
later_parity : (f : ℕ → ℤ) (u first place : ℕ) → HasParity (f (first + suc place)) (bit_at u (suc place)) → HasParity (f ((first + 1) + place)) (bit_at (u / 2) place)
later_parity f u first place h =
    let next : first + suc place ≡ (first + 1) + place = omega arith in
    subst (λ n. HasParity (f n) (bit_at (u / 2) place)) next (subst (HasParity (f (first + suc place))) (bit_at-suc u place) h)

pub parity-numbered : (f : ℕ → ℤ) (count first number u : ℕ) → number < 2 ^ count
    → ((place : ℕ) → place < count → HasParity (f (first + place)) (bit_at u place))
    → HasParity (sum_over (set_numbered count first number) f) (count_ones (bit_and u number))
parity-numbered f zero first number u small each =
    let none : number ≡ 0 = omega arith in
    record { twos = pos 0; is = ap pos (sym (ones-and_zero u number none)) ∙ omega (arith, sums) }
parity-numbered f (suc count) first number u small each =
    by (low_cases number) (parity-numbered f count (first + 1) (number / 2) (u / 2) (omega (arith, pow-suc 2 count)) (λ place lt. later_parity f u first place (each (suc place) (omega arith))))
  where
    here : HasParity (f first) (u % 2)
    here = let at : first + 0 ≡ first = omega arith in subst (λ n. HasParity (f n) (u % 2)) at (subst (HasParity (f (first + 0))) (bit_at_lowest u) (each 0 (omega arith)))

    by : (number % 2 ≡ 1) ⊎ (number % 2 ≡ 0) → HasParity (sum_over (set_numbered count (first + 1) (number / 2)) f) (count_ones (bit_and (u / 2) (number / 2)))
        → HasParity (sum_over (set_numbered (suc count) first number) f) (count_ones (bit_and u number))
    by (inl odd) later =
        let whole : count_ones (bit_and u number) ≡ u % 2 + count_ones (bit_and (u / 2) (number / 2)) = omega (arith, ones-and u number) in
        let a = here.is in
        let b = later.is in
        record { twos = here.twos +ℤ later.twos; is = ap (λ lines. sum_over lines f) (numbered_with count first number odd) ∙ omega (arith, sums) }
    by (inr even) later =
        let whole : count_ones (bit_and u number) ≡ count_ones (bit_and (u / 2) (number / 2)) = omega (arith, ones-and u number) in
        let b = later.is in
        record { twos = later.twos; is = ap (λ lines. sum_over lines f) (numbered_without count first number even) ∙ omega (arith, sums) }

later_double : (f : ℕ → ℤ) (u first place : ℕ) → HasDouble (f (first + suc place)) (bit_at u (suc place)) → HasDouble (f ((first + 1) + place)) (bit_at (u / 2) place)
later_double f u first place h =
    let next : first + suc place ≡ (first + 1) + place = omega arith in
    subst (λ n. HasDouble (f n) (bit_at (u / 2) place)) next (subst (HasDouble (f (first + suc place))) (bit_at-suc u place) h)

pub double-numbered : (f : ℕ → ℤ) (count first number u : ℕ) → number < 2 ^ count
    → ((place : ℕ) → place < count → bit_at number place ≡ 1 → HasDouble (f (first + place)) (bit_at u place))
    → HasDouble (sum_over (set_numbered count first number) f) (count_ones (bit_and u number))
double-numbered f zero first number u small each =
    let none : number ≡ 0 = omega arith in
    let e = ones-and_zero u number none in
    record { fours = pos 0; is = omega (arith, sums) }
double-numbered f (suc count) first number u small each =
    by (low_cases number) (double-numbered f count (first + 1) (number / 2) (u / 2) (omega (arith, pow-suc 2 count)) (λ place lt one. later_double f u first place (each (suc place) (omega arith) (bit_at-suc number place ∙ one))))
  where
    here : number % 2 ≡ 1 → HasDouble (f first) (u % 2)
    here odd = let at : first + 0 ≡ first = omega arith in subst (λ n. HasDouble (f n) (u % 2)) at (subst (HasDouble (f (first + 0))) (bit_at_lowest u) (each 0 (omega arith) (bit_at_lowest number ∙ odd)))

    by : (number % 2 ≡ 1) ⊎ (number % 2 ≡ 0) → HasDouble (sum_over (set_numbered count (first + 1) (number / 2)) f) (count_ones (bit_and (u / 2) (number / 2)))
        → HasDouble (sum_over (set_numbered (suc count) first number) f) (count_ones (bit_and u number))
    by (inl odd) later =
        let whole : count_ones (bit_and u number) ≡ u % 2 + count_ones (bit_and (u / 2) (number / 2)) = omega (arith, ones-and u number) in
        let first_is = here odd in
        let a = first_is.is in
        let b = later.is in
        record { fours = first_is.fours +ℤ later.fours; is = ap (λ lines. sum_over lines f) (numbered_with count first number odd) ∙ omega (arith, sums) }
    by (inr even) later =
        let whole : count_ones (bit_and u number) ≡ count_ones (bit_and (u / 2) (number / 2)) = omega (arith, ones-and u number) in
        let b = later.is in
        record { fours = later.fours; is = ap (λ lines. sum_over lines f) (numbered_without count first number even) ∙ omega (arith, sums) }
