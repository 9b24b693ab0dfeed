-- Laws of bits: common columns, and the bits in which two numbers differ.
use Rattle.std.proofs.Common.{◌≡◌, ◌≢◌, ◌<◌, ◌≤◌, ◌+◌, ◌*◌, ◌/◌, ◌%◌, ◌^◌, ◌∙◌, ◌⊎◌, ℕ, zero, suc, ap, ap₂, sym, subst, inl, inr, arith, min}
use Rattle.std.specs.Prelude.{bit_and, bit_xor, count_ones}
use Rattle.std.specs.Int.{bit_at}
use Rattle.std.proofs.lemmas.Nat.Bits.{bit_at_and, bit_at_xor, same_from_bits, bit_at-lt, bit_at_lowest, bit_at-suc, bit_at-pow_same, bit_at-pow_other, and_pow}
use Rattle.std.proofs.lemmas.Bool.{cases_lt, cases_eq}
use lib.Count.{ones_step, ones_cat, ones-le}
use Rattle.std.proofs.Math.Pow.{pow_pos}
use lib.Bits.{and_comm}
use Rattle.parity.specs.Equations.{common, IsLowest}

half_xor : (a b : ℕ) → bit_xor a b / 2 ≡ bit_xor (a / 2) (b / 2)
half_xor a b = same_from_bits (bit_xor a b / 2) (bit_xor (a / 2) (b / 2)) (λ i.
    sym (bit_at-suc (bit_xor a b) i) ∙ bit_at_xor a b (suc i)
    ∙ ap₂ (λ (x y : ℕ). (x + y) % 2) (bit_at-suc a i) (bit_at-suc b i)
    ∙ sym (bit_at_xor (a / 2) (b / 2) i))

low_xor : (a b : ℕ) → bit_xor a b % 2 ≡ (a % 2 + b % 2) % 2
low_xor a b = sym (bit_at_lowest (bit_xor a b)) ∙ bit_at_xor a b 0 ∙ ap₂ (λ (x y : ℕ). (x + y) % 2) (bit_at_lowest a) (bit_at_lowest b)

pub ones-zero : count_ones 0 ≡ 0
ones-zero = omega (arith, ones-le 0 0 (omega arith))

-- the numbers of ones of two numbers, added, have the parity of the number of ones of their difference
ones-xor_in : (k a b : ℕ) → a ≤ k → b ≤ k → count_ones (bit_xor a b) % 2 ≡ (count_ones a + count_ones b) % 2
ones-xor_in zero a b ha hb =
    let a_is : a ≡ 0 = omega arith in
    let b_is : b ≡ 0 = omega arith in
    let none : count_ones (bit_xor a b) ≡ 0 = rw (a_is, b_is) ones-zero in
    omega (arith, none, ap count_ones a_is, ap count_ones b_is, ones-zero)
ones-xor_in (suc k) a b ha hb =
    let later = ones-xor_in k (a / 2) (b / 2) (omega arith) (omega arith) in
    let whole : count_ones (bit_xor a b) ≡ bit_xor a b % 2 + count_ones (bit_xor (a / 2) (b / 2)) = ones_step (bit_xor a b) ∙ ap (λ n. bit_xor a b % 2 + count_ones n) (half_xor a b) in
    omega (arith, whole, low_xor a b, ones_step a, ones_step b, later)

pub ones-xor : (a b : ℕ) → count_ones (bit_xor a b) % 2 ≡ (count_ones a + count_ones b) % 2
ones-xor a b = ones-xor_in (a + b) a b (omega arith) (omega arith)

pub and-xor : (a b c : ℕ) → bit_and (bit_xor a b) c ≡ bit_xor (bit_and a c) (bit_and b c)
and-xor a b c = same_from_bits (bit_and (bit_xor a b) c) (bit_xor (bit_and a c) (bit_and b c)) (λ i.
    let left : bit_at (bit_and (bit_xor a b) c) i ≡ min ((bit_at a i + bit_at b i) % 2) (bit_at c i) = bit_at_and (bit_xor a b) c i ∙ ap (λ n. min n (bit_at c i)) (bit_at_xor a b i) in
    let right : bit_at (bit_xor (bit_and a c) (bit_and b c)) i ≡ (min (bit_at a i) (bit_at c i) + min (bit_at b i) (bit_at c i)) % 2 = bit_at_xor (bit_and a c) (bit_and b c) i ∙ ap₂ (λ (x y : ℕ). (x + y) % 2) (bit_at_and a c i) (bit_at_and b c i) in
    few (bit_at a i) (bit_at b i) (bit_at c i) _ _ (bit_at-lt a i) (bit_at-lt b i) (bit_at-lt c i) left right)
  where
    few : (x y z l r : ℕ) → x < 2 → y < 2 → z < 2 → l ≡ min ((x + y) % 2) z → r ≡ (min x z + min y z) % 2 → l ≡ r
    few x y z l r hx hy hz hl hr = omega arith

pub common-xor : (a b c : ℕ) → common (bit_xor a b) c ≡ (common a c + common b c) % 2
common-xor a b c = ap (λ n. count_ones n % 2) (and-xor a b c) ∙ omega (arith, ones-xor (bit_and a c) (bit_and b c))

pub common_comm : (a b : ℕ) → common a b ≡ common b a
common_comm a b = ap (λ n. count_ones n % 2) (and_comm a b)

pub common-xor_right : (a b c : ℕ) → common a (bit_xor b c) ≡ (common a b + common a c) % 2
common-xor_right a b c = common_comm a (bit_xor b c) ∙ common-xor b c a ∙ ap₂ (λ (x y : ℕ). (x + y) % 2) (common_comm b a) (common_comm c a)

ones_of_bit : (b k : ℕ) → b < 2 → count_ones (b * 2 ^ k) ≡ b
ones_of_bit b k h =
    let plain : b * 2 ^ k + 0 ≡ b * 2 ^ k = omega arith in
    let none : b / 2 ≡ 0 = omega arith in
    let cut : count_ones (b * 2 ^ k) ≡ count_ones b + count_ones 0 = ap count_ones (sym plain) ∙ ones_cat k b 0 (pow_pos k) in
    omega (arith, cut, ones-zero, ones_step b, ap count_ones none)

pub common-pow : (a k : ℕ) → common a (2 ^ k) ≡ bit_at a k
common-pow a k =
    let low = bit_at-lt a k in
    ap (λ n. count_ones n % 2) (and_pow a k) ∙ ap (λ n. n % 2) (ones_of_bit (bit_at a k) k low) ∙ omega (arith, low)

pub common-lt : (a b : ℕ) → common a b < 2
common-lt a b = omega arith

-- the larger number has a bit that the smaller one lacks, and both have the same higher bits
pub record DiffersAt (more less place : ℕ) : Type 0 where
  pub has : bit_at more place ≡ 1
  pub lacks : bit_at less place ≡ 0
  pub above : (other : ℕ) → place < other → bit_at more other ≡ bit_at less other

later : (more less place : ℕ) → DiffersAt (more / 2) (less / 2) place → DiffersAt more less (suc place)
later more less place d = record {
  has = bit_at-suc more place ∙ d.has;
  lacks = bit_at-suc less place ∙ d.lacks;
  above = λ other h. up other h;
}
  where
    up : (other : ℕ) → suc place < other → bit_at more other ≡ bit_at less other
    up zero h = absurd (omega arith)
    up (suc other) h = bit_at-suc more other ∙ d.above other (omega arith) ∙ sym (bit_at-suc less other)

here : (more less : ℕ) → more / 2 ≡ less / 2 → less < more → DiffersAt more less 0
here more less same h = record {
  has = bit_at_lowest more ∙ omega arith;
  lacks = bit_at_lowest less ∙ omega arith;
  above = λ other lt. up other lt;
}
  where
    up : (other : ℕ) → 0 < other → bit_at more other ≡ bit_at less other
    up zero lt = absurd (omega arith)
    up (suc other) lt = bit_at-suc more other ∙ ap (λ n. bit_at n other) same ∙ sym (bit_at-suc less other)

differs_in : (k more less : ℕ) → more ≤ k → less < more → (place : ℕ) × DiffersAt more less place
differs_in zero more less hk h = absurd (omega arith)
differs_in (suc k) more less hk h = elim (cases_eq (more / 2) (less / 2)) [
  | inl same ↦ (0, here more less same h)
  | inr other ↦ let found = differs_in k (more / 2) (less / 2) (omega arith) (omega arith) in (suc found.0, later more less found.0 found.1)
]

pub differs : (more less : ℕ) → less < more → (place : ℕ) × DiffersAt more less place
differs more less h = differs_in more more less (omega arith) h

-- an equation whose least column is the highest difference of two sets holds for only one of them
pub lowest_differs : (b more less place : ℕ) → IsLowest b place → DiffersAt more less place → (common b more + common b less) % 2 ≡ 1
lowest_differs b more less place low d =
    sym (common-xor_right b more less)
    ∙ ap (λ n. count_ones n % 2) (same_from_bits (bit_and b (bit_xor more less)) (2 ^ place) (λ i. at i (cases i)))
    ∙ ap (λ n. n % 2) (ap count_ones (omega arith) ∙ ones_of_bit 1 place (omega arith))
  where
    both : (i : ℕ) → bit_at (bit_and b (bit_xor more less)) i ≡ min (bit_at b i) ((bit_at more i + bit_at less i) % 2)
    both i = bit_at_and b (bit_xor more less) i ∙ ap (λ n. min (bit_at b i) n) (bit_at_xor more less i)

    cases : (i : ℕ) → (i < place) ⊎ (place ≤ i)
    cases i = cases_lt i place

    beyond : (i : ℕ) → (i ≡ place) ⊎ (i ≢ place) → place ≤ i → bit_at (bit_and b (bit_xor more less)) i ≡ bit_at (2 ^ place) i
    beyond i (inl e) h = subst (λ j. bit_at (bit_and b (bit_xor more less)) j ≡ bit_at (2 ^ place) j) (sym e) (both place ∙ omega (arith, low.there, d.has, d.lacks, bit_at-pow_same place))
    beyond i (inr ne) h = both i ∙ omega (arith, d.above i (omega arith), bit_at-pow_other place i ne, bit_at-lt more i)

    at : (i : ℕ) → (i < place) ⊎ (place ≤ i) → bit_at (bit_and b (bit_xor more less)) i ≡ bit_at (2 ^ place) i
    at i (inl below) = both i ∙ omega (arith, low.none_below i below, bit_at-pow_other place i (omega arith))
    at i (inr up) = beyond i (cases_eq i place) up
