-- The numbers of sets of lines.
use Rattle.std.proofs.Common.{◌≡◌, ◌≢◌, ◌<◌, ◌≤◌, ◌+◌, ◌*◌, ◌^◌, ◌/◌, ◌%◌, ◌-◌, ◌∙◌, ℕ, zero, suc, List, [], ◌∷◌, ◌++◌, length, get_or, refl, ap, sym, inl, inr, subst, true, false, arith, cond, eqb, append_assoc, pow-add, add-one}
use Rattle.std.proofs.lemmas.Bool.{cases_lt, cases_eq}
use Rattle.std.proofs.Math.Nat.{pow-suc, pow-le-pow_right, zero-mul, eq_of_mul-eq-mul_right}
use Rattle.std.proofs.Math.Pow.{pow_pos}
use Rattle.cmr_base.specs.LineSets.{set_number, set_numbered, IsRowSet, IsColumnSet}
use Rattle.cmr_base.specs.Matrix.{Matrix, height}
use Rattle.cmr_base.proofs.IncreasingLists.{IncreasesIn, increases_from_lower, increasing_row_set, increasing_column_set}

two_more : (n : ℕ) → 2 ^ (n + 1) ≡ 2 ^ n * 2
two_more n = ap (λ k. 2 ^ k) (add-one n) ∙ pow-suc 2 n

twice_more : (n k : ℕ) → k * 2 ^ (n + 1) ≡ 2 * k * 2 ^ n
twice_more n k = let e = ap (λ m. k * m) (two_more n) in omega (arith, e)

-- the number of a set whose lines are at least `low` is a multiple of 2^low
multiple : (low high : ℕ) (lines : List ℕ) → IncreasesIn low high lines → (k : ℕ) × (set_number lines ≡ k * 2 ^ low)
multiple low high [] increases = (0, sym (zero-mul (2 ^ low)))
multiple low high (line ∷ lines) increases =
    let later = multiple (line + 1) high lines increases.2 in
    let a = 2 ^ (line - low) in
    let b = 2 ^ low in
    let from : line - low + low ≡ line = omega (arith, increases.0) in
    let p : 2 ^ line ≡ a * b = ap (λ n. 2 ^ n) (sym from) ∙ pow-add 2 (line - low) low in
    let q : 2 ^ (line + 1) ≡ a * b * 2 = two_more line ∙ ap (λ n. n * 2) p in
    let e : set_number lines ≡ later.0 * (a * b * 2) = later.1 ∙ ap (λ n. later.0 * n) q in
    ((1 + 2 * later.0) * a, omega (arith, p, e))

pub set_number-set_numbered : (count first number : ℕ) → number < 2 ^ count → set_number (set_numbered count first number) ≡ number * 2 ^ first
set_number-set_numbered zero first number h = let none : number ≡ 0 = omega arith in rw (none, zero-mul) refl
set_number-set_numbered (suc count) first number h =
    let half = number / 2 in
    let later : set_number (set_numbered count (first + 1) half) ≡ half * (2 ^ first * 2) =
    set_number-set_numbered count (first + 1) half (omega (arith, pow-suc 2 count)) ∙ ap (λ n. half * n) (two_more first) in
    elim (cases_eq (number % 2) 1) [
      | inl odd ↦ rw odd (let e : number ≡ 1 + 2 * half = omega arith in omega (arith, later, ap (λ n. n * 2 ^ first) e))
      | inr other ↦ let even : number % 2 ≡ 0 = omega arith in rw even (let e : number ≡ 2 * half = omega arith in omega (arith, later, ap (λ n. n * 2 ^ first) e))
    ]

none_numbered : (count first : ℕ) → set_numbered count first 0 ≡ []
none_numbered zero first = refl
none_numbered (suc count) first = none_numbered count (first + 1)

cancel : (first m n : ℕ) → m * 2 ^ first ≡ n * 2 ^ first → m ≡ n
cancel first m n e = eq_of_mul-eq-mul_right (2 ^ first) (pow_pos first) m n e

-- each set has a unique number
pub set_numbered-unique : (count first high : ℕ) (lines : List ℕ) (number : ℕ) → high ≡ first + count → IncreasesIn first high lines
    → set_number lines ≡ number * 2 ^ first → set_numbered count first number ≡ lines
set_numbered-unique zero first high [] number end increases e = refl
set_numbered-unique zero first high (line ∷ lines) number end increases e = absurd (omega (arith, increases.0, increases.1))
set_numbered-unique (suc count) first high [] number end increases e =
    let none : number ≡ 0 = cancel first number 0 (sym e ∙ sym (zero-mul (2 ^ first))) in
    rw none (none_numbered (suc count) first)
set_numbered-unique (suc count) first high (line ∷ lines) number end increases e = elim (cases_lt first line) [
  | inl later ↦
      let past : IncreasesIn (first + 1) high (line ∷ lines) = (omega arith, increases.1, increases.2) in
      let m = multiple (first + 1) high (line ∷ lines) past in
      let k = m.0 in
      let q : k * 2 ^ (first + 1) ≡ 2 * k * 2 ^ first = omega (arith, twice_more first k) in
      let double : number ≡ 2 * k = cancel first number (2 * k) (sym e ∙ m.1 ∙ q) in
      let even : number % 2 ≡ 0 = omega arith in
      let half : number / 2 ≡ k = omega arith in
      rw (even, half) (set_numbered-unique count (first + 1) high (line ∷ lines) k (omega arith) past m.1)
  | inr here ↦
      let same : line ≡ first = omega (arith, increases.0) in
      let past : IncreasesIn (first + 1) high lines = subst (λ r. IncreasesIn (r + 1) high lines) same increases.2 in
      let m = multiple (first + 1) high lines past in
      let k = m.0 in
      let q : k * 2 ^ (first + 1) ≡ 2 * k * 2 ^ first = omega (arith, twice_more first k) in
      let one : 2 ^ line ≡ 2 ^ first = ap (λ n. 2 ^ n) same in
      let all : number * 2 ^ first ≡ (1 + 2 * k) * 2 ^ first = omega (arith, e, m.1, q, one) in
      let double : number ≡ 1 + 2 * k = cancel first number (1 + 2 * k) all in
      let odd : number % 2 ≡ 1 = omega arith in
      let half : number / 2 ≡ k = omega arith in
      rw (odd, half) (ap (λ r. r ∷ set_numbered count (first + 1) k) (sym same) ∙ ap (λ rs. line ∷ rs) (set_numbered-unique count (first + 1) high lines k (omega arith) past m.1))
]

-- one more line, which is in the set or not
pub numbered_more : (prefix : List ℕ) (count line number : ℕ) → line < count → number % 2 ≡ 1
    → (prefix ++ line ∷ []) ++ set_numbered (count - (line + 1)) (line + 1) (number / 2) ≡ prefix ++ set_numbered (count - line) line number
numbered_more prefix count line number h odd =
    let e : count - line ≡ suc (count - (line + 1)) = omega arith in
    rw (append_assoc, e) (rw odd refl)

pub numbered_less : (prefix : List ℕ) (count line number : ℕ) → line < count → number % 2 ≢ 1
    → prefix ++ set_numbered (count - (line + 1)) (line + 1) (number / 2) ≡ prefix ++ set_numbered (count - line) line number
numbered_less prefix count line number h other =
    let e : count - line ≡ suc (count - (line + 1)) = omega arith in
    let even : number % 2 ≡ 0 = omega arith in
    rw e (rw even refl)

pub above-append : (lines : List ℕ) (line : ℕ) → ((k : ℕ) → k < length lines → get_or lines k 0 < line) → (k : ℕ) → k < length (lines ++ line ∷ []) → get_or (lines ++ line ∷ []) k 0 < line + 1
above-append [] line below zero h = omega arith
above-append [] line below (suc k) h = omega arith
above-append (x ∷ lines) line below zero h = omega (arith, below 0 (omega arith))
above-append (x ∷ lines) line below (suc k) h = above-append lines line (λ j lt. below (suc j) (omega arith)) k (omega arith)

pub numbered_increases : (count first high number : ℕ) → high ≡ first + count → IncreasesIn first high (set_numbered count first number)
numbered_increases zero first high number end = tt
numbered_increases (suc count) first high number end =
    let later = numbered_increases count (first + 1) high (number / 2) (omega arith) in
    elim (eqb (number % 2) 1) as (λ b. IncreasesIn first high (cond b (first ∷ set_numbered count (first + 1) (number / 2)) (set_numbered count (first + 1) (number / 2)))) [
      | true ↦ (omega arith, omega arith, later)
      | false ↦ increases_from_lower first (first + 1) high (set_numbered count (first + 1) (number / 2)) (omega arith) later
    ]

number_in : (low high : ℕ) (lines : List ℕ) → IncreasesIn low high lines → low ≤ high → set_number lines + 2 ^ low ≤ 2 ^ high
number_in low high [] increases h = let two : 0 < 2 = omega arith in omega (arith, pow-le-pow_right two h)
number_in low high (line ∷ lines) increases h =
    let two : 0 < 2 = omega arith in
    let up : 2 ^ low ≤ 2 ^ line = pow-le-pow_right two increases.0 in
    let later = number_in (line + 1) high lines increases.2 (omega (arith, increases.1)) in
    omega (arith, up, later, two_more line)

pub set_number-lt : (high : ℕ) (lines : List ℕ) → IncreasesIn 0 high lines → set_number lines < 2 ^ high
set_number-lt high lines increases = omega (arith, number_in 0 high lines increases (omega arith))

pub numbered_same : (high : ℕ) (lines : List ℕ) → IncreasesIn 0 high lines → set_numbered high 0 (set_number lines) ≡ lines
numbered_same high lines increases = set_numbered-unique high 0 high lines (set_number lines) (omega arith) increases (omega arith)

pub number_of_numbered : (count number : ℕ) → number < 2 ^ count → set_number (set_numbered count 0 number) ≡ number
number_of_numbered count number h = set_number-set_numbered count 0 number h ∙ omega arith

pub row_set-numbered : (m : Matrix) (number : ℕ) → IsRowSet m (set_numbered (height m) 0 number)
row_set-numbered m number = increasing_row_set m (set_numbered (height m) 0 number) (numbered_increases (height m) 0 (height m) number (omega arith))

pub column_set-numbered : (m : Matrix) (number : ℕ) → IsColumnSet m (set_numbered m.width 0 number)
column_set-numbered m number = increasing_column_set m (set_numbered m.width 0 number) (numbered_increases m.width 0 m.width number (omega arith))
