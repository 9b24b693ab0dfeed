-- Counts of the bits of words, and of the columns of sets.
use Rattle.std.proofs.Common.{◌≡◌, ◌<◌, ◌≤◌, ◌+◌, ◌-◌, ◌*◌, ◌/◌, ◌%◌, ◌^◌, ◌∙◌, ℕ, zero, suc, Bool, true, false, cond, eqb, List, get_or, ap, refl, arith}
use Rattle.std.specs.Prelude.{count_ones}
use Rattle.std.specs.Int.Count.{ones_step}
use Rattle.std.proofs.lemmas.Nat.{mod-pow-add, ones_cat, ones_le_self, pow_pos}
use Rattle.std.proofs.lemmas.Nat.Bits.{bit_at-lt}
use Rattle.std.proofs.Math.Nat.{mod-lt}
use Rattle.cmr_base.specs.ColumnSets.{has_column}
use Rattle.cmr_base.specs.Planes.{has_bit}
use Rattle.cmr_base.specs.Seeds.{count}
use Rattle.cmr_base.proofs.ColumnWords.{column_at}
use Rattle.cmr_base.proofs.LineCounts.{count_same}

-- the numbers below a number, and the numbers from it on
pub count_parts : (p : ℕ → Bool) (a k : ℕ) → count p (a + k) ≡ count p a + count (λ i. p (a + i)) k
count_parts p a zero = let e : a + 0 ≡ a = omega arith in ap (count p) e ∙ (let z : count p a ≡ count p a + 0 = omega arith in z)
count_parts p a (suc k) = let e : a + suc k ≡ suc (a + k) = omega arith in ap (count p) e ∙ go (p (a + k)) (count_parts p a k)
  where
    go : (t : Bool) → count p (a + k) ≡ count p a + count (λ i. p (a + i)) k
        → cond t (suc (count p (a + k))) (count p (a + k)) ≡ count p a + cond t (suc (count (λ i. p (a + i)) k)) (count (λ i. p (a + i)) k)
    go true h = omega (arith, h)
    go false h = h

pub count_few : (p : ℕ → Bool) (k : ℕ) → count p k ≤ k
count_few p zero = omega arith
count_few p (suc k) = go (p k) (count_few p k)
  where
    go : (t : Bool) → count p k ≤ k → cond t (suc (count p k)) (count p k) ≤ suc k
    go true h = omega (arith, h)
    go false h = omega (arith, h)

count_none : (k : ℕ) → count (λ i. false) k ≡ 0
count_none zero = refl
count_none (suc k) = count_none k

-- the first bits of a number
ones_first : (k n : ℕ) → count_ones (n % 2 ^ k) ≡ count (has_bit n) k
ones_first zero n = let low : n % 2 ^ 0 ≡ 0 = omega arith in ap count_ones low ∙ (let none = ones_le_self 0 in omega (arith, none))
ones_first (suc k) n =
    let e : suc k ≡ 1 + k = omega arith in
    let split = mod-pow-add n 1 k in
    ap (λ (x : ℕ). count_ones (n % 2 ^ x)) e ∙ ap count_ones split ∙ ones_cat k (n / 2 ^ k % 2 ^ 1) (n % 2 ^ k) (mod-lt n (pow_pos k))
    ∙ go (n / 2 ^ k % 2) (bit_at-lt n k) (ones_first k n)
  where
    go : (b : ℕ) → b < 2 → count_ones (n % 2 ^ k) ≡ count (has_bit n) k → count_ones b + count_ones (n % 2 ^ k) ≡ cond (eqb b 1) (suc (count (has_bit n) k)) (count (has_bit n) k)
    go zero l h = let none = ones_le_self 0 in omega (arith, h, none)
    go (suc zero) l h = let step = ones_step 1 in let none = ones_le_self 0 in omega (arith, h, step, none)
    go (suc (suc b)) l h = absurd (omega arith)

-- a word that has the first bits of another word and no other bits
pub ones_of_first : (first word places : ℕ) → first < 2 ^ 64 → places ≤ 64 → ((k : ℕ) → k < places → has_bit first k ≡ has_bit word k)
    → ((k : ℕ) → places ≤ k → has_bit first k ≡ false) → count_ones first ≡ count (has_bit word) places
ones_of_first first word places fits few inside past =
    let whole : first ≡ first % 2 ^ 64 = omega (arith, fits) in
    let e : 64 ≡ places + (64 - places) = omega (arith, few) in
    let later = count_same (λ i. has_bit first (places + i)) (λ i. false) (64 - places) (λ i l. past (places + i) (omega arith)) ∙ count_none (64 - places) in
    let sooner = count_same (has_bit first) (has_bit word) places inside in
    ap count_ones whole ∙ ones_first 64 first ∙ ap (count (has_bit first)) e ∙ count_parts (has_bit first) places (64 - places) ∙ omega (arith, later, sooner)

-- the columns of one more word
pub count_chunk : (words : List ℕ) (chunk places before first : ℕ) → before ≡ count (has_column words) (64 * chunk) → places ≤ 64
    → first ≡ count (has_bit (get_or words chunk 0)) places → before + first ≡ count (has_column words) (64 * chunk + places)
count_chunk words chunk places before first so few here =
    let same = count_same (λ i. has_column words (64 * chunk + i)) (has_bit (get_or words chunk 0)) places (λ i l. column_at words chunk i (omega (arith, l, few))) in
    let parts = count_parts (has_column words) (64 * chunk) places in
    omega (arith, so, here, same, parts)
