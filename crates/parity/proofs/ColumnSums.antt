-- Column sums modulo 4, row by row.
use Rattle.std.proofs.Common.{◌≡◌, ◌<◌, ◌+◌, ◌/◌, ◌%◌, ◌^◌, ◌∙◌, ℕ, ℤ, pos, neg_ℤ, ◌+ℤ◌, List, [], length, take, get_or, ap, ap₂, sym, subst, arith, min}
use Rattle.std.specs.Prelude.{bit_and, bit_xor}
use Rattle.std.specs.Int.{bit_at}
use Rattle.std.proofs.lemmas.Nat.{and_le_r, xor_lt}
use Rattle.std.proofs.lemmas.Nat.Bits.{bit_at_and, bit_at_xor, bit_at-lt, bit_at-zero}
use Rattle.cmr_base.specs.Matrix.{Matrix, height, entry, IsMatrix}
use Rattle.cmr_base.specs.Sums.{sum_over}
use Rattle.cmr_base.proofs.Integers.{sums}
use Rattle.cmr_base.proofs.SumSteps.{sum_over-take_more}
use Rattle.parity.specs.PlaneSums.{AreSums, HasResidue, minus_of, support_of}
use Rattle.parity.proofs.Systems.{entry_bits, minus_of-lt, support_of-lt}

pub no_sums : (m : Matrix) → AreSums m [] 0 0
no_sums m = record { each = λ column. record { fours = pos 0; is = ap₂ (λ (a b : ℕ). (pos a +ℤ (pos b +ℤ pos b)) +ℤ pos 0) (sym (bit_at-zero column)) (sym (bit_at-zero column)) } }

-- an entry s - 2 m, with bits s and m, added to a sum
residue_more : (sum z : ℤ) (low high s m : ℕ) → low < 2 → high < 2 → s < 2 → m < 2 → HasResidue sum low high → z ≡ pos s +ℤ (neg_ℤ (pos m) +ℤ neg_ℤ (pos m))
    → HasResidue (sum +ℤ z) ((low + s) % 2) ((high + (min low s + m) % 2) % 2)
residue_more sum z low high s m hl hh hs hm h e =
    let total = high + min low s + m in
    let before = h.is in
    let low_is : low + s ≡ (low + s) % 2 + (min low s + min low s) = omega arith in
    let high_is : high + min low s + m ≡ (high + (min low s + m) % 2) % 2 + (total / 2 + total / 2) = omega arith in
    record { fours = h.fours +ℤ (pos (total / 2) +ℤ neg_ℤ (pos m)); is = omega (arith, sums) }

pub sums_more : (m : Matrix) (rows : List ℕ) (i ones twos : ℕ) → IsMatrix m → i < length rows → AreSums m (take i rows) ones twos
    → AreSums m (take (i + 1) rows) (bit_xor ones (support_of m (get_or rows i 0))) (bit_xor twos (bit_xor (bit_and ones (support_of m (get_or rows i 0))) (minus_of m (get_or rows i 0))))
sums_more m rows i ones twos is h are = record { each = each }
  where
    row : ℕ
    row = get_or rows i 0

    ones_at : (column : ℕ) → bit_at (bit_xor ones (support_of m row)) column ≡ (bit_at ones column + bit_at (support_of m row) column) % 2
    ones_at column = bit_at_xor ones (support_of m row) column

    twos_at : (column : ℕ)
        → bit_at (bit_xor twos (bit_xor (bit_and ones (support_of m row)) (minus_of m row))) column ≡ (bit_at twos column + (min (bit_at ones column) (bit_at (support_of m row) column) + bit_at (minus_of m row) column) % 2) % 2
    twos_at column =
        bit_at_xor twos (bit_xor (bit_and ones (support_of m row)) (minus_of m row)) column
        ∙ ap (λ n. (bit_at twos column + n) % 2) (bit_at_xor (bit_and ones (support_of m row)) (minus_of m row) column ∙ ap (λ n. (n + bit_at (minus_of m row) column) % 2) (bit_at_and ones (support_of m row) column))

    sum_at : (column : ℕ) → sum_over (take (i + 1) rows) (λ r. entry m r column) ≡ sum_over (take i rows) (λ r. entry m r column) +ℤ entry m row column
    sum_at column = sum_over-take_more rows (λ r. entry m r column) i h

    each : (column : ℕ)
        → HasResidue (sum_over (take (i + 1) rows) (λ r. entry m r column)) (bit_at (bit_xor ones (support_of m row)) column) (bit_at (bit_xor twos (bit_xor (bit_and ones (support_of m row)) (minus_of m row))) column)
    each column =
        let more = residue_more (sum_over (take i rows) (λ r. entry m r column)) (entry m row column) (bit_at ones column) (bit_at twos column) (bit_at (support_of m row) column) (bit_at (minus_of m row) column)
        (bit_at-lt ones column) (bit_at-lt twos column) (bit_at-lt (support_of m row) column) (bit_at-lt (minus_of m row) column) (are.each column) (entry_bits m row column is) in
        subst (λ z. HasResidue z (bit_at (bit_xor ones (support_of m row)) column) (bit_at (bit_xor twos (bit_xor (bit_and ones (support_of m row)) (minus_of m row))) column)) (sym (sum_at column))
        (subst (λ n. HasResidue (sum_over (take i rows) (λ r. entry m r column) +ℤ entry m row column) n (bit_at (bit_xor twos (bit_xor (bit_and ones (support_of m row)) (minus_of m row))) column)) (sym (ones_at column))
        (subst (λ n. HasResidue (sum_over (take i rows) (λ r. entry m r column) +ℤ entry m row column) ((bit_at ones column + bit_at (support_of m row) column) % 2) n) (sym (twos_at column)) more))

pub twos_small : (m : Matrix) (row ones twos : ℕ) → IsMatrix m → row < height m → twos < 2 ^ m.width → bit_xor twos (bit_xor (bit_and ones (support_of m row)) (minus_of m row)) < 2 ^ m.width
twos_small m row ones twos is h small =
    xor_lt m.width twos (bit_xor (bit_and ones (support_of m row)) (minus_of m row)) small
    (xor_lt m.width (bit_and ones (support_of m row)) (minus_of m row) (omega (arith, and_le_r ones (support_of m row), support_of-lt m row is h)) (minus_of-lt m row is h))
