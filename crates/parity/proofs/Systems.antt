-- A column set makes a violator with some rows if and only if its number solves their equations.
use Rattle.std.proofs.Common.{◌≡◌, ◌<◌, ◌≤◌, ◌+◌, ◌%◌, ◌^◌, ◌∙◌, ◌⊎◌, ℕ, zero, suc, ℤ, pos, negsuc, neg_ℤ, ◌+ℤ◌, cond, List, [], ◌∷◌, ◌++◌, take, length, get_or, refl, ap, ap₂, sym, subst, inl, inr, arith, min}
use Rattle.std.specs.Prelude.{bit_and, count_ones}
use Rattle.std.specs.List.{AllByRecursion}
use Rattle.std.specs.Int.{bit_at}
use Rattle.std.proofs.lemmas.Nat.Bits.{bit_at_and, bit_at_xor, bit_at-lt, bit_at-zero, bit_at_above, same_from_bits}
use Rattle.std.proofs.lemmas.Int.{ints}
use Rattle.std.proofs.lemmas.List.{map_more}
use Rattle.std.proofs.lemmas.Nat.{xor_lt, and_le_l}
use Rattle.std.proofs.lemmas.Bool.{cases_lt}
use Rattle.cmr_base.specs.Matrix.{Matrix, height, row_of, entry, IsMatrix, IsEntry, is_nonzero}
use Rattle.cmr_base.specs.LineSets.{set_number, set_numbered}
use Rattle.cmr_base.specs.Sums.{sum_over, IsEven, IsTwoModFour}
use Rattle.cmr_base.specs.Violator.{IsViolator, IsLeastColumnSet, HasNoColumnSet}
use Rattle.cmr_base.proofs.Integers.{sums}
use Rattle.cmr_base.proofs.Lists.{all-map, all_weaker, all_unmapped}
use Rattle.cmr_base.proofs.IncreasingLists.{column_set_increases}
use Rattle.cmr_base.proofs.SetNumbers.{set_number-lt, numbered_same, number_of_numbered, column_set-numbered}
use Rattle.cmr_base.proofs.SumLaws.{sum_over-exchange}
use Rattle.cmr_base.proofs.PlaneWords.{bit_at-bits_of, bits_of-lt}
use Rattle.parity.specs.Equations.{common}
use Rattle.cmr_base.specs.Planes.{is_minus}
use Rattle.parity.specs.PlaneSums.{AreSums, HasResidue, equations_of, minus_of, support_of, without_columns}
use Rattle.parity.proofs.Bits.{common-lt, common-xor, ones-zero}
use Rattle.parity.proofs.Elimination.{IsLeastSolution, apart_at, bit_cases}
use Rattle.parity.proofs.Residues.{HasDouble, HasParity, all_numbered, at_numbered, count_from_even, count_from_two, double-numbered, even_from_count, parity-numbered, two_from_count}

-- ---- entries and their bits
pub support_of-lt : (m : Matrix) (row : ℕ) → IsMatrix m → row < height m → support_of m row < 2 ^ m.width
support_of-lt m row is h = subst (λ n. support_of m row < 2 ^ n) (is.rectangular row h) (bits_of-lt is_nonzero (row_of m row))

pub minus_of-lt : (m : Matrix) (row : ℕ) → IsMatrix m → row < height m → minus_of m row < 2 ^ m.width
minus_of-lt m row is h = subst (λ n. minus_of m row < 2 ^ n) (is.rectangular row h) (bits_of-lt is_minus (row_of m row))

-- an entry is its support bit minus twice its minus bit
entry_split : (z : ℤ) → IsEntry z → z ≡ pos (cond (is_nonzero z) 1 0) +ℤ (neg_ℤ (pos (cond (is_minus z) 1 0)) +ℤ neg_ℤ (pos (cond (is_minus z) 1 0)))
entry_split (pos zero) is = omega (arith, ints)
entry_split (pos (suc n)) is = omega (arith, ints, is.high)
entry_split (negsuc n) is = omega (arith, ints, is.low)

pub entry_bits : (m : Matrix) (row column : ℕ) → IsMatrix m
    → entry m row column ≡ pos (bit_at (support_of m row) column) +ℤ (neg_ℤ (pos (bit_at (minus_of m row) column)) +ℤ neg_ℤ (pos (bit_at (minus_of m row) column)))
entry_bits m row column is =
    entry_split (entry m row column) (is.small row column)
    ∙ ap₂ (λ (a b : ℕ). pos a +ℤ (neg_ℤ (pos b) +ℤ neg_ℤ (pos b))) (sym (bit_at-bits_of is_nonzero (row_of m row) column refl)) (sym (bit_at-bits_of is_minus (row_of m row) column refl))

entry_parity : (m : Matrix) (row column : ℕ) → IsMatrix m → HasParity (entry m row column) (bit_at (support_of m row) column)
entry_parity m row column is = record { twos = neg_ℤ (pos (bit_at (minus_of m row) column)); is = entry_bits m row column is }

-- ---- sums over a column set, by its number
pub row_parity : (m : Matrix) (row set : ℕ) → IsMatrix m → set < 2 ^ m.width
    → HasParity (sum_over (set_numbered m.width 0 set) (λ column. entry m row column)) (count_ones (bit_and (support_of m row) set))
row_parity m row set is small =
    parity-numbered (λ column. entry m row column) m.width 0 set (support_of m row) small (λ column lt.
    let at : column ≡ 0 + column = omega arith in
    subst (λ c. HasParity (entry m row c) (bit_at (support_of m row) column)) at (entry_parity m row column is))

common-without_columns : (excluded number set : ℕ) → bit_and set excluded ≡ 0 → common (without_columns excluded number) set ≡ common number set
common-without_columns excluded number set apart =
    common-xor number (bit_and number excluded) set ∙ omega (arith, common-lt number set, ap (λ n. count_ones n % 2) none, ones-zero)
  where
    none : bit_and (bit_and number excluded) set ≡ 0
    none = same_from_bits (bit_and (bit_and number excluded) set) 0 (λ i.
        let at : min (bit_at set i) (bit_at excluded i) ≡ 0 = sym (bit_at_and set excluded i) ∙ ap (λ n. bit_at n i) apart ∙ bit_at-zero i in
        bit_at_and (bit_and number excluded) set i ∙ omega (arith, bit_at_and number excluded i, at, bit_at-zero i))

-- a set without columns of odd sum solves the equations without these columns
pub record Solves (m : Matrix) (rows : List ℕ) (ones twos set : ℕ) : Type 0 where
  pub apart : bit_and set ones ≡ 0
  pub hold : AllByRecursion (λ row. common (without_columns ones (support_of m row)) set ≡ 0) rows
  pub fails : common (without_columns ones twos) set ≡ 1

even_low : (sum : ℤ) (low high : ℕ) → low < 2 → HasResidue sum low high → low ≡ 0 → IsEven sum
even_low sum low high small h none =
    let e = h.is in
    (pos high +ℤ (h.fours +ℤ h.fours), omega (arith, sums))

low_even : (sum : ℤ) (low high : ℕ) → low < 2 → HasResidue sum low high → IsEven sum → low ≡ 0
low_even sum low high small h (k, is) =
    let e = h.is in
    omega (arith, sums)

double_high : (sum : ℤ) (low high : ℕ) → HasResidue sum low high → low ≡ 0 → HasDouble sum high
double_high sum low high h none = let e = h.is in record { fours = h.fours; is = omega (arith, sums) }

-- the sum of the submatrix, column by column
whole_double : (m : Matrix) (rows : List ℕ) (ones twos set : ℕ) → AreSums m rows ones twos → set < 2 ^ m.width → bit_and set ones ≡ 0
    → HasDouble (sum_over (set_numbered m.width 0 set) (λ column. sum_over rows (λ row. entry m row column))) (count_ones (bit_and twos set))
whole_double m rows ones twos set are small apart =
    double-numbered (λ column. sum_over rows (λ row. entry m row column)) m.width 0 set twos small (λ column lt one.
    let at : column ≡ 0 + column = omega arith in
    let off : bit_at ones column ≡ 0 = apart_at set ones column one apart in
    subst (λ c. HasDouble (sum_over rows (λ row. entry m row c)) (bit_at twos column)) at (double_high (sum_over rows (λ row. entry m row column)) (bit_at ones column) (bit_at twos column) (are.each column) off))

pub violator_from_solution : (m : Matrix) (rows : List ℕ) (ones twos set : ℕ) → IsMatrix m → AreSums m rows ones twos → set < 2 ^ m.width
    → Solves m rows ones twos set → IsViolator (entry m) rows (set_numbered m.width 0 set)
violator_from_solution m rows ones twos set is are small solves = record {
  even_rows = all_weaker (λ row. common (without_columns ones (support_of m row)) set ≡ 0) (λ row. IsEven (sum_over (set_numbered m.width 0 set) (λ column. entry m row column)))
      (λ row none. even_from_count (sum_over (set_numbered m.width 0 set) (λ column. entry m row column)) (count_ones (bit_and (support_of m row) set)) (row_parity m row set is small) (sym (common-without_columns ones (support_of m row) set solves.apart) ∙ none)) rows solves.hold;
  even_columns = all_numbered (λ column. IsEven (sum_over rows (λ row. entry m row column))) m.width 0 set (λ column lt one.
      let at : column ≡ 0 + column = omega arith in
      subst (λ c. IsEven (sum_over rows (λ row. entry m row c))) at (even_low (sum_over rows (λ row. entry m row column)) (bit_at ones column) (bit_at twos column) (bit_at-lt ones column) (are.each column) (apart_at set ones column one solves.apart)));
  two_mod_four = subst IsTwoModFour (sum_over-exchange (set_numbered m.width 0 set) rows (λ column row. entry m row column))
      (two_from_count (sum_over (set_numbered m.width 0 set) (λ column. sum_over rows (λ row. entry m row column))) (count_ones (bit_and twos set)) (whole_double m rows ones twos set are small solves.apart) (sym (common-without_columns ones twos set solves.apart) ∙ solves.fails));
}

pub solution_from_violator : (m : Matrix) (rows : List ℕ) (ones twos set : ℕ) → IsMatrix m → AreSums m rows ones twos → set < 2 ^ m.width
    → IsViolator (entry m) rows (set_numbered m.width 0 set) → Solves m rows ones twos set
solution_from_violator m rows ones twos set is are small violator = record {
  apart = apart;
  hold = all_weaker (λ row. IsEven (sum_over (set_numbered m.width 0 set) (λ column. entry m row column))) (λ row. common (without_columns ones (support_of m row)) set ≡ 0)
      (λ row even. common-without_columns ones (support_of m row) set apart ∙ count_from_even (sum_over (set_numbered m.width 0 set) (λ column. entry m row column)) (count_ones (bit_and (support_of m row) set)) (row_parity m row set is small) even) rows violator.even_rows;
  fails = common-without_columns ones twos set apart
      ∙ count_from_two (sum_over (set_numbered m.width 0 set) (λ column. sum_over rows (λ row. entry m row column))) (count_ones (bit_and twos set)) (whole_double m rows ones twos set are small apart)
      (subst IsTwoModFour (sum_over-exchange rows (set_numbered m.width 0 set) (λ row column. entry m row column)) violator.two_mod_four);
}
  where
    inside : (column : ℕ) → bit_at set column ≡ 1 → (column < m.width) ⊎ (m.width ≤ column) → bit_at ones column ≡ 0
    inside column one (inl lt) =
        let at : 0 + column ≡ column = omega arith in
        low_even (sum_over rows (λ row. entry m row column)) (bit_at ones column) (bit_at twos column) (bit_at-lt ones column) (are.each column)
        (subst (λ c. IsEven (sum_over rows (λ row. entry m row c))) at (at_numbered (λ column. IsEven (sum_over rows (λ row. entry m row column))) m.width 0 set violator.even_columns column lt one))
    inside column one (inr past) = absurd (omega (arith, one, bit_at_above set m.width column small past))

    at_bit : (column : ℕ) → (bit_at set column ≡ 1) ⊎ (bit_at set column ≡ 0) → min (bit_at set column) (bit_at ones column) ≡ 0
    at_bit column (inl one) = omega (arith, inside column one (cases_lt column m.width))
    at_bit column (inr none) = omega (arith, none)

    apart : bit_and set ones ≡ 0
    apart = same_from_bits (bit_and set ones) 0 (λ column. bit_at_and set ones column ∙ at_bit column (bit_cases set column) ∙ sym (bit_at-zero column))

-- ---- the answer
pub without_columns_apart : (excluded number : ℕ) → bit_and (without_columns excluded number) excluded ≡ 0
without_columns_apart excluded number = same_from_bits (bit_and (without_columns excluded number) excluded) 0 (λ i.
    bit_at_and (without_columns excluded number) excluded i
    ∙ omega (arith, bit_at_xor number (bit_and number excluded) i, bit_at_and number excluded i, bit_at-lt number i, bit_at-lt excluded i, bit_at-zero i))

pub without_columns_lt : (excluded number width : ℕ) → number < 2 ^ width → without_columns excluded number < 2 ^ width
without_columns_lt excluded number width h = xor_lt width number (bit_and number excluded) h (omega (arith, and_le_l number excluded))

pub column_set_from_solution : (m : Matrix) (rows : List ℕ) (ones twos set : ℕ) → IsMatrix m → AreSums m rows ones twos
    → IsLeastSolution m.width ones (equations_of m ones rows) (without_columns ones twos) set → IsLeastColumnSet m rows (set_numbered m.width 0 set)
column_set_from_solution m rows ones twos set is are solution = record {
  column_set = column_set-numbered m set;
  violator = violator_from_solution m rows ones twos set is are solution.small (record {
    apart = solution.apart;
    hold = all_unmapped (λ n. common n set ≡ 0) (λ row. without_columns ones (support_of m row)) rows solution.hold;
    fails = solution.fails;
  });
  least = λ others is_set violator.
      let number = set_number others in
      let increases = column_set_increases m others is_set in
      let small = set_number-lt m.width others increases in
      let solves = solution_from_violator m rows ones twos number is are small (subst (IsViolator (entry m) rows) (sym (numbered_same m.width others increases)) violator) in
      omega (arith, number_of_numbered m.width set solution.small, solution.least number (all-map (λ n. common n number ≡ 0) (λ row. without_columns ones (support_of m row)) rows solves.hold) solves.fails);
}

pub no_column_set : (m : Matrix) (rows : List ℕ) (ones twos : ℕ) → IsMatrix m → AreSums m rows ones twos
    → ((set : ℕ) → AllByRecursion (λ n. common n set ≡ 0) (equations_of m ones rows) → common (without_columns ones twos) set ≡ 0) → HasNoColumnSet m rows
no_column_set m rows ones twos is are none others is_set violator =
    let number = set_number others in
    let increases = column_set_increases m others is_set in
    let small = set_number-lt m.width others increases in
    let solves = solution_from_violator m rows ones twos number is are small (subst (IsViolator (entry m) rows) (sym (numbered_same m.width others increases)) violator) in
    omega (arith, solves.fails, none number (all-map (λ n. common n number ≡ 0) (λ row. without_columns ones (support_of m row)) rows solves.hold))

pub equations_more : (m : Matrix) (excluded : ℕ) (rows : List ℕ) (i : ℕ) → i < length rows
    → equations_of m excluded (take (i + 1) rows) ≡ equations_of m excluded (take i rows) ++ without_columns excluded (support_of m (get_or rows i 0)) ∷ []
equations_more m excluded rows i h = map_more (λ row. without_columns excluded (support_of m row)) rows i 0 h
