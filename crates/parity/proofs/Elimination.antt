-- Elimination over GF(2): the remainder after reduction by a basis, and the least solution.
use Rattle.std.proofs.Common.{◌≡◌, ◌≢◌, ◌<◌, ◌≤◌, ◌^◌, ◌∙◌, ◌⊎◌, ◌++◌, ℕ, List, [], ◌∷◌, refl, ap, ap₂, sym, subst, inl, inr, arith}
use Rattle.std.specs.Prelude.{bit_and, bit_xor}
use Rattle.std.specs.List.{AllByRecursion}
use Rattle.std.specs.Int.{bit_at}
use Rattle.std.proofs.lemmas.Nat.{xor_lt, pow_below}
use Rattle.std.proofs.lemmas.Nat.Bits.{bit_at_and, bit_at_xor, same_from_bits, bit_at-lt, bit_at-zero, bit_at-pow_other, bit_at_above}
use Rattle.std.proofs.lemmas.Bool.{cases_lt, cases_eq}
use lib.Bits.{xor_self}
use Rattle.cmr_base.proofs.Lists.{all-append, all_back, all_prefix, all_weaker}
use Rattle.parity.specs.declared.narrow.Equation.{Equation}
use Rattle.parity.specs.Equations.{IsBasis, IsLowest, cleared_by, common, corrected_by, reduced_by, solved}
use Rattle.parity.proofs.Bits.{DiffersAt, and-xor, common-lt, common-pow, common-xor, common-xor_right, differs, lowest_differs}

-- ---- one equation
pub bit_cases : (number column : ℕ) → (bit_at number column ≡ 1) ⊎ (bit_at number column ≡ 0)
bit_cases number column = elim (cases_eq (bit_at number column) 1) [
  | inl one ↦ inl one
  | inr other ↦ inr (omega (arith, bit_at-lt number column))
]

common_cases : (a b : ℕ) → (common a b ≡ 1) ⊎ (common a b ≡ 0)
common_cases a b = elim (cases_eq (common a b) 1) [
  | inl one ↦ inl one
  | inr other ↦ inr (omega (arith, common-lt a b))
]

cleared_set : (e : Equation) (number : ℕ) → bit_at number e.pivot ≡ 1 → cleared_by e number ≡ bit_xor number e.columns
cleared_set e number one = rw one refl

cleared_clear : (e : Equation) (number : ℕ) → bit_at number e.pivot ≡ 0 → cleared_by e number ≡ number
cleared_clear e number none = rw none refl

corrected_odd : (e : Equation) (number : ℕ) → common e.columns number ≡ 1 → corrected_by e number ≡ bit_xor number (2 ^ e.pivot)
corrected_odd e number one = rw one refl

corrected_even : (e : Equation) (number : ℕ) → common e.columns number ≡ 0 → corrected_by e number ≡ number
corrected_even e number none = rw none refl

-- ---- reducing
pub reduced_by-append : (es fs : List Equation) (number : ℕ) → reduced_by (es ++ fs) number ≡ reduced_by fs (reduced_by es number)
reduced_by-append [] fs number = refl
reduced_by-append (e ∷ es) fs number = reduced_by-append es fs (cleared_by e number)

-- equations that hold for a set do not change the parity of a number's intersection with the set
common-reduced_by : (es : List Equation) (number set : ℕ) → AllByRecursion (λ e. common e.columns set ≡ 0) es → common (reduced_by es number) set ≡ common number set
common-reduced_by [] number set hold = refl
common-reduced_by (e ∷ es) number set hold = common-reduced_by es (cleared_by e number) set hold.1 ∙ elim (bit_cases number e.pivot) [
  | inl one ↦ ap (λ n. common n set) (cleared_set e number one) ∙ common-xor number e.columns set ∙ omega (arith, hold.0, common-lt number set)
  | inr none ↦ ap (λ n. common n set) (cleared_clear e number none)
]

reduced_by_apart : (es : List Equation) (number excluded : ℕ) → AllByRecursion (λ e. bit_and e.columns excluded ≡ 0) es → bit_and number excluded ≡ 0 → bit_and (reduced_by es number) excluded ≡ 0
reduced_by_apart [] number excluded all apart = apart
reduced_by_apart (e ∷ es) number excluded all apart = reduced_by_apart es (cleared_by e number) excluded all.1 (elim (bit_cases number e.pivot) [
  | inl one ↦ ap (λ n. bit_and n excluded) (cleared_set e number one) ∙ and-xor number e.columns excluded ∙ ap₂ bit_xor apart all.0
  | inr none ↦ ap (λ n. bit_and n excluded) (cleared_clear e number none) ∙ apart
])

reduced_by_lt : (es : List Equation) (number width : ℕ) → AllByRecursion (λ e. e.columns < 2 ^ width) es → number < 2 ^ width → reduced_by es number < 2 ^ width
reduced_by_lt [] number width all h = h
reduced_by_lt (e ∷ es) number width all h = reduced_by_lt es (cleared_by e number) width all.1 (elim (bit_cases number e.pivot) [
  | inl one ↦ subst (λ n. n < 2 ^ width) (sym (cleared_set e number one)) (xor_lt width number e.columns h all.0)
  | inr none ↦ subst (λ n. n < 2 ^ width) (sym (cleared_clear e number none)) h
])

-- ---- the basis of some rows
pub basis_none : (width excluded : ℕ) → IsBasis width excluded [] []
basis_none width excluded = record { follow = λ set hold. tt; cleared = tt; lowest = tt; apart = tt; small = tt }

pub basis_skip : (width excluded : ℕ) (rows : List ℕ) (es : List Equation) (row : ℕ) → IsBasis width excluded rows es → reduced_by es row ≡ 0 → IsBasis width excluded (rows ++ row ∷ []) es
basis_skip width excluded rows es row basis none = record {
  follow = λ set hold. basis.follow set (all_prefix (λ r. common r set ≡ 0) rows (row ∷ []) hold);
  cleared = all-append (λ r. reduced_by es r ≡ 0) rows (row ∷ []) basis.cleared (none, tt);
  lowest = basis.lowest;
  apart = basis.apart;
  small = basis.small;
}

pub basis_push : (width excluded : ℕ) (rows : List ℕ) (es : List Equation) (row pivot : ℕ) → IsBasis width excluded rows es → bit_and row excluded ≡ 0
    → row < 2 ^ width → IsLowest (reduced_by es row) pivot
    → IsBasis width excluded (rows ++ row ∷ []) (es ++ record { pivot = pivot; columns = reduced_by es row } ∷ [])
basis_push width excluded rows es row pivot basis apart small low = record {
  follow = λ set hold.
      let before = basis.follow set (all_prefix (λ r. common r set ≡ 0) rows (row ∷ []) hold) in
      let last = (all_back (λ r. common r set ≡ 0) rows (row ∷ []) hold).0 in
      all-append (λ f. common f.columns set ≡ 0) es (e ∷ []) before (common-reduced_by es row set before ∙ last, tt);
  cleared = all-append (λ r. reduced_by (es ++ e ∷ []) r ≡ 0) rows (row ∷ [])
      (all_weaker (λ r. reduced_by es r ≡ 0) (λ r. reduced_by (es ++ e ∷ []) r ≡ 0) (λ r none. reduced_by-append es (e ∷ []) r ∙ ap (cleared_by e) none ∙ cleared_clear e 0 (bit_at-zero pivot)) rows basis.cleared)
      (reduced_by-append es (e ∷ []) row ∙ cleared_set e (reduced_by es row) low.there ∙ xor_self (reduced_by es row), tt);
  lowest = all-append (λ f. IsLowest f.columns f.pivot) es (e ∷ []) basis.lowest (low, tt);
  apart = all-append (λ f. bit_and f.columns excluded ≡ 0) es (e ∷ []) basis.apart (reduced_by_apart es row excluded basis.apart apart, tt);
  small = all-append (λ f. f.columns < 2 ^ width) es (e ∷ []) basis.small (reduced_by_lt es row width basis.small small, tt);
}
  where
    e : Equation
    e = record { pivot = pivot; columns = reduced_by es row }

-- a number that is reduced to 0 has an even number of columns in common with each set for which the rows hold
pub even_where_cleared : (width excluded : ℕ) (rows : List ℕ) (es : List Equation) (number set : ℕ) → IsBasis width excluded rows es → reduced_by es number ≡ 0
    → AllByRecursion (λ row. common row set ≡ 0) rows → common number set ≡ 0
even_where_cleared width excluded rows es number set basis none hold =
    sym (common-reduced_by es number set (basis.follow set hold)) ∙ ap (λ n. common n set) none ∙ common-zero set
  where
    common-zero : (b : ℕ) → common 0 b ≡ 0
    common-zero b = omega (arith, common-xor 0 0 b)

-- ---- solving
-- a number and the solved set have the same parity of common columns as the reduced number and the first set
common-solved : (es : List Equation) (number start : ℕ) → common number (solved es start) ≡ common (reduced_by es number) start
common-solved [] number start = refl
common-solved (e ∷ es) number start =
    by (solved es start) (common-solved es (cleared_by e number) start) (common_cases e.columns (solved es start)) (bit_cases number e.pivot)
  where
    by : (set : ℕ) → common (cleared_by e number) set ≡ common (reduced_by (e ∷ es) number) start → (common e.columns set ≡ 1) ⊎ (common e.columns set ≡ 0)
        → (bit_at number e.pivot ≡ 1) ⊎ (bit_at number e.pivot ≡ 0)
        → common number (corrected_by e set) ≡ common (reduced_by (e ∷ es) number) start
    by set later (inl odd) (inl one) =
        ap (common number) (corrected_odd e set odd) ∙ common-xor_right number set (2 ^ e.pivot)
        ∙ omega (arith, common-pow number e.pivot, one, odd, common-xor number e.columns set)
        ∙ ap (λ n. common n set) (sym (cleared_set e number one)) ∙ later
    by set later (inl odd) (inr none) =
        ap (common number) (corrected_odd e set odd) ∙ common-xor_right number set (2 ^ e.pivot)
        ∙ omega (arith, common-pow number e.pivot, none, common-lt number set)
        ∙ ap (λ n. common n set) (sym (cleared_clear e number none)) ∙ later
    by set later (inr even) (inl one) =
        ap (common number) (corrected_even e set even)
        ∙ omega (arith, even, common-xor number e.columns set, common-lt number set)
        ∙ ap (λ n. common n set) (sym (cleared_set e number one)) ∙ later
    by set later (inr even) (inr none) =
        ap (common number) (corrected_even e set even) ∙ ap (λ n. common n set) (sym (cleared_clear e number none)) ∙ later

-- the solved set contains only pivots and the column of the first set
solved_at : (P : ℕ → Type 0) (es : List Equation) (free column : ℕ) → P free → AllByRecursion (λ e. P e.pivot) es → bit_at (solved es (2 ^ free)) column ≡ 1 → P column
solved_at P [] free column at_free all one = elim (cases_eq column free) [
  | inl same ↦ subst P (sym same) at_free
  | inr other ↦ absurd (omega (arith, one, bit_at-pow_other free column other))
]
solved_at P (e ∷ es) free column at_free all one = by (solved_at P es free column at_free all.1) (common_cases e.columns (solved es (2 ^ free))) (cases_eq column e.pivot)
  where
    by : (bit_at (solved es (2 ^ free)) column ≡ 1 → P column) → (common e.columns (solved es (2 ^ free)) ≡ 1) ⊎ (common e.columns (solved es (2 ^ free)) ≡ 0)
        → (column ≡ e.pivot) ⊎ (column ≢ e.pivot) → P column
    by earlier odd (inl same) = subst P (sym same) all.0
    by earlier (inl odd) (inr other) =
        let whole : bit_at (bit_xor (solved es (2 ^ free)) (2 ^ e.pivot)) column ≡ 1 = ap (λ n. bit_at n column) (sym (corrected_odd e (solved es (2 ^ free)) odd)) ∙ one in
        earlier (omega (arith, whole, bit_at_xor (solved es (2 ^ free)) (2 ^ e.pivot) column, bit_at-pow_other e.pivot column other, bit_at-lt (solved es (2 ^ free)) column))
    by earlier (inr even) (inr other) = earlier (ap (λ n. bit_at n column) (sym (corrected_even e (solved es (2 ^ free)) even)) ∙ one)

solved_lt : (es : List Equation) (start width : ℕ) → AllByRecursion (λ e. e.pivot < width) es → start < 2 ^ width → solved es start < 2 ^ width
solved_lt [] start width all h = h
solved_lt (e ∷ es) start width all h = elim (common_cases e.columns (solved es start)) [
  | inl odd ↦ subst (λ n. n < 2 ^ width) (sym (corrected_odd e (solved es start) odd)) (xor_lt width (solved es start) (2 ^ e.pivot) (solved_lt es start width all.1 h) (pow_below e.pivot width all.0))
  | inr even ↦ subst (λ n. n < 2 ^ width) (sym (corrected_even e (solved es start) even)) (solved_lt es start width all.1 h)
]

-- the least set for which the rows hold and one more equation does not
pub record IsLeastSolution (width excluded : ℕ) (rows : List ℕ) (odd set : ℕ) : Type 0 where
  pub hold : AllByRecursion (λ row. common row set ≡ 0) rows
  pub fails : common odd set ≡ 1
  pub apart : bit_and set excluded ≡ 0
  pub small : set < 2 ^ width
  pub least : (other : ℕ) → AllByRecursion (λ row. common row other ≡ 0) rows → common odd other ≡ 1 → set ≤ other

below_width : (number column width : ℕ) → bit_at number column ≡ 1 → number < 2 ^ width → column < width
below_width number column width one h = elim (cases_lt column width) [
  | inl below ↦ below
  | inr past ↦ absurd (omega (arith, one, bit_at_above number width column h past))
]

pub apart_at : (number excluded column : ℕ) → bit_at number column ≡ 1 → bit_and number excluded ≡ 0 → bit_at excluded column ≡ 0
apart_at number excluded column one apart =
    omega (arith, one, bit_at-lt excluded column, bit_at_and number excluded column, ap (λ n. bit_at n column) apart, bit_at-zero column)

pub least_solution : (width excluded : ℕ) (rows : List ℕ) (es : List Equation) (odd free : ℕ) → IsBasis width excluded rows es → bit_and odd excluded ≡ 0
    → odd < 2 ^ width → IsLowest (reduced_by es odd) free
    → IsLeastSolution width excluded rows odd (solved es (2 ^ free))
least_solution width excluded rows es odd free basis odd_apart odd_small low = record {
  hold = hold;
  fails = fails;
  apart = same_from_bits (bit_and set excluded) 0 (λ column. at column (bit_cases set column) ∙ sym (bit_at-zero column));
  small = solved_lt es (2 ^ free) width (pivots_below es basis.lowest basis.small) (pow_below free width (below_width (reduced_by es odd) free width low.there (reduced_by_lt es odd width basis.small odd_small)));
  least = λ other other_holds other_fails. elim (cases_lt other set) [
    | inl less ↦ absurd (no_less other other_holds other_fails (differs set other less))
    | inr more ↦ more
  ];
}
  where
    set : ℕ
    set = solved es (2 ^ free)

    hold : AllByRecursion (λ row. common row set ≡ 0) rows
    hold = all_weaker (λ row. reduced_by es row ≡ 0) (λ row. common row set ≡ 0) (λ row none. common-solved es row (2 ^ free) ∙ ap (λ n. common n (2 ^ free)) none ∙ common-pow 0 free ∙ bit_at-zero free) rows basis.cleared

    fails : common odd set ≡ 1
    fails = common-solved es odd (2 ^ free) ∙ common-pow (reduced_by es odd) free ∙ low.there

    pivots_below : (fs : List Equation) → AllByRecursion (λ e. IsLowest e.columns e.pivot) fs → AllByRecursion (λ e. e.columns < 2 ^ width) fs → AllByRecursion (λ e. e.pivot < width) fs
    pivots_below [] lows smalls = tt
    pivots_below (e ∷ fs) lows smalls = (below_width e.columns e.pivot width lows.0.there smalls.0, pivots_below fs lows.1 smalls.1)

    pivots_apart : (fs : List Equation) → AllByRecursion (λ e. IsLowest e.columns e.pivot) fs → AllByRecursion (λ e. bit_and e.columns excluded ≡ 0) fs
        → AllByRecursion (λ e. bit_at excluded e.pivot ≡ 0) fs
    pivots_apart [] lows aparts = tt
    pivots_apart (e ∷ fs) lows aparts = (apart_at e.columns excluded e.pivot lows.0.there aparts.0, pivots_apart fs lows.1 aparts.1)

    at : (column : ℕ) → (bit_at set column ≡ 1) ⊎ (bit_at set column ≡ 0) → bit_at (bit_and set excluded) column ≡ 0
    at column (inl one) =
        let off : bit_at excluded column ≡ 0 = solved_at (λ c. bit_at excluded c ≡ 0) es free column (apart_at (reduced_by es odd) excluded free low.there (reduced_by_apart es odd excluded basis.apart odd_apart)) (pivots_apart es basis.lowest basis.apart) one in
        bit_at_and set excluded column ∙ omega (arith, off)
    at column (inr none) = bit_at_and set excluded column ∙ omega (arith, none)

    Agrees : ℕ → ℕ → Type 0
    Agrees other column = (b : ℕ) × IsLowest b column × (common b set ≡ common b other)

    agree : (other : ℕ) (fs : List Equation) → AllByRecursion (λ e. IsLowest e.columns e.pivot) fs → AllByRecursion (λ e. common e.columns set ≡ 0) fs
        → AllByRecursion (λ e. common e.columns other ≡ 0) fs → AllByRecursion (λ e. Agrees other e.pivot) fs
    agree other [] lows mine others = tt
    agree other (e ∷ fs) lows mine others = ((e.columns, lows.0, mine.0 ∙ sym others.0), agree other fs lows.1 mine.1 others.1)

    no_less : (other : ℕ) → AllByRecursion (λ row. common row other ≡ 0) rows → common odd other ≡ 1 → (place : ℕ) × DiffersAt set other place → ⊥
    no_less other other_holds other_fails found =
        let place = found.0 in
        let mine = basis.follow set hold in
        let others = basis.follow other other_holds in
        let last : Agrees other free = (reduced_by es odd, low, common-reduced_by es odd set mine ∙ fails ∙ sym other_fails ∙ sym (common-reduced_by es odd other others)) in
        let b = solved_at (Agrees other) es free place last (agree other es basis.lowest mine others) found.1.has in
        omega (arith, b.2, lowest_differs b.0 set other place b.1 found.1)
