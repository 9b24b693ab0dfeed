-- Columns with a pivot, found in words of the rows' supports.
use Rattle.std.proofs.Common.{◌≡◌, ◌<◌, ◌≤◌, ◌+◌, ◌-◌, ◌*◌, ◌%◌, ◌^◌, ◌∙◌, ◌⊎◌, inl, inr, max, min, eqb, cond, ℕ, zero, suc, Bool, true, false, not, Option, Some, None, ℤ, pos, List, length, get_or, refl, ap, sym, subst, arith, w64}
use Rattle.std.specs.Prelude.{is_some}
use Rattle.std.specs.Int.{bit_at, bit_not, trailing_zeros}
use Rattle.std.specs.Int.Bits.{bit_and, bit_or, bit_xor}
use Rattle.std.specs.List.{AllByRecursion}
use Rattle.std.proofs.lemmas.Bool.{false≢true, true≢false}
use Rattle.std.proofs.lemmas.List.{take_all}
use Rattle.std.proofs.lemmas.Nat.Bits.{bit_at-lt, bit_at-trailing_zeros, bit_at-zero, bit_at_and, bit_at_not, bit_at_or, bit_at_xor}
use Rattle.cmr_base.specs.Matrix.{Matrix, row_of, entry, IsMatrix, is_nonzero}
use Rattle.cmr_base.specs.Planes.{has_bit, word_of}
use Rattle.cmr_base.specs.Signing.{IsSign}
use Rattle.cmr_base.proofs.GraphicMatrices.{nonzero_in_range}
use Rattle.cmr_base.proofs.PlaneWords.{bit-word_of}
use Rattle.cmr_base.proofs.SignEntries.{sign_is_nonzero, zero_or_sign}
use Rattle.ghouila.specs.Pivot.{ArePivotColumns, IsPivot, HasNoPivot}
use Rattle.ghouila.proofs.PivotSearch.{IsScanned, scanned_nothing, scanned_zero, scanned_first, scanned_more, scanned_odd, scanned_even}

-- ---- bits

or_zero : (a word i : ℕ) → bit_at word i ≡ 0 → has_bit (bit_or a word) i ≡ has_bit a i
or_zero a word i e = ap (λ (n : ℕ). eqb n 1) (bit_at_or a word i ∙ ap (max (bit_at a i)) e ∙ none (bit_at a i))
  where
    none : (n : ℕ) → max n 0 ≡ n
    none n = omega arith

or_one : (a word i : ℕ) → bit_at word i ≡ 1 → has_bit (bit_or a word) i ≡ true
or_one a word i e = ap (λ (n : ℕ). eqb n 1) (bit_at_or a word i ∙ ap (max (bit_at a i)) e ∙ one (bit_at a i) (bit_at-lt a i))
  where
    one : (n : ℕ) → n < 2 → max n 1 ≡ 1
    one n h = omega arith

xor_zero : (a word i : ℕ) → bit_at word i ≡ 0 → has_bit (bit_xor a word) i ≡ has_bit a i
xor_zero a word i e = ap (λ (n : ℕ). eqb n 1) (bit_at_xor a word i ∙ ap (λ (n : ℕ). (bit_at a i + n) % 2) e ∙ same (bit_at a i) (bit_at-lt a i))
  where
    same : (n : ℕ) → n < 2 → (n + 0) % 2 ≡ n
    same n h = omega arith

turned : (n : ℕ) → n < 2 → eqb ((n + 1) % 2) 1 ≡ not (eqb n 1)
turned zero h = refl
turned (suc zero) h = refl
turned (suc (suc n)) h = absurd (omega arith)

xor_one : (a word i : ℕ) → bit_at word i ≡ 1 → has_bit (bit_xor a word) i ≡ not (has_bit a i)
xor_one a word i e = ap (λ (n : ℕ). eqb n 1) (bit_at_xor a word i ∙ ap (λ (n : ℕ). (bit_at a i + n) % 2) e) ∙ turned (bit_at a i) (bit_at-lt a i)

bits_and : (some odd i : ℕ) → odd < 2 ^ 64 → i < 64 → bit_at (bit_and some (bit_not w64 odd)) i ≡ min (bit_at some i) (1 - bit_at odd i)
bits_and some odd i fits low = bit_at_and some (bit_not w64 odd) i ∙ ap (min (bit_at some i)) (bit_at_not w64 odd i fits low)

-- ---- the words of the rows scanned so far

-- after the first k rows: the columns with a nonzero, and the columns with an odd number of nonzeros
abbrev pub AreScanned : Matrix → List ℕ → ℕ → ℕ → ℕ → ℕ → Type 0
AreScanned m rows chunk k some odd = (i : ℕ) → i < 64 → (first : Option ℕ) × IsScanned m rows (64 * chunk + i) k first (has_bit odd i) × (has_bit some i ≡ is_some first)

pub none_scanned : (m : Matrix) (rows : List ℕ) (chunk : ℕ) → AreScanned m rows chunk 0 0 0
none_scanned m rows chunk = λ i low. (
  None,
  subst (IsScanned m rows (64 * chunk + i) 0 None) (sym (no_bit i)) (scanned_nothing m rows (64 * chunk + i)),
  no_bit i,
)
  where
    no_bit : (i : ℕ) → has_bit 0 i ≡ false
    no_bit i = ap (λ (n : ℕ). eqb n 1) (bit_at-zero i)

module _ (m : Matrix) (rows : List ℕ) (chunk k word : ℕ) (is : IsMatrix m) (inside : k < length rows) (tells : word ≡ word_of is_nonzero (row_of m (get_or rows k 0)) chunk) where
  abbrev here : ℕ → ℤ
  here i = entry m (get_or rows k 0) (64 * chunk + i)

  bit : (i : ℕ) → i < 64 → bit_at word i ≡ cond (is_nonzero (entry m (get_or rows k 0) (64 * chunk + i))) 1 0
  bit i low = ap (λ (n : ℕ). bit_at n i) tells ∙ bit-word_of is_nonzero (row_of m (get_or rows k 0)) chunk i refl low

  bit_zero : (i : ℕ) → i < 64 → here i ≡ pos 0 → bit_at word i ≡ 0
  bit_zero i low e = bit i low ∙ ap (λ (z : ℤ). cond (is_nonzero z) 1 0) e

  bit_one : (i : ℕ) → i < 64 → IsSign (here i) → bit_at word i ≡ 1
  bit_one i low (inl e) = bit i low ∙ ap (λ (z : ℤ). cond (is_nonzero z) 1 0) e
  bit_one i low (inr e) = bit i low ∙ ap (λ (z : ℤ). cond (is_nonzero z) 1 0) e

  abbrev After : ℕ → ℕ → ℕ → Type 0
  After some odd i = (first : Option ℕ) × IsScanned m rows (64 * chunk + i) (k + 1) first (has_bit (bit_xor odd word) i) × (has_bit (bit_or some word) i ≡ is_some first)

  at_zero : (some odd i : ℕ) → i < 64 → here i ≡ pos 0 → (first : Option ℕ) → IsScanned m rows (64 * chunk + i) k first (has_bit odd i) → has_bit some i ≡ is_some first → After some odd i
  at_zero some odd i low e first scanned so = (
    first,
    scanned_zero m rows (64 * chunk + i) k inside first first (has_bit odd i) (has_bit (bit_xor odd word) i) refl (xor_zero odd word i (bit_zero i low e)) e scanned,
    or_zero some word i (bit_zero i low e) ∙ so,
  )

  at_sign : (some odd i : ℕ) → i < 64 → IsSign (here i) → (first : Option ℕ) → IsScanned m rows (64 * chunk + i) k first (has_bit odd i) → After some odd i
  at_sign some odd i low u None scanned = (
    Some k,
    scanned_first m rows (64 * chunk + i) k inside None (Some k) (has_bit odd i) (has_bit (bit_xor odd word) i) refl refl (xor_one odd word i (bit_one i low u)) u scanned,
    or_one some word i (bit_one i low u),
  )
  at_sign some odd i low u (Some place) scanned = (
    Some place,
    scanned_more m rows (64 * chunk + i) k inside (Some place) (Some place) (has_bit odd i) (has_bit (bit_xor odd word) i) refl refl (xor_one odd word i (bit_one i low u)) u scanned,
    or_one some word i (bit_one i low u),
  )

  pub more_scanned : (some odd : ℕ) → AreScanned m rows chunk k some odd → AreScanned m rows chunk (k + 1) (bit_or some word) (bit_xor odd word)
  more_scanned some odd scanned = λ i low. elim (zero_or_sign (here i) (is.small (get_or rows k 0) (64 * chunk + i))) [
    | inl e ↦ let so = scanned i low in at_zero some odd i low e so.0 so.1 so.2
    | inr u ↦ let so = scanned i low in at_sign some odd i low u so.0 so.1
  ]

-- ---- the columns with a pivot

module _ (m : Matrix) (rows : List ℕ) (chunk k some odd : ℕ) (is : IsMatrix m) (all : length rows ≤ k) (fits : odd < 2 ^ 64) (scanned : AreScanned m rows chunk k some odd) where
  pivot_there : (i : ℕ) (first : Option ℕ) → IsScanned m rows (64 * chunk + i) k first false → is_some first ≡ true → (place : ℕ) × IsPivot m rows place (64 * chunk + i)
  pivot_there i None s e = absurd (false≢true e)
  pivot_there i (Some place) s e =
      let column_in = nonzero_in_range m is.rectangular (get_or rows place 0) (64 * chunk + i) (sign_is_nonzero (entry m (get_or rows place 0) (64 * chunk + i)) s.found.1) in
      (place, (scanned_even m rows (64 * chunk + i) k (Some place) column_in all s).0)

  none_there : (i : ℕ) (first : Option ℕ) (now_odd : Bool) → IsScanned m rows (64 * chunk + i) k first now_odd → (is_some first ≡ false) ⊎ (now_odd ≡ true) → HasNoPivot m rows (64 * chunk + i)
  none_there i first true s h = scanned_odd m rows (64 * chunk + i) k first all s
  none_there i (Some place) false s (inl e) = absurd (true≢false e)
  none_there i (Some place) false s (inr e) = absurd (false≢true e)
  none_there i None false s h = inl (subst (AllByRecursion (λ row. entry m row (64 * chunk + i) ≡ pos 0)) (take_all k rows all) s.none)

  which : (a b : ℕ) → a < 2 → b < 2 → eqb (min a (1 - b)) 1 ≡ false → (eqb a 1 ≡ false) ⊎ (eqb b 1 ≡ true)
  which zero b h g e = inl refl
  which (suc zero) zero h g e = absurd (true≢false e)
  which (suc zero) (suc zero) h g e = inr refl
  which (suc zero) (suc (suc b)) h g e = absurd (omega arith)
  which (suc (suc a)) b h g e = absurd (omega arith)

  both : (a b : ℕ) → a < 2 → b < 2 → eqb (min a (1 - b)) 1 ≡ true → (eqb a 1 ≡ true) × (eqb b 1 ≡ false)
  both zero b h g e = absurd (false≢true (sym (ap (λ (n : ℕ). eqb n 1) (zero_min b)) ∙ e))
    where
      zero_min : (b : ℕ) → min 0 (1 - b) ≡ 0
      zero_min b = omega arith
  both (suc zero) zero h g e = (refl, refl)
  both (suc zero) (suc zero) h g e = absurd (false≢true e)
  both (suc zero) (suc (suc b)) h g e = absurd (omega arith)
  both (suc (suc a)) b h g e = absurd (omega arith)

  pub pivot_columns_are : ArePivotColumns m rows chunk (bit_and some (bit_not w64 odd))
  pivot_columns_are = record {
    pivots = λ i low e.
        let so = scanned i low in
        let bits = both (bit_at some i) (bit_at odd i) (bit_at-lt some i) (bit_at-lt odd i) (sym (ap (λ (n : ℕ). eqb n 1) (bits_and some odd i fits low)) ∙ e) in
        pivot_there i so.0 (subst (IsScanned m rows (64 * chunk + i) k so.0) bits.1 so.1) (sym so.2 ∙ bits.0);
    others = λ i low e.
        let so = scanned i low in
        none_there i so.0 (has_bit odd i) so.1 (elim (which (bit_at some i) (bit_at odd i) (bit_at-lt some i) (bit_at-lt odd i) (sym (ap (λ (n : ℕ). eqb n 1) (bits_and some odd i fits low)) ∙ e)) [
          | inl none ↦ inl (sym so.2 ∙ none)
          | inr there ↦ inr there
        ]);
  }

-- the lowest bit belongs to the first column with a pivot
module _ (m : Matrix) (rows : List ℕ) (chunk word : ℕ) (some : 0 < word) (fits : word < 2 ^ 64) (are : ArePivotColumns m rows chunk word) where
  abbrev column : ℕ
  column = 64 * chunk + trailing_zeros w64 word

  lowest : (trailing_zeros w64 word < 64) × (bit_at word (trailing_zeros w64 word) ≡ 1) × ((i : ℕ) → i < trailing_zeros w64 word → bit_at word i ≡ 0)
  lowest = bit_at-trailing_zeros w64 word some fits

  pub pivot_in_column : (place : ℕ) × IsPivot m rows place (64 * chunk + trailing_zeros w64 word)
  pivot_in_column = are.pivots (trailing_zeros w64 word) lowest.0 (ap (λ (n : ℕ). eqb n 1) lowest.1)

  pub none_before : (j : ℕ) → 64 * chunk ≤ j → j < 64 * chunk + trailing_zeros w64 word → HasNoPivot m rows j
  none_before j low high =
      let at : 64 * chunk + (j - 64 * chunk) ≡ j = omega arith in
      let small = lowest.0 in
      subst (HasNoPivot m rows) at (are.others (j - 64 * chunk) (omega (arith, small)) (ap (λ (n : ℕ). eqb n 1) (lowest.2 (j - 64 * chunk) (omega arith))))

pub none_in_chunk : (m : Matrix) (rows : List ℕ) (chunk word : ℕ) → word ≡ 0 → ArePivotColumns m rows chunk word → (j : ℕ) → 64 * chunk ≤ j → j < 64 * (chunk + 1) → HasNoPivot m rows j
none_in_chunk m rows chunk word none are j low high =
    let at : 64 * chunk + (j - 64 * chunk) ≡ j = omega arith in
    subst (HasNoPivot m rows) at (are.others (j - 64 * chunk) (omega arith) (ap (λ (n : ℕ). has_bit n (j - 64 * chunk)) none ∙ ap (λ (n : ℕ). eqb n 1) (bit_at-zero (j - 64 * chunk))))
