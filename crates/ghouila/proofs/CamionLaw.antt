-- Camion's equivalence.
use Rattle.std.proofs.Common.{◌≡◌, ◌<◌, ◌↔◌, inl, inr, ◌∙◌, ℕ, suc, ℤ, pos, ◌+ℤ◌, ◌*ℤ◌, ◌-ℤ◌, List, [], ◌∷◌, length, map, refl, ap, sym, subst, arith}
use Rattle.std.specs.List.{AllByRecursion}
use Rattle.cmr_base.specs.Matrix.{Matrix, height, entry, IsEntry, HasTernaryEntries}
use Rattle.cmr_base.specs.Signing.{IsSign, signed_sum, IsSigning, IsTotallyUnimodular}
use Rattle.cmr_base.specs.Violator.{HasNoViolator}
use Rattle.cmr_base.specs.Sums.{sum_over, IsEven}
use Rattle.cmr_base.proofs.Integers.{sums}
use Rattle.cmr_base.proofs.Parity.{IsFour, even_by_difference, two_mod_four_not_four}
use Rattle.cmr_base.proofs.SumLaws.{sum_over-map, sum_over_same, sum_over-zero}
use Rattle.cmr_base.proofs.Lists.{all_of, all_both}
use Rattle.cmr_base.proofs.IncreasingLists.{increasing_below, row_set_increases, column_set_increases, increasing_row_set, increasing_column_set, odd_times, increases-odd_times}
use Rattle.cmr_base.proofs.ViolatorLemmas.{violator-odd_times}
use Rattle.ghouila.specs.Laws.{ViolatorsHaveNoSigning}
use Rattle.ghouila.proofs.SignedSums.{signed, even_change-signed, four_change-signed, signed-sum_over, even_entry}
use Rattle.ghouila.proofs.Camion.{SignsPairs, HasViolatorIn, signed_or_violated}

-- ---- signs in a list along the rows, and as pairs

abbrev pairs_of : List ℕ → List ℤ → List (ℕ × ℤ)
pairs_of [] signs = []
pairs_of (row ∷ rows) [] = []
pairs_of (row ∷ rows) (sign ∷ signs) = (row, sign) ∷ pairs_of rows signs

rows-pairs_of : (rows : List ℕ) (signs : List ℤ) → length signs ≡ length rows → map (λ p. p.0) (pairs_of rows signs) ≡ rows
rows-pairs_of [] signs e = refl
rows-pairs_of (row ∷ rows) [] e = absurd (omega arith)
rows-pairs_of (row ∷ rows) (sign ∷ signs) e = ap (λ (xs : List ℕ). row ∷ xs) (rows-pairs_of rows signs (omega arith))

signs-pairs_of : (rows : List ℕ) (signs : List ℤ) → AllByRecursion IsSign signs → AllByRecursion (λ p. IsSign p.1) (pairs_of rows signs)
signs-pairs_of [] signs all = tt
signs-pairs_of (row ∷ rows) [] all = tt
signs-pairs_of (row ∷ rows) (sign ∷ signs) all = (all.0, signs-pairs_of rows signs all.1)

sum-pairs_of : (m : Matrix) (rows : List ℕ) (signs : List ℤ) (column : ℕ) → signed (λ p. p.1) (pairs_of rows signs) (λ p. entry m p.0 column) ≡ signed_sum m rows signs column
sum-pairs_of m [] signs column = refl
sum-pairs_of m (row ∷ rows) [] column = refl
sum-pairs_of m (row ∷ rows) (sign ∷ signs) column = ap (λ (z : ℤ). sign *ℤ entry m row column +ℤ z) (sum-pairs_of m rows signs column)

signed_sum-pairs : (m : Matrix) (pairs : List (ℕ × ℤ)) (column : ℕ) → signed_sum m (map (λ p. p.0) pairs) (map (λ p. p.1) pairs) column ≡ signed (λ p. p.1) pairs (λ p. entry m p.0 column)
signed_sum-pairs m [] column = refl
signed_sum-pairs m (p ∷ pairs) column = ap (λ (z : ℤ). p.1 *ℤ entry m p.0 column +ℤ z) (signed_sum-pairs m pairs column)

signs_of_pairs : (pairs : List (ℕ × ℤ)) → AllByRecursion (λ p. IsSign p.1) pairs → AllByRecursion IsSign (map (λ p. p.1) pairs)
signs_of_pairs [] all = tt
signs_of_pairs (p ∷ pairs) all = (all.0, signs_of_pairs pairs all.1)

as_many : (pairs : List (ℕ × ℤ)) → length (map (λ p. p.1) pairs) ≡ length (map (λ p. p.0) pairs)
as_many [] = refl
as_many (p ∷ pairs) = ap suc (as_many pairs)

pub signing_of_pairs : (m : Matrix) (rows : List ℕ) → SignsPairs m.width (entry m) rows → (signs : List ℤ) × IsSigning m rows signs
signing_of_pairs m rows s = (
  map (λ p. p.1) s.pairs,
  subst (λ (xs : List ℕ). IsSigning m xs (map (λ p. p.1) s.pairs)) s.rows (record {
    one_each = as_many s.pairs;
    each = signs_of_pairs s.pairs s.signs;
    sums = λ column l. subst IsEntry (sym (signed_sum-pairs m s.pairs column)) (s.entries column l);
  }),
)

-- ---- the rows of a violator have no signing

columns_vanish : (m : Matrix) (rows : List ℕ) (signs : List ℤ) (columns : List ℕ) → IsSigning m rows signs → AllByRecursion (λ column. column < m.width) columns
    → AllByRecursion (λ column. IsEven (sum_over rows (λ row. entry m row column))) columns
    → sum_over columns (λ column. signed (λ p. p.1) (pairs_of rows signs) (λ p. entry m p.0 column)) ≡ pos 0
columns_vanish m rows signs columns is inside even =
    sum_over_same columns (λ column. signed (λ p. p.1) (pairs_of rows signs) (λ p. entry m p.0 column)) (λ column. pos 0)
    (all_both (λ column. column < m.width) (λ column. IsEven (sum_over rows (λ row. entry m row column))) (λ column. signed (λ p. p.1) (pairs_of rows signs) (λ p. entry m p.0 column) ≡ pos 0) gone columns inside even)
    ∙ sum_over-zero columns
  where
    plain : (column : ℕ) → sum_over (pairs_of rows signs) (λ p. entry m p.0 column) ≡ sum_over rows (λ row. entry m row column)
    plain column = sym (sum_over-map (λ p. p.0) (pairs_of rows signs) (λ row. entry m row column)) ∙ ap (λ xs. sum_over xs (λ row. entry m row column)) (rows-pairs_of rows signs is.one_each)

    gone : (column : ℕ) → column < m.width → IsEven (sum_over rows (λ row. entry m row column)) → signed (λ p. p.1) (pairs_of rows signs) (λ p. entry m p.0 column) ≡ pos 0
    gone column l e =
        even_entry (signed (λ p. p.1) (pairs_of rows signs) (λ p. entry m p.0 column)) (subst IsEntry (sym (sum-pairs_of m rows signs column)) (is.sums column l))
        (even_by_difference (sum_over (pairs_of rows signs) (λ p. entry m p.0 column)) (signed (λ p. p.1) (pairs_of rows signs) (λ p. entry m p.0 column))
        (even_change-signed (λ p. p.1) (pairs_of rows signs) (λ p. entry m p.0 column) (signs-pairs_of rows signs is.each)) (subst IsEven (sym (plain column)) e))

pub unsigned : ViolatorsHaveNoSigning
unsigned m rows columns is v signs s =
    two_mod_four_not_four (sum_over rows (λ row. sum_over columns (entry m row))) v.two_mod_four
    (less_zero (sum_over rows (λ row. sum_over columns (entry m row))) (signed (λ p. p.1) (pairs_of rows signs) (λ p. sum_over columns (entry m p.0)))
    (signed-sum_over (λ p. p.1) (pairs_of rows signs) columns (λ p. entry m p.0) ∙ columns_vanish m rows signs columns s (increasing_below 0 m.width columns (column_set_increases m columns is)) v.even_columns)
    (subst (λ z. IsFour (z -ℤ signed (λ p. p.1) (pairs_of rows signs) (λ p. sum_over columns (entry m p.0)))) whole
    (four_change-signed (λ p. p.1) (pairs_of rows signs) (λ p. sum_over columns (entry m p.0)) (signs-pairs_of rows signs s.each) (even_pairs rows signs v.even_rows))))
  where
    less_zero : (t w : ℤ) → w ≡ pos 0 → IsFour (t -ℤ w) → IsFour t
    less_zero t w z (k, e) = (k, omega (arith, sums))

    whole : sum_over (pairs_of rows signs) (λ p. sum_over columns (entry m p.0)) ≡ sum_over rows (λ row. sum_over columns (entry m row))
    whole = sym (sum_over-map (λ p. p.0) (pairs_of rows signs) (λ row. sum_over columns (entry m row))) ∙ ap (λ xs. sum_over xs (λ row. sum_over columns (entry m row))) (rows-pairs_of rows signs s.one_each)

    even_pairs : (rows : List ℕ) (signs : List ℤ) → AllByRecursion (λ row. IsEven (sum_over columns (entry m row))) rows
        → AllByRecursion (λ p. IsEven (sum_over columns (entry m p.0))) (pairs_of rows signs)
    even_pairs [] signs h = tt
    even_pairs (row ∷ rows) [] h = tt
    even_pairs (row ∷ rows) (sign ∷ signs) h = (h.0, even_pairs rows signs h.1)

-- ---- both directions

pub no_violator : (m : Matrix) → HasNoViolator m → HasViolatorIn (height m) m.width (entry m) → ⊥
no_violator m free v = free (odd_times v.rows) (odd_times v.columns)
    (increasing_row_set m (odd_times v.rows) (increases-odd_times (height m) v.rows v.rows_in))
    (increasing_column_set m (odd_times v.columns) (increases-odd_times m.width v.columns v.columns_in))
    (violator-odd_times (entry m) v.rows v.columns v.violator)

pub camion : (m : Matrix) → HasTernaryEntries m → IsTotallyUnimodular m ↔ HasNoViolator m
camion m small = (
  λ all rows columns row_set column_set v. let s = all rows row_set in unsigned m rows columns column_set v s.0 s.1,
  λ free rows row_set. elim (signed_or_violated (height m) m.width rows (entry m) (increasing_below 0 (height m) rows (row_set_increases m rows row_set)) (all_of _ (λ row column l. small row column) rows)) [
    | inl s ↦ signing_of_pairs m rows s
    | inr v ↦ absurd (no_violator m free v)
  ],
)
