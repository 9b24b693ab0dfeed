-- Rows have a signing, or some lines are a violator.
use Rattle.std.proofs.Common.{◌≡◌, ◌<◌, ◌≤◌, ◌⊎◌, inl, inr, ◌∙◌, ℕ, zero, suc, Bool, true, false, ℤ, pos, negsuc, neg_ℤ, ◌+ℤ◌, ◌*ℤ◌, List, [], ◌∷◌, map, refl, ap, sym, subst, arith}
use Rattle.std.specs.List.{AllByRecursion}
use Rattle.std.proofs.lemmas.Bool.{cases_lt, cases_eq}
use Rattle.cmr_base.specs.Matrix.{IsEntry}
use Rattle.cmr_base.specs.Signing.{IsSign}
use Rattle.cmr_base.specs.Violator.{IsViolator}
use Rattle.cmr_base.specs.Sums.{sum_over, IsEven, IsOdd}
use Rattle.cmr_base.proofs.Integers.{sums, products}
use Rattle.cmr_base.proofs.Parity.{even_or_odd}
use Rattle.cmr_base.proofs.SumLaws.{sum_over-map}
use Rattle.cmr_base.proofs.Lists.{IsJoined, one_more_first, all_without}
use Rattle.cmr_base.proofs.IncreasingLists.{IsSplitAt, split_at, odd_times, all-odd_times, increases-odd_times}
use Rattle.cmr_base.proofs.ViolatorLemmas.{violator-odd_times}
use Rattle.cmr_base.specs.PlacedPivots.{reduced, pivoted}
use Rattle.ghouila.specs.Pivot.{IsTernaryRow}
use Rattle.ghouila.specs.Found.{HasParity}
use Rattle.ghouila.proofs.PivotSums.{pivoted_at, pivoted_apart}
use Rattle.ghouila.proofs.PivotBack.{violator_after, violator_before}
use Rattle.ghouila.proofs.SignedSums.{signed, entry_zero, zero_or_sign, pivot_sign, pivot_column_vanishes, column_keeps_sum, aside_entry}
use Rattle.ghouila.proofs.Square.{small_or_square, square_violator}
use Rattle.cmr_base.specs.Cuts.{bit}

-- a signing of these rows, as pairs of a row and its sign
pub record SignsPairs (width : ℕ) (M : ℕ → ℕ → ℤ) (R : List ℕ) : Type 0 where
  pub pairs : List (ℕ × ℤ)
  pub rows : map (λ p. p.0) pairs ≡ R
  pub signs : AllByRecursion (λ p. IsSign p.1) pairs
  pub entries : IsTernaryRow width (λ j. signed (λ p. p.1) pairs (λ p. M p.0 j))

-- a violator within these sizes
pub record HasViolatorIn (height width : ℕ) (M : ℕ → ℕ → ℤ) : Type 0 where
  pub rows : List ℕ
  pub columns : List ℕ
  pub rows_in : AllByRecursion (λ i. i < height) rows
  pub columns_in : AllByRecursion (λ j. j < width) columns
  pub violator : IsViolator M rows columns

sum_of_pairs : (pairs : List (ℕ × ℤ)) (R : List ℕ) (f : ℕ → ℤ) → map (λ p. p.0) pairs ≡ R → sum_over pairs (λ p. f p.0) ≡ sum_over R f
sum_of_pairs pairs R f e = sym (sum_over-map (λ p. p.0) pairs f) ∙ ap (λ xs. sum_over xs f) e

-- ---- one row

module _ (height width : ℕ) (M : ℕ → ℕ → ℤ) (r c : ℕ) (u : IsSign (M r c)) (r_in : r < height) (c_in : c < width) (top : IsTernaryRow width (M r)) where
  square_in : (i j : ℕ) → i < height → j < width → IsViolator M (r ∷ i ∷ []) (c ∷ j ∷ []) → HasViolatorIn height width M
  square_in i j i_in j_in v = record { rows = r ∷ i ∷ []; columns = c ∷ j ∷ []; rows_in = (r_in, (i_in, tt)); columns_in = (c_in, (j_in, tt)); violator = v }

  first_columns : (i k : ℕ) → i < height → k ≤ width → IsTernaryRow width (M i) → IsTernaryRow k (reduced M r c i) ⊎ HasViolatorIn height width M
  first_columns i zero i_in k_in h = inl (λ j l. absurd (omega arith))
  first_columns i (suc k) i_in k_in h = elim (first_columns i k i_in (omega arith) h) [
    | inr v ↦ inr v
    | inl below ↦ elim (small_or_square (M r c) (M i c) (M r k) (M i k) u (h c c_in) (top k k_in) (h k k_in)) [
      | inr square ↦ inr (square_in i k i_in k_in (square_violator M r i c k square))
      | inl here ↦ inl (λ j l. more k below here j l)
    ]
  ]
    where
      more : (k : ℕ) → IsTernaryRow k (reduced M r c i) → IsEntry (reduced M r c i k) → (j : ℕ) → j < suc k → IsEntry (reduced M r c i j)
      more k below here j l = elim (cases_lt j k) [
        | inl lt ↦ below j lt
        | inr ge ↦ let e : k ≡ j = omega arith in subst (λ (x : ℕ). IsEntry (reduced M r c i x)) e here
      ]

  small_pivot_entry : (a p : ℤ) → IsSign a → IsEntry p → IsEntry (neg_ℤ (a *ℤ p))
  small_pivot_entry a p (inl e) h = subst IsEntry (ap (λ x. neg_ℤ (x *ℤ p)) (sym e)) (turned p h)
    where
      turned : (p : ℤ) → IsEntry p → IsEntry (neg_ℤ (pos 1 *ℤ p))
      turned p h = let one : pos 1 *ℤ p ≡ p = simp products in record { low = let l = h.high in omega (arith, sums); high = let l = h.low in omega (arith, sums) }
  small_pivot_entry a p (inr e) h = subst IsEntry (ap (λ x. neg_ℤ (x *ℤ p)) (sym e)) (kept p h)
    where
      kept : (p : ℤ) → IsEntry p → IsEntry (neg_ℤ (negsuc 0 *ℤ p))
      kept p h = let one : negsuc 0 *ℤ p ≡ neg_ℤ p = simp products in record { low = let l = h.low in omega (arith, sums); high = let l = h.high in omega (arith, sums) }

  row_after : (i : ℕ) → i < height → IsTernaryRow width (M i) → IsTernaryRow width (pivoted M r c i) ⊎ HasViolatorIn height width M
  row_after i i_in h = elim (first_columns i width i_in (omega arith) h) [
    | inr v ↦ inr v
    | inl small ↦ inl (λ j l. elim (cases_eq j c) [
      | inl e ↦ subst (λ (x : ℕ). IsEntry (pivoted M r c i x)) (sym e) (subst IsEntry (sym (pivoted_at M r c i)) (small_pivot_entry (M r c) (M i c) u (h c c_in)))
      | inr other ↦ subst IsEntry (sym (pivoted_apart M r c i j other)) (small j l)
    ])
  ]

  pub rows_after : (R : List ℕ) → AllByRecursion (λ i. i < height) R → AllByRecursion (λ i. IsTernaryRow width (M i)) R
      → AllByRecursion (λ i. IsTernaryRow width (pivoted M r c i)) R ⊎ HasViolatorIn height width M
  rows_after [] inside h = inl tt
  rows_after (i ∷ R) inside h = elim (row_after i inside.0 h.0) [
    | inr v ↦ inr v
    | inl one ↦ elim (rows_after R inside.1 h.1) [ inr v ↦ inr v | inl all ↦ inl (one, all) ]
  ]

  pub violator_back : HasViolatorIn height width (pivoted M r c) → HasViolatorIn height width M
  violator_back v = go (split_at 0 width c (odd_times v.columns) (increases-odd_times width v.columns v.columns_in))
    where
      R : List ℕ
      R = odd_times v.rows

      D : List ℕ
      D = odd_times v.columns

      rows_in : AllByRecursion (λ i. i < height) (odd_times v.rows)
      rows_in = all-odd_times (λ i. i < height) v.rows v.rows_in

      columns_in : AllByRecursion (λ j. j < width) (odd_times v.columns)
      columns_in = all-odd_times (λ j. j < width) v.columns v.columns_in

      others_in : (t : Bool) (C : List ℕ) → IsJoined t c C (odd_times v.columns) → AllByRecursion (λ j. j < width) C
      others_in true C more = all_without (λ j. j < width) c C (odd_times v.columns) more columns_in
      others_in false C e = subst (AllByRecursion (λ j. j < width)) e columns_in

      go : IsSplitAt c (odd_times v.columns) → HasViolatorIn height width M
      go s = choose (even_or_odd (sum_over (odd_times v.rows) (λ i. M i c))) (even_or_odd (sum_over s.others (M r) +ℤ bit s.there))
        where
          at : (row_in column_in : Bool) (R' C' : List ℕ) → HasParity row_in (sum_over (odd_times v.rows) (λ i. M i c)) → HasParity column_in (sum_over s.others (M r) +ℤ bit s.there)
              → IsJoined row_in r (odd_times v.rows) R' → IsJoined column_in c s.others C' → IsViolator M R' C'
          at row_in column_in R' C' e f join join' =
              violator_before M r c u (odd_times v.rows) s.others (sum_over (odd_times v.rows) (λ i. M i c)) (sum_over s.others (M r) +ℤ bit s.there) row_in column_in R' C' e f join join'
              (violator_after M r c s.there (odd_times v.rows) s.others (odd_times v.columns) u s.joined s.apart (violator-odd_times (pivoted M r c) v.rows v.columns v.violator))

          choose : IsEven (sum_over (odd_times v.rows) (λ i. M i c)) ⊎ IsOdd (sum_over (odd_times v.rows) (λ i. M i c))
              → IsEven (sum_over s.others (M r) +ℤ bit s.there) ⊎ IsOdd (sum_over s.others (M r) +ℤ bit s.there) → HasViolatorIn height width M
          choose (inl e) (inl f) = record {
            rows = odd_times v.rows;
            columns = s.others;
            rows_in = rows_in;
            columns_in = others_in s.there s.others s.joined;
            violator = at false false (odd_times v.rows) s.others e f refl refl;
          }
          choose (inl e) (inr f) = record {
            rows = odd_times v.rows;
            columns = c ∷ s.others;
            rows_in = rows_in;
            columns_in = (c_in, others_in s.there s.others s.joined);
            violator = at false true (odd_times v.rows) (c ∷ s.others) e f refl (one_more_first c s.others);
          }
          choose (inr e) (inl f) = record {
            rows = r ∷ odd_times v.rows;
            columns = s.others;
            rows_in = (r_in, rows_in);
            columns_in = others_in s.there s.others s.joined;
            violator = at true false (r ∷ odd_times v.rows) s.others e f (one_more_first r (odd_times v.rows)) refl;
          }
          choose (inr e) (inr f) = record {
            rows = r ∷ odd_times v.rows;
            columns = c ∷ s.others;
            rows_in = (r_in, rows_in);
            columns_in = (c_in, others_in s.there s.others s.joined);
            violator = at true true (r ∷ odd_times v.rows) (c ∷ s.others) e f (one_more_first r (odd_times v.rows)) (one_more_first c s.others);
          }

  -- the row's sign follows from the signs of the other rows
  pivot_signed : (R : List ℕ) → IsOdd (sum_over R (λ i. M i c)) → SignsPairs width (pivoted M r c) R → SignsPairs width M (r ∷ R)
  pivot_signed R odd s =
      let sign = signed (λ p. p.1) s.pairs (λ p. pivoted M r c p.0 c) in
      record {
        pairs = (r, sign) ∷ s.pairs;
        rows = ap (λ (xs : List ℕ). r ∷ xs) s.rows;
        signs = (
          pivot_sign (λ p. p.1) (λ p. p.0) M r c s.pairs u s.signs (subst IsOdd (sym (sum_of_pairs s.pairs R (λ i. M i c) s.rows)) odd) (s.entries c c_in),
          s.signs,
        );
        entries = λ j l. elim (cases_eq j c) [
          | inl e ↦ subst (λ (x : ℕ). IsEntry (sign *ℤ M r x +ℤ signed (λ p. p.1) s.pairs (λ p. M p.0 x))) (sym e)
              (subst IsEntry (sym (pivot_column_vanishes (λ p. p.1) (λ p. p.0) M r c s.pairs u)) entry_zero)
          | inr other ↦ subst IsEntry (sym (column_keeps_sum (λ p. p.1) (λ p. p.0) M r c s.pairs u j other)) (s.entries j l)
        ];
      }

-- a row is put aside if none of its columns has an odd sum in the other rows
put_aside : (width : ℕ) (M : ℕ → ℕ → ℤ) (r : ℕ) (R : List ℕ) → IsTernaryRow width (M r)
    → ((j : ℕ) → j < width → (M r j ≡ pos 0) ⊎ IsEven (sum_over R (λ i. M i j))) → SignsPairs width M R → SignsPairs width M (r ∷ R)
put_aside width M r R top quiet s = record {
  pairs = (r, pos 1) ∷ s.pairs;
  rows = ap (λ (xs : List ℕ). r ∷ xs) s.rows;
  signs = (inl refl, s.signs);
  entries = λ j l. subst IsEntry (one (M r j) (signed (λ p. p.1) s.pairs (λ p. M p.0 j)))
      (aside_entry (λ p. p.1) s.pairs (λ p. M p.0 j) (M r j) s.signs (top j l) (s.entries j l)
      (subst (λ z. (M r j ≡ pos 0) ⊎ IsEven z) (sym (sum_of_pairs s.pairs R (λ i. M i j) s.rows)) (quiet j l)));
}
  where
    one : (x w : ℤ) → x +ℤ w ≡ pos 1 *ℤ x +ℤ w
    one x w = simp products

-- a column for the pivot
record HasPivot (width : ℕ) (M : ℕ → ℕ → ℤ) (r : ℕ) (R : List ℕ) : Type 0 where
  column : ℕ
  inside : column < width
  sign : IsSign (M r column)
  odd : IsOdd (sum_over R (λ i. M i column))

pivot_or_quiet : (width : ℕ) (M : ℕ → ℕ → ℤ) (r : ℕ) (R : List ℕ) → IsTernaryRow width (M r) → (n : ℕ) → n ≤ width
    → HasPivot width M r R ⊎ ((j : ℕ) → j < n → (M r j ≡ pos 0) ⊎ IsEven (sum_over R (λ i. M i j)))
pivot_or_quiet width M r R top zero n_in = inr (λ j l. absurd (omega arith))
pivot_or_quiet width M r R top (suc n) n_in = elim (pivot_or_quiet width M r R top n (omega arith)) [
  | inl p ↦ inl p
  | inr below ↦ elim (zero_or_sign (M r n) (top n n_in)) [
    | inl z ↦ inr (λ j l. more below (inl z) j l)
    | inr u ↦ elim (even_or_odd (sum_over R (λ i. M i n))) [
      | inl e ↦ inr (λ j l. more below (inr e) j l)
      | inr o ↦ inl (record { column = n; inside = n_in; sign = u; odd = o })
    ]
  ]
]
  where
    more : ((j : ℕ) → j < n → (M r j ≡ pos 0) ⊎ IsEven (sum_over R (λ i. M i j))) → (M r n ≡ pos 0) ⊎ IsEven (sum_over R (λ i. M i n)) → (j : ℕ) → j < suc n
        → (M r j ≡ pos 0) ⊎ IsEven (sum_over R (λ i. M i j))
    more below here j l = elim (cases_lt j n) [
      | inl lt ↦ below j lt
      | inr ge ↦ let e : n ≡ j = omega arith in subst (λ (x : ℕ). (M r x ≡ pos 0) ⊎ IsEven (sum_over R (λ i. M i x))) e here
    ]

pub signed_or_violated : (height width : ℕ) (R : List ℕ) (M : ℕ → ℕ → ℤ) → AllByRecursion (λ i. i < height) R → AllByRecursion (λ i. IsTernaryRow width (M i)) R
    → SignsPairs width M R ⊎ HasViolatorIn height width M
signed_or_violated height width [] M inside h = inl (record { pairs = []; rows = refl; signs = tt; entries = λ j l. entry_zero })
signed_or_violated height width (r ∷ R) M inside h = elim (pivot_or_quiet width M r R h.0 width (omega arith)) [
  | inl p ↦ elim (rows_after height width M r p.column p.sign inside.0 p.inside h.0 R inside.1 h.1) [
    | inr v ↦ inr v
    | inl rows ↦ elim (signed_or_violated height width R (pivoted M r p.column) inside.1 rows) [
      | inr v ↦ inr (violator_back height width M r p.column p.sign inside.0 p.inside h.0 v)
      | inl s ↦ inl (pivot_signed height width M r p.column p.sign inside.0 p.inside h.0 R p.odd s)
    ]
  ]
  | inr quiet ↦ elim (signed_or_violated height width R M inside.1 h.1) [
    | inr v ↦ inr v
    | inl s ↦ inl (put_aside width M r R h.0 quiet s)
  ]
]
