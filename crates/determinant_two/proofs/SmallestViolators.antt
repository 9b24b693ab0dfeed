-- A smallest square submatrix with determinant 2 or -2 is a violator, and it contains no other violator.
use Rattle.std.proofs.Common.{◌≡◌, ◌≢◌, ◌<◌, ◌⊎◌, inl, inr, ◌+◌, ℕ, Bool, true, false, ℤ, pos, negsuc, ◌+ℤ◌, List, [], ◌∷◌, length, refl, sym, subst, arith}
use Rattle.std.specs.List.{AllByRecursion}
use Rattle.cmr_base.specs.Cuts.{bit}
use Rattle.cmr_base.specs.PlacedPivots.{reduced, pivoted}
use Rattle.cmr_base.specs.Signing.{IsSign}
use Rattle.cmr_base.specs.Sums.{sum_over, IsEven, IsOdd, IsTwoModFour}
use Rattle.cmr_base.specs.Violator.{IsViolator}
use Rattle.cmr_base.proofs.IncreasingLists.{IncreasesIn, increasing_apart}
use Rattle.cmr_base.proofs.Lists.{HasOneMore, IsJoined, one_more_first, all_of, all_weaker, all_both}
use Rattle.cmr_base.proofs.Parity.{even_or_odd}
use Rattle.cmr_base.proofs.SignEntries.{sign_is_entry, zero_is_entry}
use Rattle.cmr_base.proofs.SumLaws.{sum_over_same}
use Rattle.ghouila.specs.Found.{HasParity}
use Rattle.ghouila.proofs.Expansions.{expansion_zero_column, minor}
use Rattle.ghouila.proofs.Fractions.{HasSmallerMinorsOn}
use Rattle.ghouila.proofs.Minors.{one_minor, no_violator_by_minors}
use Rattle.ghouila.proofs.PivotBack.{violator_after, violator_before}
use Rattle.ghouila.proofs.PivotSums.{pivoted_apart}
use Rattle.ghouila.proofs.Sublists.{IsSublist, length-one_more, zeros_or_sign}
use Rattle.determinant_two.specs.DeterminantTwo.{IsTwo}
use Rattle.determinant_two.proofs.SearchedSublists.{sublist_whole, sublist_of_sublist, sublist_fewer, sublist_short}
use Rattle.determinant_two.proofs.SmallestMinors.{two_not_entry, two_after, smaller_after, entries_below}

pub no_smaller_violator : (M : ℕ → ℕ → ℤ) (R C P Q : List ℕ) → HasSmallerMinorsOn M R C → IsSublist P R → IsSublist Q C → (length P < length C) ⊎ (length Q < length C) → IsViolator M P Q → ⊥
no_smaller_violator M R C P Q minors h k fewer v = no_violator_by_minors Q P M
    (λ P' Q' h' k' e. minors P' Q' (sublist_of_sublist R P P' h h') (sublist_of_sublist C Q Q' k k') e (below P' Q' h' k' e fewer)) v
  where
    below : (P' Q' : List ℕ) → IsSublist P' P → IsSublist Q' Q → length P' ≡ length Q' → (length P < length C) ⊎ (length Q < length C) → length Q' < length C
    below P' Q' h' k' e (inl l) = let short = sublist_short P P' h' in omega (arith, short)
    below P' Q' h' k' e (inr l) = let short = sublist_short Q Q' k' in omega (arith, short)

-- a single 2 or -2
two_alone : (M : ℕ → ℕ → ℤ) (r c : ℕ) → IsTwo (M r c) → IsViolator M (r ∷ []) (c ∷ [])
two_alone M r c two = record {
  even_rows = (even (M r c) two, tt);
  even_columns = (even (M r c) two, tt);
  two_mod_four = total (M r c) two;
}
  where
    even : (z : ℤ) → IsTwo z → IsEven (z +ℤ pos 0)
    even z (inl e) = (pos 1, rw e refl)
    even z (inr e) = (negsuc 0, rw e refl)

    total : (z : ℤ) → IsTwo z → IsTwoModFour ((z +ℤ pos 0) +ℤ pos 0)
    total z (inl e) = (pos 0, rw e refl)
    total z (inr e) = (negsuc 0, rw e refl)

-- ---- a violator after a pivot, and before it

violator_pivoted : (M : ℕ → ℕ → ℤ) (r c : ℕ) (R C : List ℕ) → AllByRecursion (λ j. j ≢ c) C → IsViolator (reduced M r c) R C → IsViolator (pivoted M r c) R C
violator_pivoted M r c R C apart v = record {
  even_rows = all_weaker (λ i. IsEven (sum_over C (reduced M r c i))) (λ i. IsEven (sum_over C (pivoted M r c i))) (λ i e. subst IsEven (sym (same_row i)) e) R v.even_rows;
  even_columns = all_both (λ j. j ≢ c) (λ j. IsEven (sum_over R (λ i. reduced M r c i j))) (λ j. IsEven (sum_over R (λ i. pivoted M r c i j)))
      (λ j other e. subst IsEven (sym (same_column j other)) e) C apart v.even_columns;
  two_mod_four = subst IsTwoModFour
      (sym (sum_over_same R (λ i. sum_over C (pivoted M r c i)) (λ i. sum_over C (reduced M r c i))
      (all_of (λ i. sum_over C (pivoted M r c i) ≡ sum_over C (reduced M r c i)) same_row R)))
      v.two_mod_four;
}
  where
    same_row : (i : ℕ) → sum_over C (pivoted M r c i) ≡ sum_over C (reduced M r c i)
    same_row i = sum_over_same C (pivoted M r c i) (reduced M r c i)
        (all_weaker (λ j. j ≢ c) (λ j. pivoted M r c i j ≡ reduced M r c i j) (λ j other. pivoted_apart M r c i j other) C apart)

    same_column : (j : ℕ) → j ≢ c → sum_over R (λ i. pivoted M r c i j) ≡ sum_over R (λ i. reduced M r c i j)
    same_column j other = sum_over_same R (λ i. pivoted M r c i j) (λ i. reduced M r c i j)
        (all_of (λ i. pivoted M r c i j ≡ reduced M r c i j) (λ i. pivoted_apart M r c i j other) R)

-- a violator on all other lines after a pivot: before it the violator needs the pivot's lines too
violator_with_pivot : (M : ℕ → ℕ → ℤ) (r c : ℕ) (others R C : List ℕ) → IsSign (M r c) → HasOneMore r others R → length R ≡ length (c ∷ C) → AllByRecursion (λ j. j ≢ c) C
    → HasSmallerMinorsOn M R (c ∷ C) → IsViolator (reduced M r c) others C → IsViolator M R (c ∷ C)
violator_with_pivot M r c others R C u more e apart minors v = choose (even_or_odd (sum_over others (λ i. M i c))) (even_or_odd (sum_over C (M r) +ℤ bit false))
  where
    at : (row_in column_in : Bool) (P Q : List ℕ) → HasParity row_in (sum_over others (λ i. M i c)) → HasParity column_in (sum_over C (M r) +ℤ bit false)
        → IsJoined row_in r others P → IsJoined column_in c C Q → IsViolator M P Q
    at row_in column_in P Q row_parity column_parity row_join column_join =
        violator_before M r c u others C (sum_over others (λ i. M i c)) (sum_over C (M r) +ℤ bit false) row_in column_in P Q row_parity column_parity row_join column_join
        (violator_after M r c false others C C u refl apart (violator_pivoted M r c others C apart v))

    fewer_rows : length others < length (c ∷ C)
    fewer_rows = let one_more = length-one_more r others R more in omega (arith, one_more, e)

    choose : IsEven (sum_over others (λ i. M i c)) ⊎ IsOdd (sum_over others (λ i. M i c)) → IsEven (sum_over C (M r) +ℤ bit false) ⊎ IsOdd (sum_over C (M r) +ℤ bit false)
        → IsViolator M R (c ∷ C)
    choose (inl g) (inl h) = absurd (no_smaller_violator M R (c ∷ C) others C minors (sublist_fewer r others R more) (inl (sublist_whole C)) (inl fewer_rows) (at false false others C g h refl refl))
    choose (inl g) (inr h) = absurd (no_smaller_violator M R (c ∷ C) others (c ∷ C) minors (sublist_fewer r others R more) (sublist_whole (c ∷ C)) (inl fewer_rows)
        (at false true others (c ∷ C) g h refl (one_more_first c C)))
    choose (inr g) (inl h) = absurd (no_smaller_violator M R (c ∷ C) R C minors (sublist_whole R) (inl (sublist_whole C)) (inr (omega arith)) (at true false R C g h more refl))
    choose (inr g) (inr h) = at true true R (c ∷ C) g h more (one_more_first c C)

pub two_violates : (C R : List ℕ) (low high : ℕ) (M : ℕ → ℕ → ℤ) → IncreasesIn low high C → length R ≡ length C → HasSmallerMinorsOn M R C → IsTwo (minor M C R) → IsViolator M R C
two_violates [] [] low high M increases e minors two = absurd (two_not_entry (pos 1) two (sign_is_entry (pos 1) (inl refl)))
two_violates [] (r ∷ R) low high M increases e minors two = absurd (omega arith)
two_violates (c ∷ []) [] low high M increases e minors two = absurd (omega arith)
two_violates (c ∷ []) (r ∷ []) low high M increases e minors two = two_alone M r c (subst IsTwo (one_minor M r c) two)
two_violates (c ∷ []) (r ∷ s ∷ R) low high M increases e minors two = absurd (omega arith)
two_violates (c ∷ d ∷ C) R low high M increases e minors two = elim (zeros_or_sign (λ i. M i c) R (entries_below M R c d C minors)) [
  | inl zeros ↦ absurd (two_not_entry (pos 0) (subst IsTwo (expansion_zero_column (λ i. M i c) (minor M (d ∷ C)) R zeros) two) zero_is_entry)
  | inr s ↦ violator_with_pivot M s.row c s.others R (d ∷ C) s.sign s.more e (increasing_apart (c + 1) high c (d ∷ C) (omega arith) increases.2) minors
      (two_violates (d ∷ C) s.others (c + 1) high (reduced M s.row c) increases.2 (let one_more = length-one_more s.row s.others R s.more in omega arith)
      (smaller_after M s.row c s.others R (d ∷ C) s.sign s.more minors) (two_after M s.row c (d ∷ C) s.others R s.sign s.more two))
]
