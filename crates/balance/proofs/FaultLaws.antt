-- Balance faults are violators, and the cycle fault is a balance fault.
use Rattle.std.proofs.Common.{◌≡◌, ◌<◌, ◌∙◌, inl, inr, ℕ, zero, suc, ℤ, pos, ◌+ℤ◌, ◌∷◌, map, refl, ap, sym, subst, arith}
use Rattle.std.specs.List.{AllByRecursion}
use Rattle.std.proofs.lemmas.Bool.{cases_lt}
use Rattle.cmr_base.specs.Matrix.{height, entry}
use Rattle.cmr_base.specs.Signing.{IsSign}
use Rattle.cmr_base.specs.CyclePlaces.{cycle_rows, cycle_columns}
use Rattle.cmr_base.specs.Sums.{sum_over, IsEven, IsTwoModFour}
use Rattle.cmr_base.proofs.Lists.{all_of, all_weaker}
use Rattle.cmr_base.proofs.Members.{all_in, all_of_members, increasing_are_distinct, sum_over_members}
use Rattle.cmr_base.proofs.IncreasingLists.{row_set_increases, column_set_increases}
use Rattle.cmr_base.proofs.SumLaws.{sum_over-map, sum_over_same}
use Rattle.ghouila.proofs.Cycles.{IsCycle, below, one_term, two_terms}
use Rattle.ghouila.proofs.Routes.{Route, route, place_cycle, rows_apart, columns_apart}
use Rattle.balance.specs.BalanceFaults.{row_nonzeros, column_nonzeros, IsBalanceFault}
use Rattle.balance.specs.Laws.{FreeIsBalanced, CycleFaultsAreBalanceFaults}
use Rattle.balance.proofs.NonzeroCounts.{mark, mark_zero, mark_sign, two_from_sum, two_is_even}

pub free_is_balanced : FreeIsBalanced
free_is_balanced m is free rows columns row_set column_set f = free rows columns row_set column_set (record {
  even_rows = all_weaker (λ i. row_nonzeros (entry m) columns i ≡ 2) (λ i. IsEven (sum_over columns (λ j. entry m i j))) (λ i e. two_is_even (λ j. entry m i j) (λ j. is.small i j) columns e) rows f.two_in_rows;
  even_columns = all_weaker (λ j. column_nonzeros (entry m) rows j ≡ 2) (λ j. IsEven (sum_over rows (λ i. entry m i j))) (λ j e. two_is_even (λ i. entry m i j) (λ i. is.small i j) rows e) columns f.two_in_columns;
  two_mod_four = f.two_mod_four;
})

-- ---- the lines of a cycle without chords have two nonzeros

two_signs : (x y : ℤ) → IsSign x → IsSign y → mark x +ℤ mark y ≡ pos 2
two_signs x y u v = rw (mark_sign x u, mark_sign y v) refl

module _ (M : ℕ → ℕ → ℤ) (t k : ℕ) (row col : ℕ → ℕ) (c : IsCycle M t k row col) where
  pub inner_row_two : (i : ℕ) → i < k → sum_over (map col (below (suc k))) (λ j. mark (M (row i) j)) ≡ pos 2
  inner_row_two i l = sum_over-map col (below (suc k)) (λ j. mark (M (row i) j))
      ∙ two_terms (λ j. mark (M (row i) (col j))) (suc k) i (omega arith) (λ j m d e. mark_zero (M (row i) (col j)) (c.none i j l (omega arith) d e))
      ∙ two_signs (M (row i) (col (suc i))) (M (row i) (col i)) (c.next i l) (c.here i l)

  pub last_row_two : sum_over (map col (below (suc k))) (λ j. mark (M t j)) ≡ pos 2
  last_row_two = sum_over-map col (below (suc k)) (λ j. mark (M t j))
      ∙ ap (λ (z : ℤ). mark (M t (col k)) +ℤ z) (one_term (λ j. mark (M t (col j))) k 0 c.long (λ j m d. mark_zero (M t (col j)) (c.inner j (omega arith) m)))
      ∙ two_signs (M t (col k)) (M t (col 0)) c.last c.first

  column_first_two : sum_over (t ∷ map row (below k)) (λ i. mark (M i (col 0))) ≡ pos 2
  column_first_two = let l : 0 < k = c.long in
      ap (λ (z : ℤ). mark (M t (col 0)) +ℤ z) (sum_over-map row (below k) (λ i. mark (M i (col 0))) ∙ one_term (λ i. mark (M (row i) (col 0))) k 0 l (λ j m d. mark_zero (M (row j) (col 0)) (c.none j 0 m (omega arith) (omega arith) (omega arith))))
      ∙ two_signs (M t (col 0)) (M (row 0) (col 0)) c.first (c.here 0 l)

  pub column_two : (j : ℕ) → j < suc k → sum_over (t ∷ map row (below k)) (λ i. mark (M i (col j))) ≡ pos 2
  column_two zero l = column_first_two
  column_two (suc j) l = elim (cases_lt (suc j) k) [
    | inl lt ↦
        ap (λ (z : ℤ). z +ℤ sum_over (map row (below k)) (λ i. mark (M i (col (suc j))))) (mark_zero (M t (col (suc j))) (c.inner (suc j) (omega arith) lt))
        ∙ ap (λ (z : ℤ). pos 0 +ℤ z) (sum_over-map row (below k) (λ i. mark (M i (col (suc j))))
        ∙ two_terms (λ i. mark (M (row i) (col (suc j)))) k j lt (λ i m d e. mark_zero (M (row i) (col (suc j))) (c.none i (suc j) m (omega arith) (omega arith) (omega arith)))
        ∙ two_signs (M (row (suc j)) (col (suc j))) (M (row j) (col (suc j))) (c.here (suc j) lt) (c.next j (omega arith)))
    | inr ge ↦ let e : suc j ≡ k = omega arith in
        ap (λ (z : ℤ). mark (M t (col (suc j))) +ℤ z) (sum_over-map row (below k) (λ i. mark (M i (col (suc j))))
        ∙ one_term (λ i. mark (M (row i) (col (suc j)))) k j (omega arith) (λ i m d. mark_zero (M (row i) (col (suc j))) (c.none i (suc j) m (omega arith) (omega arith) (omega arith))))
        ∙ two_signs (M t (col (suc j))) (M (row j) (col (suc j))) (subst (λ (x : ℕ). IsSign (M t (col x))) (sym e) c.last) (c.next j (omega arith))
  ]

pub cycle_fault_unbalanced : CycleFaultsAreBalanceFaults
cycle_fault_unbalanced m is R C f = go (route (entry m) is.small f.row f.first_column f.last_column f.path f.fault.place.is_path)
  where
    go : Route (entry m) is.small f.row f.first_column f.last_column f.path → IsBalanceFault (entry m) R C
    go q = record {
      two_in_rows = all_of_members (λ i. row_nonzeros (entry m) C i ≡ 2) R
          (λ i h. two_from_sum (λ j. entry m i j) C (columns (λ j. mark (entry m i j)) ∙ all_in (λ x. sum_over (cycle_columns f.first_column f.last_column f.path) (λ j. mark (entry m x j)) ≡ pos 2) (cycle_rows f.row f.path) rows_two i ((f.rows_are i).0 h)));
      two_in_columns = all_of_members (λ j. column_nonzeros (entry m) R j ≡ 2) C
          (λ j h. two_from_sum (λ i. entry m i j) R (rows (λ i. mark (entry m i j)) ∙ all_in (λ x. sum_over (cycle_rows f.row f.path) (λ i. mark (entry m i x)) ≡ pos 2) (cycle_columns f.first_column f.last_column f.path) columns_two j ((f.columns_are j).0 h)));
      two_mod_four = subst IsTwoModFour (sym (rows (λ i. sum_over C (λ j. entry m i j)) ∙ sum_over_same (cycle_rows f.row f.path) (λ i. sum_over C (λ j. entry m i j)) (λ i. sum_over (cycle_columns f.first_column f.last_column f.path) (λ j. entry m i j)) (all_of _ (λ i. columns (λ j. entry m i j)) (cycle_rows f.row f.path)))) f.fault.two_mod_four;
    }
      where
        cycle : IsCycle (entry m) f.row q.k q.way.row q.way.col
        cycle = place_cycle (entry m) is.small f.row f.first_column f.last_column f.path f.fault.place q

        rows : (g : ℕ → ℤ) → sum_over R g ≡ sum_over (cycle_rows f.row f.path) g
        rows g = sum_over_members R (cycle_rows f.row f.path) g (increasing_are_distinct 0 (height m) R (row_set_increases m R f.row_set)) (rows_apart (entry m) is.small f.row f.first_column f.last_column f.path f.fault.place q) (λ i. (f.rows_are i).0) (λ i. (f.rows_are i).1)

        columns : (g : ℕ → ℤ) → sum_over C g ≡ sum_over (cycle_columns f.first_column f.last_column f.path) g
        columns g = sum_over_members C (cycle_columns f.first_column f.last_column f.path) g (increasing_are_distinct 0 m.width C (column_set_increases m C f.column_set)) (columns_apart (entry m) is.small f.row f.first_column f.last_column f.path f.fault.place q) (λ j. (f.columns_are j).0) (λ j. (f.columns_are j).1)

        row_sum : (i : ℕ) → sum_over (cycle_columns f.first_column f.last_column f.path) (λ j. mark (entry m i j)) ≡ sum_over (map q.way.col (below (suc q.k))) (λ j. mark (entry m i j))
        row_sum i = q.columns_are (λ j. mark (entry m i j)) ∙ sym (sum_over-map q.way.col (below (suc q.k)) (λ j. mark (entry m i j)))

        column_sum : (j : ℕ) → sum_over (cycle_rows f.row f.path) (λ i. mark (entry m i j)) ≡ sum_over (f.row ∷ map q.way.row (below q.k)) (λ i. mark (entry m i j))
        column_sum j = ap (λ (z : ℤ). mark (entry m f.row j) +ℤ z) (q.rows_are (λ i. mark (entry m i j)) ∙ sym (sum_over-map q.way.row (below q.k) (λ i. mark (entry m i j))))

        rows_two : AllByRecursion (λ i. sum_over (cycle_columns f.first_column f.last_column f.path) (λ j. mark (entry m i j)) ≡ pos 2) (cycle_rows f.row f.path)
        rows_two = (
          row_sum f.row ∙ last_row_two (entry m) f.row q.k q.way.row q.way.col cycle,
          q.rows_all (λ i. sum_over (cycle_columns f.first_column f.last_column f.path) (λ j. mark (entry m i j)) ≡ pos 2) (λ i l. row_sum (q.way.row i) ∙ inner_row_two (entry m) f.row q.k q.way.row q.way.col cycle i l),
        )

        columns_two : AllByRecursion (λ j. sum_over (cycle_rows f.row f.path) (λ i. mark (entry m i j)) ≡ pos 2) (cycle_columns f.first_column f.last_column f.path)
        columns_two = q.columns_all (λ j. sum_over (cycle_rows f.row f.path) (λ i. mark (entry m i j)) ≡ pos 2) (λ j l. column_sum (q.way.col j) ∙ column_two (entry m) f.row q.k q.way.row q.way.col cycle j l)
