-- Row sets in the order of their numbers, and faults of the transposed matrix.
use Rattle.std.proofs.Common.{◌≡◌, ◌<◌, ◌≤◌, ◌+◌, ◌^◌, ◌∙◌, ℕ, ℤ, List, ap, subst, sym, inl, inr, arith}
use Rattle.std.proofs.lemmas.Bool.{cases_lt}
use Rattle.cmr_base.specs.Matrix.{Matrix, height, entry, transposed, IsMatrix}
use Rattle.cmr_base.specs.LineSets.{set_number, set_numbered}
use Rattle.cmr_base.specs.Sums.{IsTwoModFour}
use Rattle.cmr_base.proofs.IncreasingLists.{row_set_increases}
use Rattle.cmr_base.proofs.SetNumbers.{number_of_numbered, numbered_same, row_set-numbered, set_number-lt}
use Rattle.cmr_base.proofs.SumLaws.{sum_over-exchange}
use Rattle.cmr_base.proofs.TransposedLemmas.{entries-transposed, row_set-transposed, column_set_from_transposed, column_set-transposed, row_set_from_transposed}
use Rattle.balance.specs.BalanceFaults.{IsBalanceFault, IsBalanced, HasNoFaultColumns, IsLeastFaultColumns, IsLeastFaultByRows, IsLeastFaultByColumns}
use Rattle.balance.specs.SearchedFaults.{HasNoFaultBelow}

pub none_more : (m : Matrix) (number : ℕ) → HasNoFaultColumns m (set_numbered (height m) 0 number) → HasNoFaultBelow m number → HasNoFaultBelow m (number + 1)
none_more m number none before others is h = elim (cases_lt (set_number others) number) [
  | inl less ↦ before others is less
  | inr past ↦
      let same : number ≡ set_number others = omega arith in
      let here : set_numbered (height m) 0 number ≡ others = ap (set_numbered (height m) 0) same ∙ numbered_same (height m) others (row_set_increases m others is) in
      subst (HasNoFaultColumns m) here none
]

pub none_at_all : (m : Matrix) (number : ℕ) → 2 ^ height m ≤ number → HasNoFaultBelow m number → IsBalanced m
none_at_all m number end before rows columns row_set column_set f =
    before rows row_set (omega (arith, set_number-lt (height m) rows (row_set_increases m rows row_set))) columns column_set f

pub least_found : (m : Matrix) (number : ℕ) (columns : List ℕ) → number < 2 ^ height m → HasNoFaultBelow m number
    → IsLeastFaultColumns m (set_numbered (height m) 0 number) columns → IsLeastFaultByRows m (set_numbered (height m) 0 number) columns
least_found m number columns small before least = record {
  row_set = row_set-numbered m number;
  columns_least = least;
  rows_least = λ others columns' row_set column_set f. elim (cases_lt (set_number others) number) [
    | inl less ↦ absurd (before others row_set less columns' column_set f)
    | inr past ↦ omega (arith, number_of_numbered (height m) number small)
  ];
}

-- ---- the transposed matrix

fault_swapped : (M : ℕ → ℕ → ℤ) (rows columns : List ℕ) → IsBalanceFault M rows columns → IsBalanceFault (λ column row. M row column) columns rows
fault_swapped M rows columns f = record {
  two_in_rows = f.two_in_columns;
  two_in_columns = f.two_in_rows;
  two_mod_four = subst IsTwoModFour (sum_over-exchange rows columns M) f.two_mod_four;
}

fault_from_transposed : (m : Matrix) (rows columns : List ℕ) → IsMatrix m → IsBalanceFault (entry (transposed m)) columns rows → IsBalanceFault (entry m) rows columns
fault_from_transposed m rows columns is f = fault_swapped (λ column row. entry m row column) columns rows (subst (λ (M : ℕ → ℕ → ℤ). IsBalanceFault M columns rows) (entries-transposed m is) f)

fault_of_transposed : (m : Matrix) (rows columns : List ℕ) → IsMatrix m → IsBalanceFault (entry m) rows columns → IsBalanceFault (entry (transposed m)) columns rows
fault_of_transposed m rows columns is f = subst (λ (M : ℕ → ℕ → ℤ). IsBalanceFault M columns rows) (sym (entries-transposed m is)) (fault_swapped (entry m) rows columns f)

pub balanced_from_transposed : (m : Matrix) → IsMatrix m → IsBalanced (transposed m) → IsBalanced m
balanced_from_transposed m is none rows columns row_set column_set f =
    none columns rows (row_set-transposed m columns column_set) (column_set-transposed m rows row_set) (fault_of_transposed m rows columns is f)

pub least_from_transposed : (m : Matrix) (rows columns : List ℕ) → IsMatrix m → IsLeastFaultByRows (transposed m) columns rows → IsLeastFaultByColumns m rows columns
least_from_transposed m rows columns is least = record {
  column_set = column_set_from_transposed m columns least.row_set;
  rows_least = record {
    row_set = row_set_from_transposed m rows least.columns_least.column_set;
    fault = fault_from_transposed m rows columns is least.columns_least.fault;
    least = λ others row_set f. least.columns_least.least others (column_set-transposed m others row_set) (fault_of_transposed m others columns is f);
  };
  columns_least = λ rows' others row_set column_set f. least.rows_least others rows' (row_set-transposed m others column_set) (column_set-transposed m rows' row_set) (fault_of_transposed m rows' others is f);
}
