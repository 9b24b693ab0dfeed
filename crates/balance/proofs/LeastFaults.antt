-- The search by the row sets of the matrix, or of the transposed matrix, gives the least balance fault.
use Rattle.std.proofs.Common.{◌^◌, ℕ, Result, Ok, Err, IfOk, inl, inr, refl, arith}
use Rattle.std.proofs.lemmas.Bool.{cases_lt}
use Rattle.cmr_base.specs.Matrix.{Matrix, height, transposed, IsMatrix}
use Rattle.cmr_base.proofs.Parts.{is_matrix-transposed}
use Rattle.leaf_enumerate.specs.declared.search.LeastSubmatrix.{LeastSubmatrix}
use Rattle.leaf_enumerate.specs.declared.search.LeastSubmatrix.TheVariants.{Clean, Found, TooMany}
use Rattle.leaf_enumerate.specs.Searched.{HasSearchedFor}
use Rattle.balance.specs.BalanceFaults.{IsLeastFaultByRows}
use Rattle.balance.specs.CandidateColumns.{MakeFaultAt}
use Rattle.balance.specs.SearchedFaults.{HasSearchedFaults}
use Rattle.balance.proofs.FaultNumbers.{balanced_after}
use Rattle.balance.proofs.FaultSets.{balanced_from_transposed, least_from_transposed}

module _ (m : Matrix) (is : IsMatrix m) (budget : ℕ) where
  of_search : (found : LeastSubmatrix) → HasSearchedFor MakeFaultAt IsLeastFaultByRows m budget found → HasSearchedFaults m budget found
  of_search Clean h = (
    h.0,
    elim (cases_lt m.width (height m)) [
      | inl tall ↦ balanced_from_transposed m is (balanced_after (transposed m) (is_matrix-transposed m is) (2 ^ height (transposed m)) refl (h.1.few_columns tall))
      | inr flat ↦ balanced_after m is (2 ^ height m) refl (h.1.few_rows (omega (arith, flat)))
    ],
  )
  of_search (Found lines) h = (
    h.0,
    record {
      few_rows = h.1.few_rows;
      few_columns = λ tall. least_from_transposed m lines.rows lines.columns is (h.1.few_columns tall);
    },
  )
  of_search (TooMany shorter) h = h

  pub searched : {E : Type 0} (result : Result LeastSubmatrix E) → IfOk result (HasSearchedFor MakeFaultAt IsLeastFaultByRows m budget) → IfOk result (HasSearchedFaults m budget)
  searched (Ok found) h = of_search found h
  searched (Err e) h = tt
