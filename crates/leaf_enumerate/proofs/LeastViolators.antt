-- The search by the row sets of the matrix, or of the transposed matrix, gives the least violator.
use Rattle.std.proofs.Common.{◌^◌, ℕ, Result, Ok, Err, IfOk, inl, inr, refl, arith}
use Rattle.std.proofs.lemmas.Bool.{cases_lt}
use Rattle.cmr_base.specs.Matrix.{Matrix, height, transposed, IsMatrix}
use Rattle.cmr_base.specs.Violator.{IsLeastByRows}
use Rattle.cmr_base.proofs.TransposedLemmas.{least_from_transposed, none_from_transposed}
use Rattle.leaf_enumerate.specs.declared.search.LeastSubmatrix.{LeastSubmatrix}
use Rattle.leaf_enumerate.specs.declared.search.LeastSubmatrix.TheVariants.{Clean, Found, TooMany}
use Rattle.leaf_enumerate.specs.RowSets.{HasColumnSet}
use Rattle.leaf_enumerate.specs.Searched.{HasSearched, HasSearchedFor}
use Rattle.leaf_enumerate.proofs.RowSets.{none_at_all}

module _ (m : Matrix) (is : IsMatrix m) (budget : ℕ) where
  of_search : (found : LeastSubmatrix) → HasSearchedFor HasColumnSet IsLeastByRows m budget found → HasSearched m budget found
  of_search Clean h = (
    h.0,
    elim (cases_lt m.width (height m)) [
      | inl tall ↦ none_from_transposed m is (none_at_all (transposed m) (2 ^ height (transposed m)) refl (h.1.few_columns tall))
      | inr flat ↦ none_at_all m (2 ^ height m) refl (h.1.few_rows (omega (arith, flat)))
    ],
  )
  of_search (Found lines) h = (
    h.0,
    record {
      few_rows = h.1.few_rows;
      few_columns = λ tall. least_from_transposed m lines.rows lines.columns is (h.1.few_columns tall);
    },
  )
  of_search (TooMany shorter) h = h

  pub searched : {E : Type 0} (result : Result LeastSubmatrix E) → IfOk result (HasSearchedFor HasColumnSet IsLeastByRows m budget) → IfOk result (HasSearched m budget)
  searched (Ok found) h = of_search found h
  searched (Err e) h = tt
