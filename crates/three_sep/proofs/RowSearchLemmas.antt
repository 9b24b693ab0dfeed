-- The matrix and the row of a search do not change.
use Rattle.std.proofs.Common.{◌∙◌, ◌∷◌, ℕ, List, Option, subst, sym}
use Rattle.cmr_base.specs.Matrix.{Matrix}
use Rattle.cmr_base.specs.declared.separation.Three.{Three}
use Rattle.three_sep.specs.declared.row_search.RowSearch.{RowSearch}
use Rattle.three_sep.specs.Concentrated.{AreCandidates}
use Rattle.three_sep.specs.RowSearches.{IsRowSearchOf}
use Rattle.three_sep.specs.Searches.{IsFoundSeparation}

module _ (m : Matrix) (i : ℕ) (search : RowSearch) (is : IsRowSearchOf m i search) where
  -- a statement about the search's matrix and row is one about m and i, and the other way round
  pub to_row : (P : Matrix → ℕ → Type 0) → P search.matrix.now search.row → P m i
  to_row P h = subst (λ (n : Matrix). P n i) is.matrix_is (subst (λ (x : ℕ). P search.matrix.now x) is.row_is h)

  pub from_row : (P : Matrix → ℕ → Type 0) → P m i → P search.matrix.now search.row
  from_row P h = subst (λ (n : Matrix). P n search.row) (sym is.matrix_is) (subst (λ (x : ℕ). P m x) (sym is.row_is) h)

  pub same_row : (after : RowSearch) → IsRowSearchOf search.matrix.now search.row after → IsRowSearchOf m i after
  same_row after same = record { matrix_is = same.matrix_is ∙ is.matrix_is; row_is = same.row_is ∙ is.row_is }

  pub found_in_row : (rest : List ℕ) (found : Option Three) → IsFoundSeparation search.matrix.now (3 ∷ search.row ∷ rest) found → IsFoundSeparation m (3 ∷ i ∷ rest) found
  found_in_row rest found = to_row (λ n x. IsFoundSeparation n (3 ∷ x ∷ rest) found)

  pub candidates_in_row : AreCandidates m i search.candidates
  candidates_in_row = to_row (λ n x. AreCandidates n x search.candidates) search.are_candidates
