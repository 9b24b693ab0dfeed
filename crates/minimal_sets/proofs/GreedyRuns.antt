-- Greedy sets: many lines are removed at once.
use Rattle.std.proofs.Common.{◌++◌, inl, inr, ℕ, List, [], ◌∷◌, refl, subst}
use Rattle.std.specs.List.Sorted.{IsStrictlyIncreasing}
use Rattle.cmr_base.specs.declared.line.Line.{Line}
use Rattle.cmr_base.specs.Matrix.{Matrix}
use Rattle.cmr_base.specs.LineSets.{submatrix}
use Rattle.cmr_base.specs.Reductions.{rows_without, columns_without}
use Rattle.cmr_base.specs.GreedySets.{IsGreedyFrom}
use Rattle.cmr_base.proofs.Members.{IsWithin}
use Rattle.cmr_base.proofs.RemovedLines.{rows_increase, columns_increase, rows_within, columns_within}
use Rattle.cmr_base.proofs.GreedyLemmas.{IsInherited}
use Rattle.minimal_sets.specs.LeftOut.{rows_left, columns_left}

pub rows_left-increase : (lines : List Line) (rows : List ℕ) → IsStrictlyIncreasing rows → IsStrictlyIncreasing (rows_left rows lines)
rows_left-increase [] rows increases = increases
rows_left-increase (line ∷ lines) rows increases = rows_left-increase lines (rows_without rows line) (rows_increase line rows increases)

pub columns_left-increase : (lines : List Line) (columns : List ℕ) → IsStrictlyIncreasing columns → IsStrictlyIncreasing (columns_left columns lines)
columns_left-increase [] columns increases = increases
columns_left-increase (line ∷ lines) columns increases = columns_left-increase lines (columns_without columns line) (columns_increase line columns increases)

pub rows_left-within : (lines : List Line) (rows : List ℕ) → IsWithin (rows_left rows lines) rows
rows_left-within [] rows x h = h
rows_left-within (line ∷ lines) rows x h = rows_within line rows x (rows_left-within lines (rows_without rows line) x h)

pub columns_left-within : (lines : List Line) (columns : List ℕ) → IsWithin (columns_left columns lines) columns
columns_left-within [] columns x h = h
columns_left-within (line ∷ lines) columns x h = columns_within line columns x (columns_left-within lines (columns_without columns line) x h)

module _ (P : Matrix → Type 0) (m : Matrix) where
  -- one pass followed by another pass
  pub greedy-append : (xs ys : List Line) (R C R₁ C₁ R₂ C₂ : List ℕ) → IsGreedyFrom P m xs R C R₁ C₁ → IsGreedyFrom P m ys R₁ C₁ R₂ C₂ → IsGreedyFrom P m (xs ++ ys) R C R₂ C₂
  greedy-append [] ys R C R₁ C₁ R₂ C₂ (r, c) next = subst (λ (rows : List ℕ). IsGreedyFrom P m ys rows C R₂ C₂) r (subst (λ (columns : List ℕ). IsGreedyFrom P m ys R₁ columns R₂ C₂) c next)
  greedy-append (x ∷ xs) ys R C R₁ C₁ R₂ C₂ (inl (p, g)) next = inl (p, greedy-append xs ys R C R₁ C₁ R₂ C₂ g next)
  greedy-append (x ∷ xs) ys R C R₁ C₁ R₂ C₂ (inr (p, g)) next = inr (p, greedy-append xs ys (rows_without R x) (columns_without C x) R₁ C₁ R₂ C₂ g next)

  -- if lines can be removed together, each line can be removed in turn
  pub greedy_left : IsInherited P m → (lines : List Line) (R C : List ℕ) → IsStrictlyIncreasing R → IsStrictlyIncreasing C → ¬ P (submatrix m (rows_left R lines) (columns_left C lines))
      → IsGreedyFrom P m lines R C (rows_left R lines) (columns_left C lines)
  greedy_left inherits [] R C r c lacks = (refl, refl)
  greedy_left inherits (x ∷ xs) R C r c lacks =
      let R' = rows_without R x in
      let C' = columns_without C x in
      let r' = rows_increase x R r in
      let c' = columns_increase x C c in
      inr (
        (λ p. lacks (inherits R' C' (rows_left R' xs) (columns_left C' xs) r' c' (rows_left-increase xs R' r') (columns_left-increase xs C' c') (rows_left-within xs R') (columns_left-within xs C') p)),
        greedy_left inherits xs R' C' r' c' lacks,
      )

  -- a line that cannot be removed remains
  pub greedy_kept : (line : Line) (R C : List ℕ) → P (submatrix m (rows_without R line) (columns_without C line)) → IsGreedyFrom P m (line ∷ []) R C R C
  greedy_kept line R C p = inl (p, (refl, refl))
