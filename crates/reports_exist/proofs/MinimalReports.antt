-- A matrix without a property has a greedy set of lines.
use Rattle.std.proofs.Common.{inl, inr, ℕ, List, [], ◌∷◌, Option, Some, None, refl}
use Rattle.cmr_base.specs.declared.line.Line.{Line}
use Rattle.cmr_base.specs.declared.line_set.LineSet.{LineSet}
use Rattle.cmr_base.specs.GreedySets.{IsGreedyFrom, IsGreedySet, IsMinimalWithout}
use Rattle.cmr_base.specs.LineSets.{first_lines, submatrix}
use Rattle.cmr_base.specs.Matrix.{Matrix, height}
use Rattle.cmr_base.specs.Reductions.{columns_without, lines_of, rows_without}
use Rattle.cmr_front.specs.Minimal.{IsMinimalAsked}
use Rattle.decompositions_exist.proofs.NotExcluded.{NotExcluded, one_of_two}

module _ (P : Matrix → Type 0) (m : Matrix) where
  greedy_from : (lines : List Line) (rows columns : List ℕ) → NotExcluded ((set : LineSet) × IsGreedyFrom P m lines rows columns set.rows set.columns)
  greedy_from [] rows columns none = none (record { rows = rows; columns = columns }, (refl, refl))
  greedy_from (line ∷ lines) rows columns none = one_of_two (P (submatrix m (rows_without rows line) (columns_without columns line))) (λ either. elim either [
    | inl has ↦ greedy_from lines rows columns (λ set. none (set.0, inl (has, set.1)))
    | inr lacks ↦ greedy_from lines (rows_without rows line) (columns_without columns line) (λ set. none (set.0, inr (lacks, set.1)))
  ])

  -- the minimal set that is reported if its file is requested, and none otherwise
  pub asked_exists : ((rows columns : List ℕ) → IsGreedySet P m rows columns → IsMinimalWithout P m rows columns) → (name : Option (List ℕ))
      → NotExcluded ((found : Option LineSet) × IsMinimalAsked P m name found)
  asked_exists minimal None none = none (None, refl)
  asked_exists minimal (Some name) none = greedy_from (lines_of (first_lines (height m)) (first_lines m.width)) (first_lines (height m)) (first_lines m.width) (λ set.
      none (Some set.0, record { greedy = set.1; minimal = minimal set.0.rows set.0.columns set.1 }))
