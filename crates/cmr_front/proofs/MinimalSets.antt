-- The minimal submatrix that a tool reports is unique.
use Rattle.std.proofs.Common.{◌≡◌, ◌∙◌, ℕ, List, [], ◌∷◌, Option, Some, None, inl, inr, ap₂, sym}
use Rattle.cmr_base.specs.declared.line.Line.{Line}
use Rattle.cmr_base.specs.declared.line_set.LineSet.{LineSet}
use Rattle.cmr_base.specs.GreedySets.{IsGreedyFrom}
use Rattle.cmr_base.specs.LineSets.{first_lines}
use Rattle.cmr_base.specs.Matrix.{Matrix, height}
use Rattle.cmr_base.specs.Reductions.{rows_without, columns_without, lines_of}
use Rattle.cmr_front.specs.Minimal.{IsMinimalAsked}

module _ (P : Matrix → Type 0) (m : Matrix) where
  -- going through the lines leaves one set of lines
  pub one_greedy : (lines : List Line) (R C A B A' B' : List ℕ) → IsGreedyFrom P m lines R C A B → IsGreedyFrom P m lines R C A' B' → (A ≡ A') × (B ≡ B')
  one_greedy [] R C A B A' B' x y = (x.0 ∙ sym y.0, x.1 ∙ sym y.1)
  one_greedy (line ∷ lines) R C A B A' B' (inl x) (inl y) = one_greedy lines R C A B A' B' x.1 y.1
  one_greedy (line ∷ lines) R C A B A' B' (inl x) (inr y) = absurd (y.0 x.0)
  one_greedy (line ∷ lines) R C A B A' B' (inr x) (inl y) = absurd (x.0 y.0)
  one_greedy (line ∷ lines) R C A B A' B' (inr x) (inr y) = one_greedy lines (rows_without R line) (columns_without C line) A B A' B' x.1 y.1

  pub one_minimal : (name : Option (List ℕ)) (found other : Option LineSet) → IsMinimalAsked P m name found → IsMinimalAsked P m name other → found ≡ other
  one_minimal None found other a b = a ∙ sym b
  one_minimal (Some name) None other a b = absurd a
  one_minimal (Some name) (Some lines) None a b = absurd b
  one_minimal (Some name) (Some lines) (Some lines') a b =
      let same = one_greedy (lines_of (first_lines (height m)) (first_lines m.width)) (first_lines (height m)) (first_lines m.width) lines.rows lines.columns lines'.rows lines'.columns a.greedy b.greedy in
      ap₂ (λ rows columns. let both : LineSet = record { rows = rows; columns = columns } in Some both) same.0 same.1
