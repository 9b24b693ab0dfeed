-- The greedy set for a hereditary property is minimal.
use Rattle.std.proofs.Common.{inl, inr, ℕ, List, [], ◌∷◌, sym, subst}
use Rattle.std.specs.List.Sorted.{IsStrictlyIncreasing}
use Rattle.cmr_base.specs.declared.line.Line.{Line}
use Rattle.cmr_base.specs.Matrix.{Matrix, height}
use Rattle.cmr_base.specs.LineSets.{first_lines, submatrix}
use Rattle.cmr_base.specs.Reductions.{HasLine, rows_without, columns_without, lines_of}
use Rattle.cmr_base.specs.GreedySets.{IsGreedyFrom, IsGreedySet, IsMinimalWithout}
use Rattle.cmr_base.proofs.Members.{IsWithin}
use Rattle.cmr_base.proofs.RemovedLines.{IsAmong, among_from_has_line, rows_increase, columns_increase, rows_within, columns_within, rows_without-within, columns_without-within, has_line-within, line_gone, first_lines_increase, row_set_from_within, column_set_from_within}

-- a subset of a set of lines inherits the property
abbrev pub IsInherited : (Matrix → Type 0) → Matrix → Type 0
IsInherited P m = (rows columns rows' columns' : List ℕ) → IsStrictlyIncreasing rows → IsStrictlyIncreasing columns → IsStrictlyIncreasing rows' → IsStrictlyIncreasing columns'
    → IsWithin rows' rows → IsWithin columns' columns → P (submatrix m rows columns) → P (submatrix m rows' columns')

record IsKept (R C A B : List ℕ) : Type 0 where
  rows : IsWithin A R
  columns : IsWithin B C
  rows_increase : IsStrictlyIncreasing A
  columns_increase : IsStrictlyIncreasing B

module _ (P : Matrix → Type 0) (m : Matrix) where
  kept : (lines : List Line) (R C A B : List ℕ) → IsStrictlyIncreasing R → IsStrictlyIncreasing C → IsGreedyFrom P m lines R C A B → IsKept R C A B
  kept [] R C A B r c (e, f) = record {
    rows = subst (λ (x : List ℕ). IsWithin x R) (sym e) (λ y h. h);
    columns = subst (λ (x : List ℕ). IsWithin x C) (sym f) (λ y h. h);
    rows_increase = subst IsStrictlyIncreasing (sym e) r;
    columns_increase = subst IsStrictlyIncreasing (sym f) c;
  }
  kept (l ∷ ls) R C A B r c (inl (p, g)) = kept ls R C A B r c g
  kept (l ∷ ls) R C A B r c (inr (p, g)) =
      let w = kept ls (rows_without R l) (columns_without C l) A B (rows_increase l R r) (columns_increase l C c) g in
      record {
        rows = λ x h. rows_within l R x (w.rows x h);
        columns = λ x h. columns_within l C x (w.columns x h);
        rows_increase = w.rows_increase;
        columns_increase = w.columns_increase;
      }

  lacks : (lines : List Line) (R C A B : List ℕ) → ¬ P (submatrix m R C) → IsGreedyFrom P m lines R C A B → ¬ P (submatrix m A B)
  lacks [] R C A B lack (e, f) p = lack (subst (λ (x : List ℕ). P (submatrix m x C)) e (subst (λ (y : List ℕ). P (submatrix m A y)) f p))
  lacks (l ∷ ls) R C A B lack (inl (q, g)) p = lacks ls R C A B lack g p
  lacks (l ∷ ls) R C A B lack (inr (q, g)) p = lacks ls (rows_without R l) (columns_without C l) A B q g p

  each : IsInherited P m → (lines : List Line) (R C A B : List ℕ) → IsStrictlyIncreasing R → IsStrictlyIncreasing C → IsGreedyFrom P m lines R C A B
      → (line : Line) → IsAmong line lines → HasLine A B line → P (submatrix m (rows_without A line) (columns_without B line))
  each inherits [] R C A B r c g line h there = absurd h
  each inherits (x ∷ ls) R C A B r c (inl (p, g)) line (inl e) there =
      let w = kept ls R C A B r c g in
      inherits (rows_without R line) (columns_without C line) (rows_without A line) (columns_without B line)
      (rows_increase line R r) (columns_increase line C c) (rows_increase line A w.rows_increase) (columns_increase line B w.columns_increase)
      (rows_without-within line A R w.rows) (columns_without-within line B C w.columns)
      (subst (λ (y : Line). P (submatrix m (rows_without R y) (columns_without C y))) (sym e) p)
  each inherits (x ∷ ls) R C A B r c (inr (p, g)) line (inl e) there =
      let w = kept ls (rows_without R x) (columns_without C x) A B (rows_increase x R r) (columns_increase x C c) g in
      absurd (line_gone x A B R C w.rows w.columns (subst (λ (y : Line). HasLine A B y) e there))
  each inherits (x ∷ ls) R C A B r c (inl (p, g)) line (inr h) there = each inherits ls R C A B r c g line h there
  each inherits (x ∷ ls) R C A B r c (inr (p, g)) line (inr h) there =
      each inherits ls (rows_without R x) (columns_without C x) A B (rows_increase x R r) (columns_increase x C c) g line h there

  pub greedy_set_minimal : IsInherited P m → (rows columns : List ℕ) → ¬ P (submatrix m (first_lines (height m)) (first_lines m.width))
      → IsGreedySet P m rows columns → IsMinimalWithout P m rows columns
  greedy_set_minimal inherits A B lack g =
      let R = first_lines (height m) in
      let C = first_lines m.width in
      let r = first_lines_increase (height m) in
      let c = first_lines_increase m.width in
      let w = kept (lines_of R C) R C A B r c g in
      record {
        row_set = row_set_from_within m A w.rows_increase w.rows;
        column_set = column_set_from_within m B w.columns_increase w.columns;
        lacks = lacks (lines_of R C) R C A B lack g;
        minimal = λ line h. each inherits (lines_of R C) R C A B r c g line (among_from_has_line line R C (has_line-within line R C A B w.rows w.columns h)) h;
      }
