-- What the stated order leaves of a node's submatrix.
use Rattle.std.proofs.Common.{◌≡◌, ◌<◌, ◌≤◌, ◌+◌, ◌∙◌, ℕ, zero, suc, ℤ, false, List, [], length, map, Option, Some, None, refl, ap, ap₂, arith}
use Rattle.std.specs.Prelude.{IsSome}
use Rattle.std.specs.List.{AllByRecursion}
use Rattle.cmr_base.specs.declared.line.Line.{Line}
use Rattle.cmr_base.specs.declared.line.Line.TheVariants.{Row, Column}
use Rattle.cmr_base.specs.declared.line.Step.{Step}
use Rattle.cmr_base.specs.declared.line_set.LineSet.{LineSet}
use Rattle.cmr_base.specs.Matrix.{Matrix, height, entry}
use Rattle.cmr_base.specs.LineSets.{first_lines}
use Rattle.cmr_base.specs.Reductions.{HasLine, line_reason, rows_without, columns_without, lines_of, first_step, removal_on, removal}
use Rattle.cmr_base.proofs.ListsWithout.{in_from_contains}
use Rattle.cmr_base.proofs.RemovedLines.{has_line_from_among, fewer_lines, first_lines_increase, first_lines_in}
use Rattle.sp_reduce.proofs.Orders.{search_is, after_step}
use Rattle.tree_type.specs.Invariant.{AreLines}
use Rattle.tree_type.specs.Places.{lines_left}
use Rattle.tree_type.specs.Soundness.{part}
use Rattle.decomp_tree.specs.Shapes.{numbered, numbered_line}
use Rattle.decomp_tree.specs.Seen.{IsPlace}
use Rattle.decomp_tree.proofs.Numbered.{height_in, named_all}
use Rattle.decomp_tree.proofs.Removed.{AreLeft, rows_named, columns_named, fewer_left}

-- where something is removed a line is reducible
pub reducible_from_removed : (M : ℕ → ℕ → ℤ) (fuel : ℕ) (R C : List ℕ) → 0 < length (removal_on false M fuel R C).steps → (line : Line) × HasLine R C line × IsSome (line_reason false M R C line)
reducible_from_removed M zero R C l = absurd (omega (arith, l))
reducible_from_removed M (suc n) R C l = go (first_step false M R C (lines_of R C)) refl l
  where
    go : (o : Option Step) → first_step false M R C (lines_of R C) ≡ o → 0 < length (after_step false M n R C o).steps → (line : Line) × HasLine R C line × IsSome (line_reason false M R C line)
    go None e l = absurd (omega (arith, l))
    go (Some step) e l = let found = search_is false M R C (lines_of R C) step e in (step.line, has_line_from_among step.line R C found.among, found.some)

module _ (m : Matrix) (lines : LineSet) (are : AreLines m lines) where
  place_of_line : (R C : List ℕ) (line : Line) → AreLeft m lines are R C → HasLine R C line → IsPlace lines line
  place_of_line R C (Row r) left h = left.rows_low r (in_from_contains R r h)
  place_of_line R C (Column c) left h = left.columns_low c (in_from_contains C c h)

  -- what is left, of which lines, and how many lines go
  pub record IsLeft (R C : List ℕ) (steps : List Step) (rows columns : List ℕ) : Type 0 where
    pub left : AreLeft m lines are rows columns
    pub count : length rows + length columns + length steps ≤ length R + length C
    pub places : AllByRecursion (λ step. IsPlace lines step.line) steps
    pub rows_are : (lines_left (record { rows = map (numbered lines.rows) R; columns = map (numbered lines.columns) C }) (map (numbered_line lines) (map (λ step. step.line) steps))).rows ≡ map (numbered lines.rows) rows
    pub columns_are : (lines_left (record { rows = map (numbered lines.rows) R; columns = map (numbered lines.columns) C }) (map (numbered_line lines) (map (λ step. step.line) steps))).columns ≡ map (numbered lines.columns) columns

  nothing_left : (R C : List ℕ) → AreLeft m lines are R C → IsLeft R C [] R C
  nothing_left R C left = record { left = left; count = omega arith; places = tt; rows_are = refl; columns_are = refl }

  pub is_left : (n : ℕ) (R C : List ℕ) → AreLeft m lines are R C
      → IsLeft R C (removal_on false (entry (part m lines)) n R C).steps (removal_on false (entry (part m lines)) n R C).rows (removal_on false (entry (part m lines)) n R C).columns
  is_left zero R C left = nothing_left R C left
  is_left (suc n) R C left = go (first_step false (entry (part m lines)) R C (lines_of R C)) refl (λ line left. is_left n (rows_without R line) (columns_without C line) left)
    where
      go : (o : Option Step) → first_step false (entry (part m lines)) R C (lines_of R C) ≡ o
          → ((line : Line) → AreLeft m lines are (rows_without R line) (columns_without C line) → IsLeft (rows_without R line) (columns_without C line)
          (removal_on false (entry (part m lines)) n (rows_without R line) (columns_without C line)).steps (removal_on false (entry (part m lines)) n (rows_without R line) (columns_without C line)).rows (removal_on false (entry (part m lines)) n (rows_without R line) (columns_without C line)).columns)
          → IsLeft R C (after_step false (entry (part m lines)) n R C o).steps (after_step false (entry (part m lines)) n R C o).rows (after_step false (entry (part m lines)) n R C o).columns
      go None e more = nothing_left R C left
      go (Some step) e more =
          let found = search_is false (entry (part m lines)) R C (lines_of R C) step e in
          let has = has_line_from_among step.line R C found.among in
          let rest = removal_on false (entry (part m lines)) n (rows_without R step.line) (columns_without C step.line) in
          let w = more step.line (fewer_left m lines are R C step.line left) in
          let same : record { rows = rows_without (map (numbered lines.rows) R) (numbered_line lines step.line); columns = columns_without (map (numbered lines.columns) C) (numbered_line lines step.line) }
          ≡ record { rows = map (numbered lines.rows) (rows_without R step.line); columns = map (numbered lines.columns) (columns_without C step.line) } =
          ap₂ (λ rows columns. record { rows = rows; columns = columns }) (rows_named m lines are R C step.line left has) (columns_named m lines are R C step.line left has) in
          record {
            left = w.left;
            count = let a = w.count in let b = fewer_lines step.line R C has in omega (arith, a, b);
            places = (place_of_line R C step.line left has, w.places);
            rows_are = ap (λ (l : LineSet). (lines_left l (map (numbered_line lines) (map (λ step. step.line) rest.steps))).rows) same ∙ w.rows_are;
            columns_are = ap (λ (l : LineSet). (lines_left l (map (numbered_line lines) (map (λ step. step.line) rest.steps))).columns) same ∙ w.columns_are;
          }

  -- from all lines on
  all_left : AreLeft m lines are (first_lines (height (part m lines))) (first_lines (length lines.columns))
  all_left = record {
    rows_increase = first_lines_increase (height (part m lines));
    columns_increase = first_lines_increase (length lines.columns);
    rows_low = λ r h. let l = first_lines_in (height (part m lines)) r h in omega (arith, l, height_in m lines);
    columns_low = λ c h. first_lines_in (length lines.columns) c h;
  }

  pub whole_left : IsLeft (first_lines (height (part m lines))) (first_lines (length lines.columns)) (removal false (part m lines)).steps (removal false (part m lines)).rows (removal false (part m lines)).columns
  whole_left = is_left (height (part m lines) + length lines.columns) (first_lines (height (part m lines))) (first_lines (length lines.columns)) all_left

  -- all lines, by their numbers
  pub all_named : record { rows = map (numbered lines.rows) (first_lines (height (part m lines))); columns = map (numbered lines.columns) (first_lines (length lines.columns)) } ≡ lines
  all_named = ap₂ (λ rows columns. record { rows = rows; columns = columns }) (ap (λ k. map (numbered lines.rows) (first_lines k)) (height_in m lines) ∙ named_all lines.rows) (named_all lines.columns)
