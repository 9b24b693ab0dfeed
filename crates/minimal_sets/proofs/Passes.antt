-- A pass over the lines of a matrix that removes some of them.
use Rattle.std.proofs.Common.{Less, Equal, Greater, ◌<◌, ◌≤◌, ◌-◌, nat_lt, eqb, true, false, cond, arith, ◌≡◌, ◌+◌, ℕ, Bool, List, refl, sym, subst}
use Rattle.std.specs.Ordering.{ord_min, nat_cmp, is_lt}
use Rattle.std.proofs.lemmas.Bool.Decides.{nat_tests}
use Rattle.cmr_base.specs.declared.line.Line.{Line}
use Rattle.cmr_base.specs.Matrix.{Matrix, height}
use Rattle.cmr_base.specs.LineSets.{IsRowSet, IsColumnSet, first_lines, submatrix}
use Rattle.cmr_base.specs.Reductions.{lines_of}
use Rattle.cmr_base.specs.GreedySets.{IsGreedyFrom, IsGreedySet}
use Rattle.cmr_base.proofs.GreedyLemmas.{IsInherited}
use Rattle.cmr_base.proofs.RemovedLines.{first_lines_increase, in_first_lines, row_set_from_within, column_set_from_within}
use Rattle.minimal_sets.specs.LeftOut.{line_numbered, lines_between, rows_left, columns_left}
use Rattle.minimal_sets.proofs.RunLemmas.{lines_between-append, all_lines}
use Rattle.minimal_sets.proofs.GreedyRuns.{rows_left-increase, columns_left-increase, rows_left-within, columns_left-within, greedy-append, greedy_left, greedy_kept}
use Rattle.cmr_base.proofs.Places.{members_below}

pub row_set_left : (m : Matrix) (rows : List ℕ) (lines : List Line) → IsRowSet m rows → IsRowSet m (rows_left rows lines)
row_set_left m rows lines is =
    row_set_from_within m (rows_left rows lines) (rows_left-increase lines rows is.increasing)
    (λ x h. in_first_lines (height m) x (members_below (height m) rows is.in_range x (rows_left-within lines rows x h)))

pub column_set_left : (m : Matrix) (columns : List ℕ) (lines : List Line) → IsColumnSet m columns → IsColumnSet m (columns_left columns lines)
column_set_left m columns lines is =
    column_set_from_within m (columns_left columns lines) (columns_left-increase lines columns is.increasing)
    (λ x h. in_first_lines m.width x (members_below m.width columns is.in_range x (columns_left-within lines columns x h)))

pub all_rows : (m : Matrix) → IsRowSet m (first_lines (height m))
all_rows m = row_set_from_within m (first_lines (height m)) (first_lines_increase (height m)) (λ x h. h)

pub all_columns : (m : Matrix) → IsColumnSet m (first_lines m.width)
all_columns m = column_set_from_within m (first_lines m.width) (first_lines_increase m.width) (λ x h. h)

-- the first `turns` lines have been tried, and these rows and columns remain
pub record IsPass (P : Matrix → Type 0) (m : Matrix) (R C : List ℕ) (turns : ℕ) (R' C' : List ℕ) : Type 0 where
  pub row_set : IsRowSet m R'
  pub column_set : IsColumnSet m C'
  pub lacks : ¬ P (submatrix m R' C')
  pub greedy : IsGreedyFrom P m (lines_between (height m) 0 turns) R C R' C'

module _ (P : Matrix → Type 0) (m : Matrix) (R C : List ℕ) where
  pub pass_start : IsRowSet m R → IsColumnSet m C → ¬ P (submatrix m R C) → IsPass P m R C 0 R C
  pass_start rows columns lacks = record { row_set = rows; column_set = columns; lacks = lacks; greedy = (refl, refl) }

  module _ (turns count : ℕ) (R' C' : List ℕ) (p : IsPass P m R C turns R' C') where
    more_turns : (R₂ C₂ : List ℕ) → IsGreedyFrom P m (lines_between (height m) turns count) R' C' R₂ C₂ → IsGreedyFrom P m (lines_between (height m) 0 (turns + count)) R C R₂ C₂
    more_turns R₂ C₂ g =
        subst (λ (lines : List Line). IsGreedyFrom P m lines R C R₂ C₂) (sym (lines_between-append (height m) turns count))
        (greedy-append P m (lines_between (height m) 0 turns) (lines_between (height m) turns count) R C R' C' R₂ C₂ p.greedy g)

    -- the next lines can be removed together
    pub pass_left : IsInherited P m → ¬ P (submatrix m (rows_left R' (lines_between (height m) turns count)) (columns_left C' (lines_between (height m) turns count)))
        → IsPass P m R C (turns + count) (rows_left R' (lines_between (height m) turns count)) (columns_left C' (lines_between (height m) turns count))
    pass_left inherited lacks = let lines = lines_between (height m) turns count in record {
      row_set = row_set_left m R' lines p.row_set;
      column_set = column_set_left m C' lines p.column_set;
      lacks = lacks;
      greedy = more_turns (rows_left R' lines) (columns_left C' lines) (greedy_left P m inherited lines R' C' p.row_set.increasing p.column_set.increasing lacks);
    }

  -- the next line cannot be removed
  pub pass_kept : (turns : ℕ) (R' C' : List ℕ) → IsPass P m R C turns R' C'
      → P (submatrix m (rows_left R' (lines_between (height m) turns 1)) (columns_left C' (lines_between (height m) turns 1))) → IsPass P m R C (turns + 1) R' C'
  pass_kept turns R' C' p has = record {
    row_set = p.row_set;
    column_set = p.column_set;
    lacks = p.lacks;
    greedy = more_turns turns 1 R' C' p R' C' (greedy_kept P m (line_numbered (height m) turns) R' C' has);
  }

-- a pass over all lines
pub greedy_from_all : (P : Matrix → Type 0) (m : Matrix) (R C R' C' : List ℕ) → R ≡ first_lines (height m) → C ≡ first_lines m.width
    → IsGreedyFrom P m (lines_between (height m) 0 (height m + m.width)) R C R' C' → IsGreedySet P m R' C'
greedy_from_all P m R C R' C' r c g =
    subst (λ (rows : List ℕ). IsGreedyFrom P m (lines_of (first_lines (height m)) (first_lines m.width)) rows (first_lines m.width) R' C') r
    (subst (λ (columns : List ℕ). IsGreedyFrom P m (lines_of (first_lines (height m)) (first_lines m.width)) R columns R' C') c
    (subst (λ (lines : List Line). IsGreedyFrom P m lines R C R' C') (all_lines (height m) m.width) g))

-- ---- the number of lines that are tried at once

pub record IsCount (tried end next count : ℕ) : Type 0 where
  pub some : 1 ≤ count
  pub few : count ≤ tried
  pub in_range : next + count ≤ end

pub count_is : (tried end next count : ℕ) → count ≡ ord_min nat_cmp tried (end - next) → 1 ≤ tried → next < end → IsCount tried end next count
count_is tried end next count e some more = go (nat_lt (end - next) tried) refl e
  where
    kept : (t : Bool) → count ≡ cond (is_lt (cond t Equal Greater)) (end - next) tried → count ≡ tried
    kept true e = e
    kept false e = e

    go : (t : Bool) → nat_lt (end - next) tried ≡ t → count ≡ cond (is_lt (cond t Less (cond (eqb (end - next) tried) Equal Greater))) (end - next) tried → IsCount tried end next count
    go true t e = record { some = omega (arith, e, more); few = grind (arith, nat_tests); in_range = omega (arith, e, more) }
    go false t e =
        let k = kept (eqb (end - next) tried) e in
        record { some = omega (arith, k, some); few = omega (arith, k); in_range = grind (arith, nat_tests, k) }
