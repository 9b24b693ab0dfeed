-- The marks and the numbers of a search.
use Rattle.std.proofs.Common.{◌≡◌, ◌≢◌, ◌<◌, ◌+◌, ◌++◌, ◌∙◌, ℕ, zero, suc, Bool, true, false, List, [], ◌∷◌, length, get_or, set, replicate, ap, sym, subst, arith}
use Rattle.std.specs.List.{AllByRecursion}
use Rattle.std.proofs.lemmas.List.{get_or-set_same, get_or-set_other, length-replicate}
use Rattle.cmr_base.specs.declared.line.Line.{Line}
use Rattle.cmr_base.specs.declared.line.Line.TheVariants.{Row, Column}
use Rattle.cmr_base.proofs.Booleans.{not_both, true_is_false}
use Rattle.cmr_base.proofs.Lists.{get_or-replicated}
use Rattle.ghouila.specs.Found.{marked_from, marked}
use Rattle.ghouila.proofs.Marks.{marked-replicate}
use Rattle.sparse_matrix.specs.LineMarks.{is_marked}
use Rattle.sparse_matrix.specs.SparseRows.{SparseRows}
use Rattle.sparse_core.specs.declared.removal.TwoCore.{TwoCore}
use Rattle.part_numbers.specs.declared.reached.Search.{Search}
use Rattle.part_numbers.specs.PartNumbering.{part_number}
use Rattle.part_numbers.specs.PartSearches.{FollowsAll, HasRowsBefore, IsFirstSearch, ReachesLine, is_reached, reached_number}

-- ---- one more mark

one_more_from : (first : ℕ) (marks : List Bool) (k : ℕ) → k < length marks → get_or marks k false ≡ false → length (marked_from first (set marks k true)) ≡ length (marked_from first marks) + 1
one_more_from first [] k l e = absurd (omega arith)
one_more_from first (true ∷ marks) zero l e = true_is_false e
one_more_from first (false ∷ marks) zero l e = omega arith
one_more_from first (true ∷ marks) (suc k) l e = let one_more = one_more_from (first + 1) marks k (omega (arith, l)) e in omega (arith, one_more)
one_more_from first (false ∷ marks) (suc k) l e = one_more_from (first + 1) marks k (omega (arith, l)) e

module _ (before after : Search) (line : Line) (row part : ℕ) (is : line ≡ Row row) (inside : row < length before.rows.items) (numbered : row < length before.of_rows.items)
    (free : is_reached before line ≡ false) (rows_are : after.rows.items ≡ set before.rows.items row true) (of_rows_are : after.of_rows.items ≡ set before.of_rows.items row part)
    (columns_are : after.columns.items ≡ before.columns.items) (of_columns_are : after.of_columns.items ≡ before.of_columns.items)
    (queue_is : after.queue.items ≡ before.queue.items ++ line ∷ []) where
  row_others : (other : Line) → other ≢ line → is_reached after other ≡ is_reached before other
  row_others (Row other) n = ap (λ (marks : List Bool). is_marked marks other) rows_are ∙ get_or-set_other before.rows.items row other true false (λ e. n (ap Row e ∙ sym is))
  row_others (Column column) n = ap (λ (marks : List Bool). is_marked marks column) columns_are

  row_other_numbers : (other : Line) → other ≢ line → reached_number after other ≡ reached_number before other
  row_other_numbers (Row other) n = ap (λ (numbers : List ℕ). part_number numbers other) of_rows_are ∙ get_or-set_other before.of_rows.items row other part 0 (λ e. n (ap Row e ∙ sym is))
  row_other_numbers (Column column) n = ap (λ (numbers : List ℕ). part_number numbers column) of_columns_are

  pub reaches_row : ReachesLine before after line part
  reaches_row = record {
    reached = ap (is_reached after) is ∙ ap (λ (marks : List Bool). is_marked marks row) rows_are ∙ get_or-set_same before.rows.items row true false inside;
    number = ap (reached_number after) is ∙ ap (λ (numbers : List ℕ). part_number numbers row) of_rows_are ∙ get_or-set_same before.of_rows.items row part 0 numbered;
    others_reached = row_others;
    other_numbers = row_other_numbers;
    queue = queue_is;
    count =
        let one_more = ap (λ (marks : List Bool). length (marked marks)) rows_are ∙ one_more_from 0 before.rows.items row inside (sym (ap (is_reached before) is) ∙ free) in
        let same = ap (λ (marks : List Bool). length (marked marks)) columns_are in
        omega (arith, one_more, same);
  }

module _ (before after : Search) (line : Line) (column part : ℕ) (is : line ≡ Column column) (inside : column < length before.columns.items)
    (numbered : column < length before.of_columns.items) (free : is_reached before line ≡ false)
    (columns_are : after.columns.items ≡ set before.columns.items column true) (of_columns_are : after.of_columns.items ≡ set before.of_columns.items column part)
    (rows_are : after.rows.items ≡ before.rows.items) (of_rows_are : after.of_rows.items ≡ before.of_rows.items)
    (queue_is : after.queue.items ≡ before.queue.items ++ line ∷ []) where
  column_others : (other : Line) → other ≢ line → is_reached after other ≡ is_reached before other
  column_others (Row row) n = ap (λ (marks : List Bool). is_marked marks row) rows_are
  column_others (Column other) n = ap (λ (marks : List Bool). is_marked marks other) columns_are
      ∙ get_or-set_other before.columns.items column other true false (λ e. n (ap Column e ∙ sym is))

  column_other_numbers : (other : Line) → other ≢ line → reached_number after other ≡ reached_number before other
  column_other_numbers (Row row) n = ap (λ (numbers : List ℕ). part_number numbers row) of_rows_are
  column_other_numbers (Column other) n = ap (λ (numbers : List ℕ). part_number numbers other) of_columns_are
      ∙ get_or-set_other before.of_columns.items column other part 0 (λ e. n (ap Column e ∙ sym is))

  pub reaches_column : ReachesLine before after line part
  reaches_column = record {
    reached = ap (is_reached after) is ∙ ap (λ (marks : List Bool). is_marked marks column) columns_are ∙ get_or-set_same before.columns.items column true false inside;
    number = ap (reached_number after) is ∙ ap (λ (numbers : List ℕ). part_number numbers column) of_columns_are ∙ get_or-set_same before.of_columns.items column part 0 numbered;
    others_reached = column_others;
    other_numbers = column_other_numbers;
    queue = queue_is;
    count =
        let one_more = ap (λ (marks : List Bool). length (marked marks)) columns_are ∙ one_more_from 0 before.columns.items column inside (sym (ap (is_reached before) is) ∙ free) in
        let same = ap (λ (marks : List Bool). length (marked marks)) rows_are in
        omega (arith, one_more, same);
  }

-- ---- no mark

pub first_is : (m : SparseRows) (search : Search) → search.of_rows.items ≡ replicate (length m.runs) 0 → search.of_columns.items ≡ replicate m.width 0
    → search.rows.items ≡ replicate (length m.runs) false → search.columns.items ≡ replicate m.width false → search.queue.items ≡ [] → IsFirstSearch m search
first_is m search of_rows of_columns rows columns queue = record {
  sized = record {
    of_rows = ap length of_rows ∙ length-replicate (length m.runs) 0;
    of_columns = ap length of_columns ∙ length-replicate m.width 0;
    rows = ap length rows ∙ length-replicate (length m.runs) false;
    columns = ap length columns ∙ length-replicate m.width false;
  };
  none = none;
  queue = queue;
  count =
      let no_rows = ap (λ (marks : List Bool). length (marked marks)) rows ∙ ap length (marked-replicate 0 (length m.runs)) in
      let no_columns = ap (λ (marks : List Bool). length (marked marks)) columns ∙ ap length (marked-replicate 0 m.width) in
      omega (arith, no_rows, no_columns);
}
  where
    none : (line : Line) → is_reached search line ≡ false
    none (Row row) = ap (λ (marks : List Bool). is_marked marks row) rows ∙ get_or-replicated (length m.runs) row false
    none (Column column) = ap (λ (marks : List Bool). is_marked marks column) columns ∙ get_or-replicated m.width column false

module _ (m : SparseRows) (core : TwoCore) (search : Search) (is : IsFirstSearch m search) where
  unreached : {A : Type 0} (line : Line) → is_reached search line ≡ true → A
  unreached line h = absurd (not_both (is_reached search line) h (is.none line))

  pub first_followed : FollowsAll m core 0 search
  first_followed = record {
    searched = record {
      sized = is.sized;
      within = λ line h. unreached line h;
      inseparable = λ line other h. unreached line h;
      queued = λ line h. unreached line h;
      reached = subst (AllByRecursion (λ line. is_reached search line ≡ true)) (sym is.queue) tt;
      counted = ap length is.queue ∙ sym is.count;
    };
    below = λ line h. unreached line h;
    followed = λ line h. unreached line h;
  }

  pub first_rows : HasRowsBefore core search 0 0
  first_rows = record {
    reached = λ other l. absurd (omega (arith, l));
    started = λ part l. absurd (omega (arith, l));
    ordered = λ other part h. unreached (Row other) h;
  }
