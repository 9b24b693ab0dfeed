-- A line is followed to the lines with a nonzero in it, and the queue is walked through.
use Rattle.std.proofs.Common.{◌≡◌, ◌≢◌, ◌<◌, ◌≤◌, ◌+◌, ◌++◌, ◌∙◌, inl, inr, nat_eq, if◌then◌else◌, ℕ, zero, suc, pos, Bool, true, false, List, [], ◌∷◌, length, get_or, take}
use Rattle.std.proofs.Common.{refl, ap, sym, subst, arith, length-append}
use Rattle.std.specs.List.{AllByRecursion}
use Rattle.std.proofs.lemmas.List.{take-append-le, take_all, take_more}
use Rattle.cmr_base.specs.declared.line.Line.{Line}
use Rattle.cmr_base.specs.declared.line.Line.TheVariants.{Row, Column}
use Rattle.cmr_base.specs.Matrix.{entry}
use Rattle.cmr_base.proofs.Booleans.{eq_of, two_cases}
use Rattle.cmr_base.proofs.Lists.{all-append, all-take, all_at, all_both, all_contained, all_weaker}
use Rattle.ghouila.specs.Found.{marked_from}
use Rattle.sparse_matrix.specs.declared.nonzero.Nonzero.{Nonzero}
use Rattle.sparse_matrix.specs.SparseRows.{SparseRows, AreCrossed, AreSparseRows, IsNonzeroWithin, matrix_of_runs, run_of, value_in}
use Rattle.sparse_matrix.proofs.MarkedLines.{mark_inside, no_nonzero, value_there}
use Rattle.sparse_matrix.proofs.Matrices.{matrix_entry}
use Rattle.sparse_core.specs.declared.removal.TwoCore.{TwoCore}
use Rattle.sparse_core.specs.TwoCores.{IsSparseLine}
use Rattle.part_numbers.specs.declared.reached.Search.{Search}
use Rattle.part_numbers.specs.PartSearches.{AreAdjacent, AreFollowedTo, GrowsPart, FollowsAll, IsFollowed, IsSized, ReachesLines, crossing_line, is_reached, line_run}
use Rattle.part_numbers.proofs.ReachedLines.{followed_kept}

-- a value is the value of a nonzero
pub nonzero_of_value : (run : List Nonzero) (line : ℕ) → value_in run line ≢ pos 0 → (k : ℕ) × (k < length run) × ((get_or run k no_nonzero).line ≡ line)
nonzero_of_value [] line n = absurd (n refl)
nonzero_of_value (x ∷ run) line n = elim (two_cases (nat_eq x.line line)) [
  | inl h ↦ (0, omega arith, eq_of x.line line h)
  | inr h ↦ later (nonzero_of_value run line (λ e. n (ap (λ (b : Bool). if b then x.value else value_in run line) h ∙ e)))
]
  where
    later : (k : ℕ) × (k < length run) × ((get_or run k no_nonzero).line ≡ line) → (k : ℕ) × (k < length (x ∷ run)) × ((get_or (x ∷ run) k no_nonzero).line ≡ line)
    later (k, l, e) = (suc k, omega (arith, l), e)

pub reached_inside : (m : SparseRows) (search : Search) (line : Line) → IsSized m search → is_reached search line ≡ true → IsSparseLine m line
reached_inside m search (Row row) sized h = let below = mark_inside search.rows.items row h in let long = sized.rows in omega (arith, below, long)
reached_inside m search (Column column) sized h = let below = mark_inside search.columns.items column h in let long = sized.columns in omega (arith, below, long)

-- ---- the nonzeros of a line

module _ (m t : SparseRows) (shape : AreSparseRows m) (shape_t : AreSparseRows t) (crossed : AreCrossed m t) where
  pub crossing_inside : (line : Line) (k : ℕ) → IsSparseLine m line → k < length (line_run m t line) → IsSparseLine m (crossing_line line (get_or (line_run m t line) k no_nonzero).line)
  crossing_inside (Row row) k inside l = (all_at (IsNonzeroWithin m.width) (run_of m row) k no_nonzero
      (all_at (AllByRecursion (IsNonzeroWithin m.width)) m.runs row [] shape.runs_in inside) l).inside
  crossing_inside (Column column) k inside l = subst (λ (n : ℕ). (get_or (run_of t column) k no_nonzero).line < n) crossed.columns
      (all_at (IsNonzeroWithin t.width) (run_of t column) k no_nonzero
      (all_at (AllByRecursion (IsNonzeroWithin t.width)) t.runs column [] shape_t.runs_in (subst (λ (n : ℕ). column < n) (sym crossed.rows) inside)) l).inside

  pub crossing_adjacent : (line : Line) (k : ℕ) → IsSparseLine m line → k < length (line_run m t line)
      → AreAdjacent (entry (matrix_of_runs m)) line (crossing_line line (get_or (line_run m t line) k no_nonzero).line)
  crossing_adjacent (Row row) k inside l =
      λ e. value_there m.width (run_of m row) k l (all_at (AllByRecursion (IsNonzeroWithin m.width)) m.runs row [] shape.runs_in inside)
      (sym (matrix_entry m shape row (get_or (run_of m row) k no_nonzero).line) ∙ e)
  crossing_adjacent (Column column) k inside l =
      let row = (get_or (run_of t column) k no_nonzero).line in
      λ e. value_there t.width (run_of t column) k l (all_at (AllByRecursion (IsNonzeroWithin t.width)) t.runs column [] shape_t.runs_in (subst (λ (n : ℕ). column < n) (sym crossed.rows) inside))
      (crossed.entries row column ∙ sym (matrix_entry m shape row column) ∙ e)

  -- a statement about the crossing lines of all nonzeros of a line
  pub adjacent_crossing : (P : Line → Type 0) (line other : Line) → ((k : ℕ) → k < length (line_run m t line) → P (crossing_line line (get_or (line_run m t line) k no_nonzero).line))
      → AreAdjacent (entry (matrix_of_runs m)) line other → P other
  adjacent_crossing P (Row row) (Row other) all n = absurd n
  adjacent_crossing P (Row row) (Column column) all n =
      let place = nonzero_of_value (run_of m row) column (λ e. n (matrix_entry m shape row column ∙ e)) in
      subst (λ (k : ℕ). P (Column k)) place.2 (all place.0 place.1)
  adjacent_crossing P (Column column) (Row row) all n =
      let place = nonzero_of_value (run_of t column) row (λ e. n (matrix_entry m shape row column ∙ sym (crossed.entries row column) ∙ e)) in
      subst (λ (k : ℕ). P (Row k)) place.2 (all place.0 place.1)
  adjacent_crossing P (Column column) (Column other) all n = absurd n

-- ---- the queue

few_marks : (first : ℕ) (marks : List Bool) → length (marked_from first marks) ≤ length marks
few_marks first [] = omega arith
few_marks first (true ∷ marks) = let fewer = few_marks (first + 1) marks in omega (arith, fewer)
few_marks first (false ∷ marks) = let fewer = few_marks (first + 1) marks in omega (arith, fewer)

pub queue_short : (m : SparseRows) (core : TwoCore) (part : ℕ) (search : Search) → GrowsPart m core part search → length search.queue.items ≤ length m.runs + m.width
queue_short m core part search grows =
    let few_rows = few_marks 0 search.rows.items in
    let few_columns = few_marks 0 search.columns.items in
    let counted = grows.searched.counted in
    let height = grows.searched.sized.rows in
    let width = grows.searched.sized.columns in
    omega (arith, few_rows, few_columns, counted, height, width)

-- the lines before a place stay followed
pub followed_to_kept : (m : SparseRows) (core : TwoCore) (part : ℕ) (before after : Search) (place : ℕ) → place ≤ length before.queue.items → ReachesLines part before after
    → AllByRecursion (λ line. is_reached before line ≡ true) before.queue.items → AreFollowedTo m core before place → AreFollowedTo m core after place
followed_to_kept m core part before after place l reaches all followed =
    subst (AllByRecursion (λ line. IsFollowed m core after line)) (sym (ap (take place) reaches.queue.1 ∙ take-append-le place before.queue.items reaches.queue.0 l))
    (all_both (λ line. is_reached before line ≡ true) (λ line. IsFollowed m core before line) (λ line. IsFollowed m core after line)
    (λ line h. followed_kept m core part before after line reaches h) (take place before.queue.items)
    (all-take (λ line. is_reached before line ≡ true) place before.queue.items all) followed)

kept_place : {A : Type 0} (xs ys : List A) (k : ℕ) (d : A) → k < length xs → get_or (xs ++ ys) k d ≡ get_or xs k d
kept_place [] ys k d l = absurd (omega arith)
kept_place (x ∷ xs) ys zero d l = refl
kept_place (x ∷ xs) ys (suc k) d l = kept_place xs ys k d (omega (arith, l))

-- the line at the place is followed
pub followed_to_more : (m : SparseRows) (core : TwoCore) (part : ℕ) (before after : Search) (place : ℕ) (line : Line) → place < length before.queue.items → ReachesLines part before after
    → AllByRecursion (λ line. is_reached before line ≡ true) before.queue.items → get_or before.queue.items place line ≡ line → IsFollowed m core after line
    → AreFollowedTo m core before place → AreFollowedTo m core after (place + 1)
followed_to_more m core part before after place line l reaches all here followed_here followed =
    subst (AllByRecursion (λ other. IsFollowed m core after other)) (sym (take_more after.queue.items place line longer))
    (all-append (λ other. IsFollowed m core after other) (take place after.queue.items) (get_or after.queue.items place line ∷ [])
    (followed_to_kept m core part before after place (omega (arith, l)) reaches all followed) (subst (IsFollowed m core after) (sym same) followed_here, tt))
  where
    same : get_or after.queue.items place line ≡ line
    same = ap (λ (queue : List Line). get_or queue place line) reaches.queue.1 ∙ kept_place before.queue.items reaches.queue.0 place line l ∙ here

    longer : place < length after.queue.items
    longer = let appended = ap length reaches.queue.1 in let sum = length-append before.queue.items reaches.queue.0 in omega (arith, appended, sum, l)

-- all lines of the queue are followed
pub followed_all : (m : SparseRows) (core : TwoCore) (part place : ℕ) (search : Search) → length search.queue.items ≤ place → GrowsPart m core part search → AreFollowedTo m core search place
    → FollowsAll m core (part + 1) search
followed_all m core part place search l grows followed = record {
  searched = grows.searched;
  below = λ line h. let most = grows.at_most line h in omega (arith, most);
  followed = λ line h. all_contained (λ other. IsFollowed m core search other) search.queue.items line
      (subst (AllByRecursion (λ other. IsFollowed m core search other)) (take_all place search.queue.items l) followed) (grows.searched.queued line h);
}

-- the first line of a part is at the end of the queue
pub followed_first : (m : SparseRows) (core : TwoCore) (part place : ℕ) (before after : Search) → place ≡ length before.queue.items → ReachesLines part before after → FollowsAll m core part before
    → AreFollowedTo m core after place
followed_first m core part place before after e reaches has =
    followed_to_kept m core part before after place (omega (arith, e)) reaches has.searched.reached
    (all-take (λ line. IsFollowed m core before line) place before.queue.items
    (all_weaker (λ line. is_reached before line ≡ true) (λ line. IsFollowed m core before line) has.followed before.queue.items has.searched.reached))
