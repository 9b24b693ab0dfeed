-- The queue of the rows that are reached, and the columns of its rows.
use Rattle.std.proofs.Common.{◌≡◌, ◌≢◌, ◌<◌, ◌≤◌, ◌+◌, ◌++◌, ◌∙◌, if◌then◌else◌, inl, inr, nat_eq, ℕ, zero, suc, pos, Bool, List, [], ◌∷◌, length, get_or, take, Option, Some, None, refl, ap, sym, subst, arith, length-append}
use Rattle.std.proofs.lemmas.Bool.{cases_lt}
use Rattle.std.proofs.lemmas.List.{get_or_default, take_more}
use Rattle.std.specs.List.{AllByRecursion}
use Rattle.cmr_base.proofs.Booleans.{eq_of, two_cases}
use Rattle.cmr_base.proofs.Lists.{all-append, all_weaker}
use Rattle.cmr_base.proofs.ListsWithout.{contains_from_in, in_from_contains}
use Rattle.cmr_base.proofs.Members.{in-append}
use Rattle.sparse_matrix.specs.declared.nonzero.Nonzero.{Nonzero}
use Rattle.sparse_matrix.specs.SparseRows.{SparseRows, AreCrossed, AreSparseRows, run_of, value_in, sparse_entry}
use Rattle.sparse_matrix.proofs.MarkedLines.{no_nonzero, value_there}
use Rattle.split_search.specs.declared.forest.Node.{Node}
use Rattle.split_search.specs.RowForests.{row_node, AreClosedBelow, HasEnds, IsClosedAt, IsColumnClosed, IsForestClosed, HasAppended, IsQueueOf, IsRowClosed, KeepsReached, ReachesRow, Grows, Walks, unreached}
use Rattle.split_search.proofs.Attached.{some_none}
use Rattle.split_search.proofs.Turns.{ends_within}

-- ---- a queue that gets longer

pub longer_same : (queue : List ℕ) → HasAppended queue queue
longer_same queue = record { at_least = omega arith; same = λ k l. refl }

get_or_append : (xs : List ℕ) (x k : ℕ) → k < length xs → get_or (xs ++ x ∷ []) k 0 ≡ get_or xs k 0
get_or_append [] x k l = absurd (omega arith)
get_or_append (y ∷ xs) x zero l = refl
get_or_append (y ∷ xs) x (suc k) l = get_or_append xs x k (omega (arith, l))

pub longer_more : (before queue : List ℕ) (row : ℕ) → HasAppended before queue → HasAppended before (queue ++ row ∷ [])
longer_more before queue row is = record {
  at_least = let one_longer = length-append queue (row ∷ []) in let not_shorter = is.at_least in omega (arith, one_longer, not_shorter);
  same = λ k l. get_or_append queue row k (let not_shorter = is.at_least in omega (arith, l, not_shorter)) ∙ is.same k l;
}

pub queue_more : (t : SparseRows) (before after : List (Option Node)) (queue : List ℕ) (root number new : ℕ) → IsQueueOf t before queue → ReachesRow t before after root number new → new < t.width
    → IsQueueOf t after (queue ++ new ∷ [])
queue_more t before after queue root number new is reaches inside = record {
  size = reaches.size ∙ is.size;
  inside = all-append (λ row. row < t.width) queue (new ∷ []) is.inside (inside, tt);
  reached = all-append (λ row. row_node after row ≢ None) queue (new ∷ [])
      (all_weaker (λ row. row_node before row ≢ None) (λ row. row_node after row ≢ None) reaches.kept queue is.reached) (reaches.reached, tt);
  queued = λ row h. contains_from_in (queue ++ new ∷ []) row ((in-append queue new row).1 (elim (reaches.only row h) [
    | inl e ↦ inr e
    | inr g ↦ inl (in_from_contains queue row (is.queued row g))
  ]));
}

-- ---- closed rows

pub column_closed : (t : SparseRows) (nodes : List (Option Node)) (row column : ℕ) → row_node nodes row ≢ None → IsClosedAt t nodes column → IsColumnClosed t nodes row column
column_closed t nodes row column reached closed x y ends same none = go (row_node nodes x.line) refl
  where
    go : (o : Option Node) → row_node nodes x.line ≡ o → ⊥
    go None e = reached (sym (ap (row_node nodes) same) ∙ e)
    go (Some n) e = closed x y n ends e none

pub column_kept : (t : SparseRows) (before after : List (Option Node)) (row column : ℕ) → KeepsReached before after → IsColumnClosed t before row column → IsColumnClosed t after row column
column_kept t before after row column kept closed x y ends same = kept y.line (closed x y ends same)

pub columns_kept : (t : SparseRows) (before after : List (Option Node)) (row : ℕ) (run : List Nonzero) → KeepsReached before after → AllByRecursion (λ x. IsColumnClosed t before row x.line) run
    → AllByRecursion (λ x. IsColumnClosed t after row x.line) run
columns_kept t before after row run kept all = all_weaker (λ x. IsColumnClosed t before row x.line) (λ x. IsColumnClosed t after row x.line) (λ x. column_kept t before after row x.line kept) run all

-- a statement about the lines of a run holds in each line with a value
value_line : (P : ℕ → Type 0) (run : List Nonzero) (line : ℕ) → AllByRecursion (λ x. P x.line) run → value_in run line ≢ pos 0 → P line
value_line P [] line all n = absurd (n refl)
value_line P (x ∷ run) line all n = elim (two_cases (nat_eq x.line line)) [
  | inl h ↦ subst P (eq_of x.line line h) all.0
  | inr h ↦ value_line P run line all.1 (λ e. n (ap (λ (b : Bool). if b then x.value else value_in run line) h ∙ e))
]

end_nonzero : (t : SparseRows) (column : ℕ) (x y : Nonzero) → AreSparseRows t → HasEnds t column x y → sparse_entry t column x.line ≢ pos 0
end_nonzero t column x y shape (inl e) = let within = ends_within t column x y shape (inl e) in
    subst (λ (run : List Nonzero). value_in run x.line ≢ pos 0) (sym e) (value_there t.width (x ∷ y ∷ []) 0 (omega arith) (within.0, (within.1, tt)))
end_nonzero t column x y shape (inr e) = let within = ends_within t column x y shape (inr e) in
    subst (λ (run : List Nonzero). value_in run x.line ≢ pos 0) (sym e) (value_there t.width (y ∷ x ∷ []) 1 (omega arith) (within.1, (within.0, tt)))

pub row_closed : (m t : SparseRows) (nodes : List (Option Node)) (row : ℕ) (run : List Nonzero) → AreSparseRows t → AreCrossed m t → run ≡ run_of m row
    → AllByRecursion (λ x. IsColumnClosed t nodes row x.line) run
    → IsRowClosed t nodes row
row_closed m t nodes row run shape crossed same all column x y ends e =
    value_line (IsColumnClosed t nodes row) run column all
    (λ z. end_nonzero t column x y shape ends (ap (sparse_entry t column) e ∙ crossed.entries row column ∙ ap (λ (r : List Nonzero). value_in r column) (sym same) ∙ z)) x y ends e

pub closed_kept : (t : SparseRows) (before after : List (Option Node)) (queue later : List ℕ) (head : ℕ) → head ≤ length queue → KeepsReached before after
    → HasAppended queue later → AreClosedBelow t before queue head
    → AreClosedBelow t after later head
closed_kept t before after queue later head l kept longer closed k below column x y ends e =
    kept y.line (closed k below column x y ends (e ∙ longer.same k (omega (arith, l, below))))

pub closed_more : (t : SparseRows) (nodes : List (Option Node)) (queue : List ℕ) (head row : ℕ) → row ≡ get_or queue head 0 → AreClosedBelow t nodes queue head
    → IsRowClosed t nodes row → AreClosedBelow t nodes queue (head + 1)
closed_more t nodes queue head row is closed here k below = elim (cases_lt k head) [
  | inl l ↦ closed k l
  | inr l ↦ subst (IsRowClosed t nodes) (is ∙ ap (λ (i : ℕ). get_or queue i 0) (let at_head : head ≡ k = omega (arith, l, below) in at_head)) here
]

-- no column joins a reached row with another if the rows of the whole queue are closed
pub queue_closed : (t : SparseRows) (nodes : List (Option Node)) (queue : List ℕ) → IsQueueOf t nodes queue → AreClosedBelow t nodes queue (length queue) → IsForestClosed t nodes
queue_closed t nodes queue is closed column x y n ends e none =
    let place = is.queued x.line (λ f. some_none e f) in
    closed place.0 place.1 column x y ends (sym place.2 ∙ get_or_default queue place.0 x.line 0 place.1) none

-- ---- one more column of a row

-- while the columns of the row `here` are followed
abbrev pub Follows : SparseRows → List (Option Node) → List (Option Node) → ℕ → List ℕ → List ℕ → ℕ → List Nonzero → Type 0
Follows t before nodes root old queue here run = Walks t nodes root queue × (unreached nodes + length queue ≡ unreached before + length old)
    × KeepsReached before nodes × HasAppended old queue × AllByRecursion (λ x. IsColumnClosed t nodes here x.line) run

module _ (t : SparseRows) (before nodes later : List (Option Node)) (root here k : ℕ) (old queue : List ℕ) (run : List Nonzero) (below : k < length run) (reached : row_node before here ≢ None)
    (follows : Follows t before nodes root old queue here (take k run)) (closed : IsClosedAt t later (get_or run k no_nonzero).line) where
  closed_columns : KeepsReached nodes later → AllByRecursion (λ x. IsColumnClosed t later here x.line) (take (k + 1) run)
  closed_columns kept = subst (AllByRecursion (λ x. IsColumnClosed t later here x.line)) (sym (take_more run k no_nonzero below))
      (all-append (λ x. IsColumnClosed t later here x.line) (take k run) (get_or run k no_nonzero ∷ []) (columns_kept t nodes later here (take k run) kept follows.4)
      (column_closed t later here (get_or run k no_nonzero).line (kept here (follows.2 here reached)) closed, tt))

  pub follows_with : (next : List ℕ) (row : ℕ) → next ≡ queue ++ row ∷ [] → ReachesRow t nodes later root (length queue) row
      → unreached later + 1 ≡ unreached nodes → row < t.width → Follows t before later root old next here (take (k + 1) run)
  follows_with next row next_is reaches fewer inside = subst (λ (q : List ℕ). Follows t before later root old q here (take (k + 1) run)) (sym next_is) (
    record { grows = subst (Grows t later root) (sym longer) reaches.grows; queue_is = queue_more t nodes later queue root (length queue) row follows.0.queue_is reaches inside },
    (let same_total = follows.1 in omega (arith, longer, fewer, same_total)),
    λ r h. reaches.kept r (follows.2 r h),
    longer_more old queue row follows.3,
    closed_columns reaches.kept,
  )
    where
      longer : length (queue ++ row ∷ []) ≡ length queue + 1
      longer = length-append queue (row ∷ [])

  pub follows_without : later ≡ nodes → Follows t before later root old queue here (take (k + 1) run)
  follows_without same = (
    subst (λ (ns : List (Option Node)). Walks t ns root queue) (sym same) follows.0,
    ap (λ (ns : List (Option Node)). unreached ns + length queue) same ∙ follows.1,
    λ r h. subst (λ (ns : List (Option Node)). row_node ns r ≢ None) (sym same) (follows.2 r h),
    follows.3,
    closed_columns (λ r h. subst (λ (ns : List (Option Node)). row_node ns r ≢ None) (sym same) h),
  )
