-- Columns that are reached from the ends of a side, by one more row at a time.
use Rattle.std.proofs.Common.{◌≡◌, ◌<◌, ◌≤◌, ◌||◌, ◌⊎◌, ◌∙◌, inl, inr, not, cond, ℕ, zero, suc, Bool, true, false, sym, subst, refl, arith}
use Rattle.std.proofs.lemmas.Bool.{cases_lt}
use Rattle.cmr_base.specs.BitSets.{Bits}
use Rattle.cmr_base.specs.ColumnSets.{has_column, IsWithin}
use Rattle.cmr_base.specs.Matrix.{Matrix, entry, IsMatrix}
use Rattle.cmr_base.specs.Seeds.{count}
use Rattle.cmr_base.specs.Separations.{Lines}
use Rattle.cmr_base.proofs.Booleans.{is_nonzero_is, is_not, nonzero_is, not_both, not_is, not_false, or_is, or_left, or_right, two_cases}
use Rattle.cmr_base.proofs.NextNonzeros.{column_in}
use Rattle.path_places.specs.declared.side.Side.{Side}
use Rattle.path_places.specs.PathPlaces.{HasNoPath, HasWalk, IsFirstEdge, IsPathPlace}
use Rattle.path_places.specs.ReachedColumns.{IsNext}
use Rattle.path_places.specs.SideMasks.{IsSideOf}
use Rattle.path_places.specs.Submatrices.{IsFirstNonzero, IsMeetingColumn, IsMeetingRow, IsNonzeroAmong, SubmatrixView}

-- The reached columns are the columns with a walk of at most `steps` rows. No first edge has such a walk.
pub record IsAtStep (m : Matrix) (lines : Lines) (reached : Bits) : Type 0 where
  pub steps : ℕ
  pub only : (c : ℕ) → has_column reached.words c ≡ true → (n : ℕ) × (n ≤ steps) × HasWalk m lines n c
  pub all : (n c : ℕ) → n ≤ steps → HasWalk m lines n c → has_column reached.words c ≡ true
  pub none : (n i j : ℕ) → n ≤ steps → IsFirstEdge m lines n i j → ⊥

-- in the middle of the search
pub record AreReached (side : Side) (reached more : Bits) : Type 0 where
  pub size : reached.size ≡ side.matrix.now.width
  pub more_size : more.size ≡ side.matrix.now.width
  pub only : (c : ℕ) → has_column more.words c ≡ true → IsNext side reached c
  pub all : (c : ℕ) → IsNext side reached c → has_column more.words c ≡ true
  pub step : (lines : Lines) → IsSideOf lines side → IsAtStep side.matrix.now lines reached

-- the inner rows and the reached columns, and rows and the inner columns
abbrev pub inner_rows_at : Side → Bits → SubmatrixView
inner_rows_at side reached = record { matrix = side.matrix.now; rows = side.inner.rows; columns = reached }

abbrev pub inner_columns_at : Side → Bits → SubmatrixView
inner_columns_at side rows = record { matrix = side.matrix.now; rows = rows; columns = side.inner.columns }

abbrev pub edges_at : Side → Bits → SubmatrixView
edges_at side more = record { matrix = side.matrix.now; rows = side.ends.rows; columns = more }

-- The columns that are next are the inner columns that meet the inner rows that meet the reached columns.
module _ (side : Side) (reached rows : Bits) where
  pub next_from : ((r : ℕ) → has_column rows.words r ≡ true → IsMeetingRow (inner_rows_at side reached) r) → (c : ℕ) → IsMeetingColumn (inner_columns_at side rows) c → IsNext side reached c
  next_from only c (r, here) =
      let (before, there) = only r here.row in
      record { column = here.column; row = r; row_in = here.inside; row_inner = there.row; here = here.nonzero; before = before; is_reached = there.column; there = there.nonzero }

  pub next_meets : ((r : ℕ) → IsMeetingRow (inner_rows_at side reached) r → has_column rows.words r ≡ true) → (c : ℕ) → IsNext side reached c → IsMeetingColumn (inner_columns_at side rows) c
  next_meets all c next = (
    next.row,
    record {
      inside = next.row_in;
      row = all next.row (next.before, record { inside = next.row_in; row = next.row_inner; column = next.is_reached; nonzero = next.there });
      column = next.column;
      nonzero = next.here;
    },
  )

module _ (lines : Lines) (side : Side) (is : IsSideOf lines side) where
  -- at first the ends are reached
  pub first_step : (reached : Bits) → ((c : ℕ) → has_column reached.words c ≡ has_column side.ends.columns.words c) → IsAtStep side.matrix.now lines reached
  first_step reached same = record {
    steps = 0;
    only = λ c e. (0, omega arith, (is.end_columns c).0 (sym (same c) ∙ e));
    all = λ n c l walk. from_end n c l walk;
    none = λ n i j l edge. no_edge n i j l edge;
  }
    where
      from_end : (n c : ℕ) → n ≤ 0 → HasWalk side.matrix.now lines n c → has_column reached.words c ≡ true
      from_end zero c l walk = same c ∙ (is.end_columns c).1 walk
      from_end (suc n) c l walk = absurd (omega arith)

      no_edge : (n i j : ℕ) → n ≤ 0 → IsFirstEdge side.matrix.now lines n i j → ⊥
      no_edge zero i j l edge = edge.inner.1 edge.walk
      no_edge (suc n) i j l edge = absurd (omega arith)

  module _ (reached : Bits) (now : IsAtStep side.matrix.now lines reached) where
    -- a column that is next has a walk of one more row
    pub next_walk : (c : ℕ) → IsNext side reached c → (n : ℕ) × (n ≤ now.steps) × HasWalk side.matrix.now lines (suc n) c
    next_walk c next =
        let (n, l, walk) = now.only next.before next.is_reached in
        (n, l, ((is.inner_columns c).0 next.column, next.row, next.before, (is.inner_rows next.row).0 next.row_inner, nonzero_is (entry side.matrix.now next.row c) next.here, nonzero_is (entry side.matrix.now next.row next.before) next.there, walk))

    pub walk_next : (n c : ℕ) → n ≤ now.steps → HasWalk side.matrix.now lines (suc n) c → IsNext side reached c
    walk_next n c l (inner, r, d, row_inner, here, there, walk) = record {
      column = (is.inner_columns c).1 inner;
      row = r;
      row_in = row_inner.0.0;
      row_inner = (is.inner_rows r).1 row_inner;
      here = is_nonzero_is (entry side.matrix.now r c) here;
      before = d;
      is_reached = now.all n d l walk;
      there = is_nonzero_is (entry side.matrix.now r d) there;
    }

    module _ (more : Bits) (only : (c : ℕ) → has_column more.words c ≡ true → IsNext side reached c) (all : (c : ℕ) → IsNext side reached c → has_column more.words c ≡ true) where
      -- the first edge of such a walk is a nonzero in a column that is next
      edge_crosses : (n i j : ℕ) → n ≤ now.steps → IsFirstEdge side.matrix.now lines (suc n) i j → IsNonzeroAmong (edges_at side more) i j
      edge_crosses n i j l edge = record {
        inside = edge.end.on.0;
        row = (is.end_rows i).1 edge.end;
        column = all j (walk_next n j l edge.walk);
        nonzero = is_nonzero_is (entry side.matrix.now i j) edge.nonzero;
      }

      later_crosses : (n i j : ℕ) → n ≤ suc now.steps → IsFirstEdge side.matrix.now lines n i j → IsNonzeroAmong (edges_at side more) i j
      later_crosses zero i j l edge = absurd (edge.inner.1 edge.walk)
      later_crosses (suc n) i j l edge = edge_crosses n i j (omega arith) edge

      -- the first such nonzero is the first edge of a shortest path
      pub place_found : (row column : ℕ) → IsFirstNonzero (edges_at side more) row column → IsPathPlace side.matrix.now lines row column
      place_found row column found =
          let here = found.here in
          let next = only column here.column in
          let (n, l, walk) = next_walk column next in
          record {
            n = suc n;
            edge = record { end = (is.end_rows row).0 here.row; inner = (is.inner_columns column).0 next.column; nonzero = nonzero_is (entry side.matrix.now row column) here.nonzero; walk = walk };
            shortest = λ fewer i j edge low. now.none fewer i j (omega (arith, low, l)) edge;
            first = λ i j edge. found.first i j (edge_crosses n i j l edge);
          }

      -- if there is no such nonzero, walks of one more row are reached
      pub next_step : (new : Bits) → ((i j : ℕ) → IsNonzeroAmong (edges_at side more) i j → ⊥)
          → ((c : ℕ) → has_column new.words c ≡ (has_column reached.words c || has_column more.words c)) → IsAtStep side.matrix.now lines new
      next_step new none added = record {
        steps = suc now.steps;
        only = λ c e. elim (or_is (has_column reached.words c) (has_column more.words c) (sym (added c) ∙ e)) [
          | inl h ↦ let (n, l, walk) = now.only c h in (n, omega arith, walk)
          | inr h ↦ let (n, l, walk) = next_walk c (only c h) in (suc n, omega arith, walk)
        ];
        all = λ n c l walk. has_new n c l walk;
        none = λ n i j l edge. none i j (later_crosses n i j l edge);
      }
        where
          has_new : (n c : ℕ) → n ≤ suc now.steps → HasWalk side.matrix.now lines n c → has_column new.words c ≡ true
          has_new zero c l walk = added c ∙ or_left (has_column reached.words c) (has_column more.words c) (now.all 0 c (omega arith) walk)
          has_new (suc n) c l walk = added c ∙ or_right (has_column reached.words c) (has_column more.words c) (all c (walk_next n c (omega arith) walk))

      -- if nothing new is next, the columns of all walks are reached
      pub none_left : IsWithin more.words reached.words → HasNoPath side.matrix.now lines
      none_left within n i j edge =
          let (k, l, walk) = now.only j (has n j edge.walk) in
          now.none k i j l (record { end = edge.end; inner = edge.inner; nonzero = edge.nonzero; walk = walk })
        where
          has : (n c : ℕ) → HasWalk side.matrix.now lines n c → has_column reached.words c ≡ true
          has zero c walk = now.all 0 c (omega arith) walk
          has (suc n) c (inner, r, d, row_inner, here, there, walk) = within c (all c (record {
            column = (is.inner_columns c).1 inner;
            row = r;
            row_in = row_inner.0.0;
            row_inner = (is.inner_rows r).1 row_inner;
            here = is_nonzero_is (entry side.matrix.now r c) here;
            before = d;
            is_reached = has n d walk;
            there = is_nonzero_is (entry side.matrix.now r d) there;
          }))

-- ---- fewer columns are left each time

count_within : (p q : ℕ → Bool) (k : ℕ) → ((y : ℕ) → q y ≡ true → p y ≡ true) → (count q k ≤ count p k) × ((count q k < count p k) ⊎ ((y : ℕ) → y < k → p y ≡ true → q y ≡ true))
count_within p q zero inside = (omega arith, inr (λ y l. absurd (omega arith)))
count_within p q (suc k) inside = go (p k) (q k) refl refl (count_within p q k inside)
  where
    last : (y : ℕ) → y < suc k → ((y : ℕ) → y < k → p y ≡ true → q y ≡ true) → (p k ≡ true → q k ≡ true) → p y ≡ true → q y ≡ true
    last y l rest here = elim (cases_lt y k) [
      | inl low ↦ rest y low
      | inr high ↦ let is : k ≡ y = omega arith in subst (λ (x : ℕ). p x ≡ true → q x ≡ true) is here
    ]

    go : (s t : Bool) → p k ≡ s → q k ≡ t → (count q k ≤ count p k) × ((count q k < count p k) ⊎ ((y : ℕ) → y < k → p y ≡ true → q y ≡ true))
        → (cond t (suc (count q k)) (count q k) ≤ cond s (suc (count p k)) (count p k))
        × ((cond t (suc (count q k)) (count q k) < cond s (suc (count p k)) (count p k)) ⊎ ((y : ℕ) → y < suc k → p y ≡ true → q y ≡ true))
    go true true e f (few, inl fewer) = (omega arith, inl (omega arith))
    go true true e f (few, inr rest) = (omega arith, inr (λ y l. last y l rest (λ _. f)))
    go true false e f (few, _) = (omega arith, inl (omega arith))
    go false true e f (few, _) = absurd (not_both (p k) (inside k f) e)
    go false false e f (few, inl fewer) = (few, inl fewer)
    go false false e f (few, inr rest) = (few, inr (λ y l. last y l rest (λ h. absurd (not_both (p k) h e))))

-- the columns that are not in a set
abbrev pub left : Bits → ℕ → Bool
left reached c = not (has_column reached.words c)

pub fewer_left : (side : Side) (reached more new : Bits) → IsMatrix side.matrix.now → AreReached side reached more → (IsWithin more.words reached.words → ⊥)
    → ((c : ℕ) → has_column new.words c ≡ (has_column reached.words c || has_column more.words c)) → count (left new) side.matrix.now.width < count (left reached) side.matrix.now.width
fewer_left side reached more new shape so grows added = elim ((count_within (left reached) (left new) side.matrix.now.width inside).1) [
  | inl h ↦ h
  | inr none ↦ absurd (grows (λ c e. not_false (has_column reached.words c) (within c e (two_cases (left reached c)) none)))
]
  where
    has_more : (c : ℕ) → has_column more.words c ≡ true → has_column new.words c ≡ true
    has_more c e = added c ∙ or_right (has_column reached.words c) (has_column more.words c) e

    inside : (c : ℕ) → left new c ≡ true → left reached c ≡ true
    inside c e = elim (two_cases (has_column reached.words c)) [
      | inl h ↦ absurd (not_both (has_column new.words c) (added c ∙ or_left (has_column reached.words c) (has_column more.words c) h) (not_is (has_column new.words c) e))
      | inr h ↦ is_not (has_column reached.words c) h
    ]

    within : (c : ℕ) → has_column more.words c ≡ true → (left reached c ≡ true) ⊎ (left reached c ≡ false)
        → ((y : ℕ) → y < side.matrix.now.width → left reached y ≡ true → left new y ≡ true) → left reached c ≡ false
    within c e (inl h) none =
        let next = so.only c e in
        absurd (not_both (has_column new.words c) (has_more c e) (not_is (has_column new.words c) (none c (column_in side.matrix.now next.row c shape next.row_in next.here) h)))
    within c e (inr h) none = h
