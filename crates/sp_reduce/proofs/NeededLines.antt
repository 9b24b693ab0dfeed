-- If each line has two nonzeros, no line is reducible and one line is needed, then every line is needed.
use Rattle.std.proofs.Common.{◌≡◌, ◌≢◌, ◌<◌, ◌≤◌, ◌+◌, ◌&&◌, ◌∙◌, inl, inr, ℕ, zero, suc, Bool, true, false, cond, not, eqb, ltb, ℤ, pos, ◌*ℤ◌, List, [], ◌∷◌, length, get_or, filter, Option, Some, None, refl, ap, sym, subst, arith, eq-eqb}
use Rattle.std.specs.List.Sorted.{IsStrictlyIncreasing}
use Rattle.std.proofs.lemmas.Bool.{cases_lt, lt-ltb, eqb-false}
use Rattle.std.proofs.lemmas.List.Kept.{IsStrictlyIncreasing-filter}
use Rattle.std.proofs.lemmas.List.Filters.{sum_by-filter_both}
use Rattle.cmr_base.specs.declared.line.Line.{Line}
use Rattle.cmr_base.specs.declared.line.Line.TheVariants.{Row, Column}
use Rattle.cmr_base.specs.declared.line.Step.{Step}
use Rattle.cmr_base.specs.LineSets.{without, submatrix}
use Rattle.cmr_base.specs.Matrix.{Matrix, entry, is_nonzero}
use Rattle.cmr_base.specs.Members.{IsIn}
use Rattle.cmr_base.specs.Reductions.{HasLine, rows_without, columns_without, first_step, lines_of, nonzeros_at, removal_on, IsSeriesParallel, IsSeriesParallelOn}
use Rattle.cmr_base.proofs.Booleans.{and_false}
use Rattle.cmr_base.proofs.Integers.{products}
use Rattle.cmr_base.proofs.Members.{IsWithin}
use Rattle.cmr_base.proofs.RowLists.{filter_in, in_filter}
use Rattle.cmr_base.proofs.ListsWithout.{in_from_contains, contains_from_in, in_without, without_increases, increasing_distinct, place_of, place_is, true_is_false}
use Rattle.cmr_base.proofs.RemovedLines.{among_from_has_line, has_line_from_among, fewer_lines}
use Rattle.cmr_base.proofs.ThinLines.{thin_from_count, count_from_thin}
use Rattle.cmr_base.proofs.ReducibleLines.{HasTwin, IsReducible, reducible_from_reason, reason_from_reducible}
use Rattle.sp_reduce.specs.declared.kind.LineKind.{LineKind}
use Rattle.sp_reduce.specs.declared.kind.LineKind.TheVariants.{Rows, Columns}
use Rattle.sp_reduce.specs.LineKinds.{table}
use Rattle.sp_reduce.specs.NeededLines.{HaveTwoNonzeros, NeedsAllLines}
use Rattle.sp_reduce.proofs.Embeddings.{series_parallel-within}
use Rattle.sp_reduce.proofs.Meanings.{zero_counted}
use Rattle.sp_reduce.proofs.Orders.{put_back, search_is, search_none, after_step, empty_from_length}
use Rattle.sp_reduce.proofs.Submatrices.{lines_from_submatrix}

-- the items of the list that do not pass the test
abbrev others : (ℕ → Bool) → List ℕ → List ℕ
others p xs = filter (λ x. not (p x)) xs

in_others : (p : ℕ → Bool) (x : ℕ) (xs : List ℕ) → IsIn x (others p xs) → IsIn x xs × (p x ≡ false)
in_others p x xs h = let w = in_filter (λ y. not (p y)) x xs h in (w.0, turned (p x) w.1)
  where
    turned : (b : Bool) → not b ≡ true → b ≡ false
    turned true e = sym e
    turned false e = refl

others_in : (p : ℕ → Bool) (x : ℕ) (xs : List ℕ) → IsIn x xs → p x ≡ false → IsIn x (others p xs)
others_in p x xs h e = filter_in (λ y. not (p y)) x xs h (ap not e)

-- a line crosses each of these in a zero
abbrev IsZeroAt : (ℕ → ℤ) → (ℕ → Bool) → List ℕ → Type 0
IsZeroAt f q C = (j : ℕ) → IsIn j C → q j ≡ true → f j ≡ pos 0

module _ (binary : Bool) (M : ℕ → ℕ → ℤ) (R C : List ℕ) (p q : ℕ → Bool) where
  -- a line that is not thin in a part has its two nonzeros there
  zeros_outside : (i : ℕ) → nonzeros_at C (M i) ≡ 2 → ¬ IsReducible binary M (filter p R) (filter q C) i → (j : ℕ) → IsIn j (others q C) → M i j ≡ pos 0
  zeros_outside i two irreducible j h = elim (cases_lt 1 (nonzeros_at (filter q C) (M i))) [
    | inl many ↦
        let both = sum_by-filter_both q (λ x. not (q x)) (λ x. refl) (λ x. cond (is_nonzero (M i x)) 1 0) C in
        zero_counted (others q C) (M i) (omega (arith, both, two, many)) j h
    | inr few ↦ absurd (irreducible (inl (thin_from_count (filter q C) (M i) few)))
  ]

  -- a line outside of a part that has only zeros in the part is irreducible outside of it
  outside_irreducible : IsStrictlyIncreasing C → ((i : ℕ) → IsIn i (others p R) → IsZeroAt (M i) q C) → (i : ℕ) → IsIn i (others p R) → nonzeros_at C (M i) ≡ 2 → ¬ HasTwin binary M R C i
      → ¬ IsReducible binary M (others p R) (others q C) i
  outside_irreducible increases zeros i h two alone (inl thin) =
      let few = count_from_thin C (M i) (increasing_distinct C increases) (λ x y a b d e. thin x y (place x a d) (place y b e) d e) in
      omega (arith, few, two)
    where
      place : (x : ℕ) → IsIn x C → M i x ≢ pos 0 → IsIn x (others q C)
      place x a d = go (q x) refl
        where
          go : (b : Bool) → q x ≡ b → IsIn x (others q C)
          go true e = absurd (d (zeros i h x a e))
          go false e = others_in q x C a e
  outside_irreducible increases zeros i h two alone (inr t) = alone (record {
    line = t.line;
    stays = (in_others p t.line R t.stays).0;
    other = t.other;
    factor = t.factor;
    is_factor = t.is_factor;
    same = λ j a. same j a (q j) refl;
  })
    where
      times_zero : (a y z : ℤ) → y ≡ pos 0 → z ≡ pos 0 → y ≡ a *ℤ z
      times_zero a y z e f = rw (e, f) (simp products)

      same : (j : ℕ) → IsIn j C → (b : Bool) → q j ≡ b → M t.line j ≡ t.factor *ℤ M i j
      same j a true e = times_zero t.factor (M t.line j) (M i j) (zeros t.line t.stays j a e) (zeros i h j a e)
      same j a false e = t.same j (others_in q j C a e)

-- ---- sets of lines, by a test of each line

abbrev rows_of : (Line → Bool) → List ℕ → List ℕ
rows_of s R = filter (λ i. s (Row i)) R

abbrev columns_of : (Line → Bool) → List ℕ → List ℕ
columns_of s C = filter (λ j. s (Column j)) C

-- the set without a line
abbrev left : (Line → Bool) → Line → Line → Bool
left s (Row i) (Row k) = s (Row k) && not (eqb k i)
left s (Row i) (Column k) = s (Column k)
left s (Column j) (Row k) = s (Row k)
left s (Column j) (Column k) = s (Column k) && not (eqb k j)

both_filters : (p q : ℕ → Bool) (xs : List ℕ) → filter q (filter p xs) ≡ filter (λ x. p x && q x) xs
both_filters p q [] = refl
both_filters p q (x ∷ xs) = go (p x) (both_filters p q xs)
  where
    go : (b : Bool) → filter q (filter p xs) ≡ filter (λ x. p x && q x) xs
        → filter q (cond b (x ∷ filter p xs) (filter p xs)) ≡ cond (b && q x) (x ∷ filter (λ x. p x && q x) xs) (filter (λ x. p x && q x) xs)
    go true e = ap (λ (ys : List ℕ). cond (q x) (x ∷ ys) ys) e
    go false e = e

rows_left : (s : Line → Bool) (x : Line) (R : List ℕ) → rows_without (rows_of s R) x ≡ rows_of (left s x) R
rows_left s (Row i) R = both_filters (λ k. s (Row k)) (λ k. not (eqb k i)) R
rows_left s (Column j) R = refl

columns_left : (s : Line → Bool) (x : Line) (C : List ℕ) → columns_without (columns_of s C) x ≡ columns_of (left s x) C
columns_left s (Row i) C = refl
columns_left s (Column j) C = both_filters (λ k. s (Column k)) (λ k. not (eqb k j)) C

still_out : (s : Line → Bool) (x l : Line) → s l ≡ false → left s x l ≡ false
still_out s (Row i) (Row k) e = ap (λ (b : Bool). b && not (eqb k i)) e
still_out s (Row i) (Column k) e = e
still_out s (Column j) (Row k) e = e
still_out s (Column j) (Column k) e = ap (λ (b : Bool). b && not (eqb k j)) e

all_pass : (xs : List ℕ) → filter (λ x. true) xs ≡ xs
all_pass [] = refl
all_pass (x ∷ xs) = ap (λ (ys : List ℕ). x ∷ ys) (all_pass xs)

goes : (s : Line → Bool) (x : Line) → left s x x ≡ false
goes s (Row i) = ap (λ (b : Bool). s (Row i) && not b) (eq-eqb i i refl) ∙ and_false (s (Row i))
goes s (Column j) = ap (λ (b : Bool). s (Column j) && not b) (eq-eqb j j refl) ∙ and_false (s (Column j))

apart : (s : Line → Bool) (x l : Line) → s x ≡ true → s l ≡ false → x ≡ l → ⊥
apart s x l e f q = true_is_false (sym e ∙ ap s q ∙ f)

-- the rows and columns of a set that lacks a line
rows_lacking : (s : Line → Bool) (one : Line) (R : List ℕ) → s one ≡ false → IsWithin (rows_of s R) (rows_without R one)
rows_lacking s (Row i) R e x h = let w = in_filter (λ k. s (Row k)) x R h in in_without i x R w.0 (λ q. apart s (Row x) (Row i) w.1 e (ap Row q))
rows_lacking s (Column j) R e x h = (in_filter (λ k. s (Row k)) x R h).0

columns_lacking : (s : Line → Bool) (one : Line) (C : List ℕ) → s one ≡ false → IsWithin (columns_of s C) (columns_without C one)
columns_lacking s (Row i) C e x h = (in_filter (λ k. s (Column k)) x C h).0
columns_lacking s (Column j) C e x h = let w = in_filter (λ k. s (Column k)) x C h in in_without j x C w.0 (λ q. apart s (Column x) (Column j) w.1 e (ap Column q))

-- each line has two nonzeros, and no line is reducible
pub record IsClosed (binary : Bool) (M : ℕ → ℕ → ℤ) (R C : List ℕ) : Type 0 where
  pub rows_increase : IsStrictlyIncreasing R
  pub columns_increase : IsStrictlyIncreasing C
  pub rows : (i : ℕ) → IsIn i R → nonzeros_at C (M i) ≡ 2
  pub columns : (j : ℕ) → IsIn j C → nonzeros_at R (λ i. M i j) ≡ 2
  pub none : first_step binary M R C (lines_of R C) ≡ None

module _ (binary : Bool) (M : ℕ → ℕ → ℤ) (A B : List ℕ) (r : IsStrictlyIncreasing A) (c : IsStrictlyIncreasing B) (none : first_step binary M A B (lines_of A B) ≡ None) where
  row_stuck : (i : ℕ) → IsIn i A → ¬ IsReducible binary M A B i
  row_stuck i h w = search_none binary M A B (lines_of A B) none (Row i) (among_from_has_line (Row i) A B (contains_from_in A i h)) (reason_from_reducible binary M Row Column A B i c w)

  column_stuck : (j : ℕ) → IsIn j B → ¬ IsReducible binary (λ j i. M i j) B A j
  column_stuck j h w =
      search_none binary M A B (lines_of A B) none (Column j) (among_from_has_line (Column j) A B (contains_from_in B j h))
      (reason_from_reducible binary (λ j i. M i j) Column Row B A j r w)

-- a series-parallel set without reducible line has no line
no_line : (binary : Bool) (M : ℕ → ℕ → ℤ) (A B : List ℕ) → ((i : ℕ) → IsIn i A → ¬ IsReducible binary M A B i) → ((j : ℕ) → IsIn j B → ¬ IsReducible binary (λ j i. M i j) B A j)
    → (line : Line) → HasLine A B line → IsSeriesParallelOn binary M A B → ⊥
no_line binary M A B rows columns line h ([], (r, c)) = empty line h
  where
    empty : (line : Line) → HasLine A B line → ⊥
    empty (Row i) h = subst (λ (xs : List ℕ). IsIn i xs) r (in_from_contains A i h)
    empty (Column j) h = subst (λ (xs : List ℕ). IsIn j xs) c (in_from_contains B j h)
no_line binary M A B rows columns line h (Row i ∷ order, (stays, some, ends)) = rows i (in_from_contains A i stays) (reducible_from_reason binary M Row Column A B i some)
no_line binary M A B rows columns line h (Column j ∷ order, (stays, some, ends)) =
    columns j (in_from_contains B j stays) (reducible_from_reason binary (λ j i. M i j) Column Row B A j some)

module _ (binary : Bool) (M : ℕ → ℕ → ℤ) (R C : List ℕ) (w : IsClosed binary M R C) (one : Line) (sp : IsSeriesParallelOn binary M (rows_without R one) (columns_without C one)) where
  row_alone : (i : ℕ) → IsIn i R → ¬ HasTwin binary M R C i
  row_alone i h t = row_stuck binary M R C w.rows_increase w.columns_increase w.none i h (inr t)

  column_alone : (j : ℕ) → IsIn j C → ¬ HasTwin binary (λ j i. M i j) C R j
  column_alone j h t = column_stuck binary M R C w.rows_increase w.columns_increase w.none j h (inr t)

  kept_rows_increase : (s : Line → Bool) → IsStrictlyIncreasing (rows_of s R)
  kept_rows_increase s = IsStrictlyIncreasing-filter (λ i. s (Row i)) R w.rows_increase

  kept_columns_increase : (s : Line → Bool) → IsStrictlyIncreasing (columns_of s C)
  kept_columns_increase s = IsStrictlyIncreasing-filter (λ j. s (Column j)) C w.columns_increase

  -- a set without the line is part of the lines that remain without it
  lacking : (s : Line → Bool) → s one ≡ false → IsSeriesParallelOn binary M (rows_of s R) (columns_of s C)
  lacking s e =
      series_parallel-within binary M (rows_without R one) (columns_without C one) (rows_of s R) (columns_of s C) (kept_rows_increase s) (kept_columns_increase s)
      (rows_lacking s one R e) (columns_lacking s one C e) sp

  -- a set with the line, without another line, has a reducible line: its complement would have none
  module _ (s : Line → Bool) (has : s one ≡ true) (line : Line) (there : HasLine R C line) (out : s line ≡ false) (none : first_step binary M (rows_of s R) (columns_of s C) (lines_of (rows_of s R) (columns_of s C)) ≡ None) where
    row_crosses : (i : ℕ) → IsIn i (rows_of s R) → (j : ℕ) → IsIn j (others (λ j. s (Column j)) C) → M i j ≡ pos 0
    row_crosses i h = zeros_outside binary M R C (λ i. s (Row i)) (λ j. s (Column j)) i (w.rows i (in_filter (λ i. s (Row i)) i R h).0)
        (row_stuck binary M (rows_of s R) (columns_of s C) (kept_rows_increase s) (kept_columns_increase s) none i h)

    column_crosses : (j : ℕ) → IsIn j (columns_of s C) → (i : ℕ) → IsIn i (others (λ i. s (Row i)) R) → M i j ≡ pos 0
    column_crosses j h = zeros_outside binary (λ j i. M i j) C R (λ j. s (Column j)) (λ i. s (Row i)) j (w.columns j (in_filter (λ j. s (Column j)) j C h).0)
        (column_stuck binary M (rows_of s R) (columns_of s C) (kept_rows_increase s) (kept_columns_increase s) none j h)

    other_rows : (i : ℕ) → IsIn i (others (λ i. s (Row i)) R) → ¬ IsReducible binary M (others (λ i. s (Row i)) R) (others (λ j. s (Column j)) C) i
    other_rows i h =
        let inside = (in_others (λ i. s (Row i)) i R h).0 in
        outside_irreducible binary M R C (λ i. s (Row i)) (λ j. s (Column j)) w.columns_increase (λ k g j a e. column_crosses j (filter_in (λ j. s (Column j)) j C a e) k g)
        i h (w.rows i inside) (row_alone i inside)

    other_columns : (j : ℕ) → IsIn j (others (λ j. s (Column j)) C) → ¬ IsReducible binary (λ j i. M i j) (others (λ j. s (Column j)) C) (others (λ i. s (Row i)) R) j
    other_columns j h =
        let inside = (in_others (λ j. s (Column j)) j C h).0 in
        outside_irreducible binary (λ j i. M i j) C R (λ j. s (Column j)) (λ i. s (Row i)) w.rows_increase (λ k g i a e. row_crosses i (filter_in (λ i. s (Row i)) i R a e) k g)
        j h (w.columns j inside) (column_alone j inside)

    other_line : (l : Line) → HasLine R C l → s l ≡ false → HasLine (others (λ i. s (Row i)) R) (others (λ j. s (Column j)) C) l
    other_line (Row i) h e = contains_from_in (others (λ i. s (Row i)) R) i (others_in (λ i. s (Row i)) i R (in_from_contains R i h) e)
    other_line (Column j) h e = contains_from_in (others (λ j. s (Column j)) C) j (others_in (λ j. s (Column j)) j C (in_from_contains C j h) e)

    not_stuck : ⊥
    not_stuck =
        no_line binary M (others (λ i. s (Row i)) R) (others (λ j. s (Column j)) C) other_rows other_columns line (other_line line there out)
        (lacking (λ l. not (s l)) (ap not has))

  any_lacking : (n : ℕ) (s : Line → Bool) (line : Line) → HasLine R C line → s line ≡ false → length (rows_of s R) + length (columns_of s C) ≤ n
      → IsSeriesParallelOn binary M (rows_of s R) (columns_of s C)
  any_lacking zero s line there out few = ([], (empty_from_length (rows_of s R) (omega (arith, few)), empty_from_length (columns_of s C) (omega (arith, few))))
  any_lacking (suc n) s line there out few =
      go (s one) refl (first_step binary M (rows_of s R) (columns_of s C) (lines_of (rows_of s R) (columns_of s C))) refl
      (λ x h. any_lacking n (left s x) line there (still_out s x line out) h)
    where
      go : (b : Bool) → s one ≡ b → (o : Option Step) → first_step binary M (rows_of s R) (columns_of s C) (lines_of (rows_of s R) (columns_of s C)) ≡ o
          → ((x : Line) → length (rows_of (left s x) R) + length (columns_of (left s x) C) ≤ n → IsSeriesParallelOn binary M (rows_of (left s x) R) (columns_of (left s x) C))
          → IsSeriesParallelOn binary M (rows_of s R) (columns_of s C)
      go false e o f again = lacking s e
      go true e None f again = absurd (not_stuck s e line there out f)
      go true e (Some step) f again =
          let found = search_is binary M (rows_of s R) (columns_of s C) (lines_of (rows_of s R) (columns_of s C)) step f in
          let stays = has_line_from_among step.line (rows_of s R) (columns_of s C) found.among in
          let fewer = fewer_lines step.line (rows_of s R) (columns_of s C) stays in
          let rows = rows_left s step.line R in
          let columns = columns_left s step.line C in
          put_back binary M (rows_of s R) (columns_of s C) step.line stays found.some
          (subst (λ (xs : List ℕ). IsSeriesParallelOn binary M xs (columns_without (columns_of s C) step.line)) (sym rows)
          (subst (λ (xs : List ℕ). IsSeriesParallelOn binary M (rows_of (left s step.line) R) xs) (sym columns)
          (again step.line (omega (arith, fewer, few, ap (λ (xs : List ℕ). length xs) rows, ap (λ (xs : List ℕ). length xs) columns)))))

  -- without any one line the others can all be removed
  pub every_line_needed : (line : Line) → HasLine R C line → IsSeriesParallelOn binary M (rows_without R line) (columns_without C line)
  every_line_needed line there =
      let s = left (λ l. true) line in
      let rows : rows_without R line ≡ rows_of s R = ap (λ (xs : List ℕ). rows_without xs line) (sym (all_pass R)) ∙ rows_left (λ l. true) line R in
      let columns : columns_without C line ≡ columns_of s C = ap (λ (xs : List ℕ). columns_without xs line) (sym (all_pass C)) ∙ columns_left (λ l. true) line C in
      subst (λ (xs : List ℕ). IsSeriesParallelOn binary M xs (columns_without C line)) (sym rows)
      (subst (λ (xs : List ℕ). IsSeriesParallelOn binary M (rows_of s R) xs) (sym columns)
      (any_lacking (length (rows_of s R) + length (columns_of s C)) s line there (goes (λ l. true) line) (omega arith)))

-- ---- lines of a matrix

pub no_steps : (binary : Bool) (M : ℕ → ℕ → ℤ) (n : ℕ) (R C : List ℕ) → 0 < n → (removal_on binary M n R C).steps ≡ [] → first_step binary M R C (lines_of R C) ≡ None
no_steps binary M zero R C some e = absurd (omega (arith, some))
no_steps binary M (suc n) R C some e = go (first_step binary M R C (lines_of R C)) refl e
  where
    go : (o : Option Step) → first_step binary M R C (lines_of R C) ≡ o → (after_step binary M n R C o).steps ≡ [] → first_step binary M R C (lines_of R C) ≡ None
    go None q e = q
    go (Some step) q e = let l = ap (λ (steps : List Step). length steps) e in absurd (omega (arith, l))

two_of : (m : Matrix) (kind : LineKind) (own across : List ℕ) → HaveTwoNonzeros m kind own across → (line : ℕ) → IsIn line own → nonzeros_at across (table (entry m) kind line) ≡ 2
two_of m kind own across two line h =
    let w = place_is line own h in
    subst (λ (x : ℕ). nonzeros_at across (table (entry m) kind x) ≡ 2) w.there (two (place_of line own) w.in_range)

pub needs_all : (binary : Bool) (m : Matrix) (R C : List ℕ) → IsStrictlyIncreasing R → IsStrictlyIncreasing C → 0 < length R → HaveTwoNonzeros m Rows R C → HaveTwoNonzeros m Columns C R
    → first_step binary (entry m) R C (lines_of R C) ≡ None → IsSeriesParallel binary (submatrix m (without R (get_or R 0 0)) C) → NeedsAllLines binary m R C
needs_all binary m R C r c some rows columns none sp =
    let one = get_or R 0 0 in
    let closed : IsClosed binary (entry m) R C = record {
      rows_increase = r;
      columns_increase = c;
      rows = two_of m Rows R C rows;
      columns = two_of m Columns C R columns;
      none = none;
    } in
    every_line_needed binary (entry m) R C closed (Row one) (lines_from_submatrix binary m (without R one) C (without_increases one R r) c sp)

-- ---- for answers

pub none_more : (n : ℕ) → ltb 0 n ≡ false → n ≡ 0
none_more n e = elim (cases_lt 0 n) [ inl h ↦ true_is_false (sym (lt-ltb 0 n h) ∙ e) | inr l ↦ omega (arith, l) ]

pub some_there : (n : ℕ) (b : Bool) → b ≡ eqb n 0 → b ≡ false → 0 < n
some_there n b e f = let d = eqb-false n 0 (sym e ∙ f) in omega (arith, d)
