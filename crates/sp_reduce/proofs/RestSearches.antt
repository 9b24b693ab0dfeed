-- A greedy search on the lines that the stated order leaves.
use Rattle.std.proofs.Common.{◌≡◌, ◌<◌, ◌≤◌, ◌+◌, ◌-◌, ◌++◌, ◌∙◌, inl, inr, ℕ, zero, suc, Bool, true, false, cond, nat_lt, min, List, [], ◌∷◌, length, Option, Some, None, refl, ap, ap₂, sym, subst, arith}
use Rattle.std.specs.List.Sorted.{IsStrictlyIncreasing}
use Rattle.std.proofs.lemmas.Bool.{cases_lt}
use Rattle.std.proofs.Math.Nat.{min-le_left, min-le_right, le-min}
use Rattle.std.proofs.lemmas.Bool.Decides.{nat_tests}
use Rattle.cmr_base.specs.declared.line.Line.{Line}
use Rattle.cmr_base.specs.declared.line.Line.TheVariants.{Row, Column}
use Rattle.cmr_base.specs.declared.line.Step.{Step}
use Rattle.cmr_base.specs.declared.line_set.LineSet.{LineSet}
use Rattle.cmr_base.specs.LineSets.{first_lines, submatrix, IsRowSet, IsColumnSet}
use Rattle.cmr_base.specs.Matrix.{Matrix, height, entry}
use Rattle.cmr_base.specs.Members.{IsIn}
use Rattle.cmr_base.specs.Reductions.{HasLine, rows_without, columns_without, first_step, lines_of, removal_on, IsSeriesParallel, IsSeriesParallelOn}
use Rattle.cmr_base.specs.GreedySets.{IsGreedyFrom, IsGreedySet}
use Rattle.cmr_base.proofs.Members.{IsWithin}
use Rattle.cmr_base.proofs.ListsWithout.{contains_from_in, preimage}
use Rattle.cmr_base.proofs.Places.{members_below}
use Rattle.cmr_base.proofs.RemovedLines.{IsAmong, rows_increase, columns_increase, rows_within, columns_within, rows_without-within, columns_without-within, has_line-within, line_gone, row_set_from_within, column_set_from_within}
use Rattle.minimal_sets.specs.LeftOut.{line_numbered, lines_between, rows_left, columns_left}
use Rattle.minimal_sets.proofs.GreedyRuns.{rows_left-within, columns_left-within, rows_left-increase, columns_left-increase, greedy-append, greedy_left}
use Rattle.minimal_sets.proofs.Passes.{IsCount, all_rows, all_columns, row_set_left, column_set_left, greedy_from_all}
use Rattle.sp_reduce.specs.GreedyRests.{AreNeededBefore, IsGreedySearch, IsRestWithout}
use Rattle.sp_reduce.proofs.EarlyLines.{IsEarlyLine, first_step-early, early_back, early_removed}
use Rattle.sp_reduce.proofs.WithoutLemmas.{without_none}
use Rattle.sp_reduce.proofs.Orders.{after_step, rest_from_series_parallel}
use Rattle.sp_reduce.proofs.Submatrices.{submatrix_from_lines, lines_from_submatrix, series_parallel_inherited, row_set_within, column_set_within}
use Rattle.sp_reduce.proofs.Embeddings.{series_parallel-within}

-- ---- runs of lines

between_joined : (height from count more : ℕ) → lines_between height from (count + more) ≡ lines_between height from count ++ lines_between height (from + count) more
between_joined height from zero more = ap₂ (λ (a b : ℕ). lines_between height a b) (start from) (none more)
  where
    start : (n : ℕ) → n ≡ n + 0
    start n = omega arith

    none : (n : ℕ) → 0 + n ≡ n
    none n = omega arith
between_joined height from (suc count) more =
    ap (λ (n : ℕ). lines_between height from n) (one count more)
    ∙ ap (λ (lines : List Line). line_numbered height from ∷ lines) (between_joined height (from + 1) count more ∙ ap (λ (n : ℕ). lines_between height (from + 1) count ++ lines_between height n more) (next from count))
  where
    one : (c n : ℕ) → suc c + n ≡ suc (c + n)
    one c n = omega arith

    next : (f c : ℕ) → (f + 1) + c ≡ f + suc c
    next f c = omega arith

among_between : (height from count n : ℕ) → from ≤ n → n < from + count → IsAmong (line_numbered height n) (lines_between height from count)
among_between height from zero n low high = absurd (omega (arith, low, high))
among_between height from (suc count) n low high = elim (cases_lt from n) [
  | inl past ↦ inr (among_between height (from + 1) count n (omega (arith, past)) (omega (arith, high)))
  | inr here ↦ inl (ap (line_numbered height) (same n from low here))
]
  where
    same : (a b : ℕ) → b ≤ a → a ≤ b → a ≡ b
    same a b g h = omega (arith, g, h)

not_left : (lines : List Line) (R C : List ℕ) (l : Line) → IsAmong l lines → HasLine (rows_left R lines) (columns_left C lines) l → ⊥
not_left [] R C l h there = h
not_left (x ∷ lines) R C l (inl e) there =
    line_gone x (rows_left (rows_without R x) lines) (columns_left (columns_without C x) lines) R C (rows_left-within lines (rows_without R x)) (columns_left-within lines (columns_without C x))
    (subst (λ (y : Line). HasLine (rows_left (rows_without R x) lines) (columns_left (columns_without C x) lines) y) e there)
not_left (x ∷ lines) R C l (inr h) there = not_left lines (rows_without R x) (columns_without C x) l h there

-- the number of a line of the matrix
record IsNumberOf (m : Matrix) (l : Line) (n : ℕ) : Type 0 where
  line : line_numbered (height m) n ≡ l
  in_range : n < height m + m.width

numbered : (binary : Bool) (m : Matrix) (R C : List ℕ) (l : Line) → IsRowSet m R → IsColumnSet m C → IsEarlyLine binary (entry m) R C l → (n : ℕ) × IsNumberOf m l n
numbered binary m R C (Row i) rows columns (there, early) =
    let small = members_below (height m) R rows.in_range i there in
    (i, record { line = ap (λ (b : Bool). cond b (Row i) (Column (i - height m))) (before i (height m) small); in_range = omega (arith, small) })
  where
    before : (i h : ℕ) → i < h → nat_lt i h ≡ true
    before i h g = grind (arith, nat_tests)
numbered binary m R C (Column j) rows columns (there, early) =
    let small = members_below m.width C columns.in_range j there in (
      height m + j,
      record {
        line = ap (λ (b : Bool). cond b (Row (height m + j)) (Column (height m + j - height m))) (after j (height m)) ∙ ap Column (rest j (height m));
        in_range = omega (arith, small);
      },
    )
  where
    after : (j h : ℕ) → nat_lt (h + j) h ≡ false
    after j h = grind (arith, nat_tests)

    rest : (j h : ℕ) → h + j - h ≡ j
    rest j h = omega arith

module _ (binary : Bool) (m : Matrix) where
  abbrev P : Matrix → Type 0
  P = IsSeriesParallel binary

  abbrev IsOn : List ℕ → List ℕ → Type 0
  IsOn R C = IsSeriesParallelOn binary (entry m) R C

  needed_within : (next : ℕ) (R C A B : List ℕ) → IsStrictlyIncreasing A → IsStrictlyIncreasing B → IsWithin A R → IsWithin B C → AreNeededBefore binary m next R C → AreNeededBefore binary m next A B
  needed_within next R C A B a b within_rows within_columns needed n h there =
      let l = line_numbered (height m) n in
      series_parallel-within binary (entry m) (rows_without R l) (columns_without C l) (rows_without A l) (columns_without B l) (rows_increase l A a) (columns_increase l B b)
      (rows_without-within l A R within_rows) (columns_without-within l B C within_columns) (needed n h (has_line-within l R C A B within_rows within_columns there))

  fewer_rows : (l : Line) (R : List ℕ) → IsRowSet m R → IsRowSet m (rows_without R l)
  fewer_rows l R is = row_set_from_within m (rows_without R l) (rows_increase l R is.increasing) (λ x h. row_set_within m R is x (rows_within l R x h))

  fewer_columns : (l : Line) (C : List ℕ) → IsColumnSet m C → IsColumnSet m (columns_without C l)
  fewer_columns l C is = column_set_from_within m (columns_without C l) (columns_increase l C is.increasing) (λ x h. column_set_within m C is x (columns_within l C x h))

  -- the search finds the same in the lines that the stated order leaves
  same_answer : (fuel from count : ℕ) (R C A B : List ℕ) → IsRowSet m R → IsColumnSet m C → height m + m.width ≡ from + count → ¬ IsOn R C → AreNeededBefore binary m from R C
      → IsGreedyFrom P m (lines_between (height m) from count) (removal_on binary (entry m) fuel R C).rows (removal_on binary (entry m) fuel R C).columns A B
      → IsGreedyFrom P m (lines_between (height m) from count) R C A B
  same_answer zero from count R C A B rows columns all lacks needed g = g
  same_answer (suc fuel) from count R C A B rows columns all lacks needed g =
      go (first_step binary (entry m) R C (lines_of R C)) refl g
      (λ l lack need h. same_answer fuel from count (rows_without R l) (columns_without C l) A B (fewer_rows l R rows) (fewer_columns l C columns) all lack need h)
    where
      Goal : Type 0
      Goal = IsGreedyFrom P m (lines_between (height m) from count) R C A B

      go : (o : Option Step) → first_step binary (entry m) R C (lines_of R C) ≡ o
          → IsGreedyFrom P m (lines_between (height m) from count) (after_step binary (entry m) fuel R C o).rows (after_step binary (entry m) fuel R C o).columns A B
          → ((l : Line) → ¬ IsOn (rows_without R l) (columns_without C l) → AreNeededBefore binary m from (rows_without R l) (columns_without C l)
          → IsGreedyFrom P m (lines_between (height m) from count) (removal_on binary (entry m) fuel (rows_without R l) (columns_without C l)).rows
          (removal_on binary (entry m) fuel (rows_without R l) (columns_without C l)).columns A B
          → IsGreedyFrom P m (lines_between (height m) from count) (rows_without R l) (columns_without C l) A B) → Goal
      go None e h again = h
      go (Some step) e h again =
          let l = step.line in
          let early = first_step-early binary (entry m) R C step rows.increasing columns.increasing e in
          let lack : ¬ IsOn (rows_without R l) (columns_without C l) = λ sp. lacks (early_back binary m R C l rows.increasing columns.increasing early sp) in
          let (n, is) = numbered binary m R C l rows columns early in
          let there : HasLine R C l = has l early in
          let fewer = again l lack (needed_within from R C (rows_without R l) (columns_without C l) (rows_increase l R rows.increasing) (columns_increase l C columns.increasing) (rows_within l R) (columns_within l C) needed) h in
          elim (cases_lt n from) [
            | inl past ↦ absurd (lack (subst (λ (x : Line). IsOn (rows_without R x) (columns_without C x)) is.line (needed n past (subst (λ (x : Line). HasLine R C x) (sym is.line) there))))
            | inr low ↦
                early_removed binary m count from n R C A B rows.increasing columns.increasing low (let high = is.in_range in omega (arith, high, all))
                (subst (λ (x : Line). IsEarlyLine binary (entry m) R C x) (sym is.line) early) lacks
                (subst (λ (x : Line). IsGreedyFrom P m (lines_between (height m) from count) (rows_without R x) (columns_without C x) A B) (sym is.line) fewer)
          ]
        where
          has : (l : Line) → IsEarlyLine binary (entry m) R C l → HasLine R C l
          has (Row i) (there, early) = contains_from_in R i there
          has (Column j) (there, early) = contains_from_in C j there

  -- the lines that the stated order leaves
  pub record IsRest (R C A B : List ℕ) : Type 0 where
    pub rows : IsWithin A R
    pub columns : IsWithin B C
    pub rows_increase : IsStrictlyIncreasing A
    pub columns_increase : IsStrictlyIncreasing B
    pub lacks : ¬ IsOn R C → ¬ IsOn A B

  rest_is : (fuel : ℕ) (R C : List ℕ) → IsStrictlyIncreasing R → IsStrictlyIncreasing C → IsRest R C (removal_on binary (entry m) fuel R C).rows (removal_on binary (entry m) fuel R C).columns
  rest_is zero R C r c = record { rows = λ x h. h; columns = λ x h. h; rows_increase = r; columns_increase = c; lacks = λ lack. lack }
  rest_is (suc fuel) R C r c =
      go (first_step binary (entry m) R C (lines_of R C)) refl (λ l. rest_is fuel (rows_without R l) (columns_without C l) (rows_increase l R r) (columns_increase l C c))
    where
      go : (o : Option Step) → first_step binary (entry m) R C (lines_of R C) ≡ o
          → ((l : Line) → IsRest (rows_without R l) (columns_without C l) (removal_on binary (entry m) fuel (rows_without R l) (columns_without C l)).rows
          (removal_on binary (entry m) fuel (rows_without R l) (columns_without C l)).columns)
          → IsRest R C (after_step binary (entry m) fuel R C o).rows (after_step binary (entry m) fuel R C o).columns
      go None e again = record { rows = λ x h. h; columns = λ x h. h; rows_increase = r; columns_increase = c; lacks = λ lack. lack }
      go (Some step) e again =
          let l = step.line in
          let w = again l in
          let early = first_step-early binary (entry m) R C step r c e in
          record {
            rows = λ x h. rows_within l R x (w.rows x h);
            columns = λ x h. columns_within l C x (w.columns x h);
            rows_increase = w.rows_increase;
            columns_increase = w.columns_increase;
            lacks = λ lack. w.lacks (λ sp. lack (early_back binary m R C l r c early sp));
          }

  pub search_start : ¬ IsOn (first_lines (height m)) (first_lines m.width) → IsGreedySearch binary m 0 (first_lines (height m)) (first_lines m.width)
  search_start lack = record {
    in_range = omega arith;
    row_set = all_rows m;
    column_set = all_columns m;
    lacks = lack;
    needed = λ n h there. absurd (omega (arith, h));
    answer = λ A B g.
        greedy_from_all P m (first_lines (height m)) (first_lines m.width) A B refl refl
        (subst (λ (count : ℕ). IsGreedyFrom P m (lines_between (height m) 0 count) (first_lines (height m)) (first_lines m.width) A B) (whole (height m + m.width)) g);
  }
    where
      whole : (n : ℕ) → n - 0 ≡ n
      whole n = omega arith

  -- a run of lines is removed, and then what the stated order removes
  pub search_removed : (next count : ℕ) (lines rest : LineSet) → IsGreedySearch binary m next lines.rows lines.columns → next + count ≤ height m + m.width
      → IsRestWithout binary m lines next count rest
      → IsGreedySearch binary m (next + count) rest.rows rest.columns
  search_removed next count lines rest s few left =
      let R = lines.rows in
      let C = lines.columns in
      let run = lines_between (height m) next count in
      let F = rows_left R run in
      let G = columns_left C run in
      let f = rows_left-increase run R s.row_set.increasing in
      let g = columns_left-increase run C s.column_set.increasing in
      let end = removal_on binary (entry m) (length F + length G) F G in
      let is = rest_is (length F + length G) F G f g in
      let lack : ¬ IsOn F G = λ sp. let none = rest_from_series_parallel binary (entry m) (length F + length G) F G (omega arith) f g sp in left.some (left.rows ∙ none.0, left.columns ∙ none.1) in
      let needed : AreNeededBefore binary m (next + count) F G =
      λ n h there. elim (cases_lt n next) [
        | inl past ↦ needed_within next R C F G f g (rows_left-within run R) (columns_left-within run C) s.needed n past there
        | inr low ↦ absurd (not_left run R C (line_numbered (height m) n) (among_between (height m) next count n low h) there)
      ] in
      let more : height m + m.width - next ≡ count + (height m + m.width - (next + count)) = omega (arith, few) in
      let found : IsGreedySearch binary m (next + count) end.rows end.columns = record {
        in_range = few;
        row_set = row_set_from_within m end.rows is.rows_increase (λ x h. row_set_within m R s.row_set x (rows_left-within run R x (is.rows x h)));
        column_set = column_set_from_within m end.columns is.columns_increase (λ x h. column_set_within m C s.column_set x (columns_left-within run C x (is.columns x h)));
        lacks = is.lacks lack;
        needed = needed_within (next + count) F G end.rows end.columns is.rows_increase is.columns_increase is.rows is.columns needed;
        answer = λ A B h. s.answer A B
            (subst (λ (lines : List Line). IsGreedyFrom P m lines R C A B) (sym (ap (lines_between (height m) next) more ∙ between_joined (height m) next count (height m + m.width - (next + count))))
            (greedy-append P m run (lines_between (height m) (next + count) (height m + m.width - (next + count))) R C F G A B
            (greedy_left P m (series_parallel_inherited binary m) run R C s.row_set.increasing s.column_set.increasing (λ p. lack (lines_from_submatrix binary m F G f g p)))
            (same_answer (length F + length G) (next + count) (height m + m.width - (next + count)) F G A B (row_set_left m R run s.row_set) (column_set_left m C run s.column_set) (omega (arith, few)) lack needed h)));
      } in
      subst (λ (rows : List ℕ). IsGreedySearch binary m (next + count) rows rest.columns) (sym left.rows) (subst (λ (columns : List ℕ). IsGreedySearch binary m (next + count) end.rows columns) (sym left.columns) found)

  -- the search on what the stated order leaves of all lines
  module _ (all rest : LineSet) (rows : all.rows ≡ first_lines (height m)) (columns : all.columns ≡ first_lines m.width) (left : IsRestWithout binary m all 0 0 rest) where
    pub all_lack : ¬ IsSeriesParallel binary m
    all_lack sp =
        let whole : IsOn all.rows all.columns = subst (λ (xs : List ℕ). IsOn xs all.columns) (sym rows) (subst (λ (xs : List ℕ). IsOn (first_lines (height m)) xs) (sym columns) sp) in
        let r = subst IsStrictlyIncreasing (sym rows) (all_rows m).increasing in
        let c = subst IsStrictlyIncreasing (sym columns) (all_columns m).increasing in
        let none = rest_from_series_parallel binary (entry m) (length all.rows + length all.columns) all.rows all.columns (omega arith) r c whole in
        left.some (left.rows ∙ none.0, left.columns ∙ none.1)

    pub search_first : IsGreedySearch binary m 0 rest.rows rest.columns
    search_first =
        search_removed 0 0 all rest (subst (λ (xs : List ℕ). IsGreedySearch binary m 0 xs all.columns) (sym rows) (subst (λ (xs : List ℕ). IsGreedySearch binary m 0 (first_lines (height m)) xs) (sym columns) (search_start all_lack)))
        (omega arith) left

  -- a line that is needed stays
  pub search_kept : (next : ℕ) (R C : List ℕ) → IsGreedySearch binary m next R C → next < height m + m.width
      → P (submatrix m (rows_left R (lines_between (height m) next 1)) (columns_left C (lines_between (height m) next 1))) → IsGreedySearch binary m (next + 1) R C
  search_kept next R C s inside has =
      let l = line_numbered (height m) next in
      record {
        in_range = omega (arith, inside);
        row_set = s.row_set;
        column_set = s.column_set;
        lacks = s.lacks;
        needed = λ n h there. elim (cases_lt n next) [
          | inl past ↦ s.needed n past there
          | inr low ↦
              subst (λ (k : ℕ). IsOn (rows_without R (line_numbered (height m) k)) (columns_without C (line_numbered (height m) k))) (same next n low h)
              (lines_from_submatrix binary m (rows_without R l) (columns_without C l) (rows_increase l R s.row_set.increasing) (columns_increase l C s.column_set.increasing) has)
        ];
        answer = λ A B g. s.answer A B
            (subst (λ (count : ℕ). IsGreedyFrom P m (lines_between (height m) next count) R C A B) (one (height m + m.width) next inside) (inl (has, g)));
      }
    where
      same : (a b : ℕ) → a ≤ b → b < a + 1 → a ≡ b
      same a b g h = omega (arith, g, h)

      one : (end next : ℕ) → next < end → suc (end - (next + 1)) ≡ end - next
      one end next h = omega (arith, h)

  pub search_end : (next : ℕ) (R C : List ℕ) → IsGreedySearch binary m next R C → height m + m.width ≤ next → IsGreedySet P m R C
  search_end next R C s past =
      s.answer R C (subst (λ (count : ℕ). IsGreedyFrom P m (lines_between (height m) next count) R C R C) (none (height m + m.width) next past) (refl, refl))
    where
      none : (end next : ℕ) → end ≤ next → 0 ≡ end - next
      none end next h = omega (arith, h)

  -- if every line is needed, the search removes none
  pub search_needed : (next : ℕ) (R C : List ℕ) → IsGreedySearch binary m next R C → ((l : Line) → HasLine R C l → IsOn (rows_without R l) (columns_without C l)) → IsGreedySet P m R C
  search_needed next R C s each = s.answer R C (stay (lines_between (height m) next (height m + m.width - next)))
    where
      r : IsStrictlyIncreasing R
      r = s.row_set.increasing

      c : IsStrictlyIncreasing C
      c = s.column_set.increasing

      kept : (l : Line) (ls : List Line) → HasLine R C l → IsGreedyFrom P m ls R C R C → IsGreedyFrom P m (l ∷ ls) R C R C
      kept l ls there next = inl (submatrix_from_lines binary m (rows_without R l) (columns_without C l) (rows_increase l R r) (columns_increase l C c) (each l there), next)

      absent : (l : Line) (ls : List Line) → rows_without R l ≡ R → columns_without C l ≡ C → IsGreedyFrom P m ls R C R C → IsGreedyFrom P m (l ∷ ls) R C R C
      absent l ls e f next = inr (
        (λ p. s.lacks (lines_from_submatrix binary m R C r c (subst (λ (xs : List ℕ). P (submatrix m xs C)) e (subst (λ (ys : List ℕ). P (submatrix m (rows_without R l) ys)) f p)))),
        subst (λ (xs : List ℕ). IsGreedyFrom P m ls xs (columns_without C l) R C) (sym e) (subst (λ (ys : List ℕ). IsGreedyFrom P m ls R ys R C) (sym f) next),
      )

      stay : (ls : List Line) → IsGreedyFrom P m ls R C R C
      stay [] = (refl, refl)
      stay (Row i ∷ ls) = elim (preimage (λ x. x) i R) [
        | inl (x, h, e) ↦ kept (Row i) ls (contains_from_in R i (subst (λ (y : ℕ). IsIn y R) e h)) (stay ls)
        | inr none ↦ absent (Row i) ls (without_none i R (λ h. none i h refl)) refl (stay ls)
      ]
      stay (Column j ∷ ls) = elim (preimage (λ x. x) j C) [
        | inl (x, h, e) ↦ kept (Column j) ls (contains_from_in C j (subst (λ (y : ℕ). IsIn y C) e h)) (stay ls)
        | inr none ↦ absent (Column j) ls refl (without_none j C (λ h. none j h refl)) (stay ls)
      ]

-- ---- the number of lines that are tried at once

pub count_of : (tried end next count : ℕ) → count ≡ min tried (end - next) → 1 ≤ tried → next < end → IsCount tried end next count
count_of tried end next count e some more = record {
  some = subst (λ (n : ℕ). 1 ≤ n) (sym e) (le-min some (omega (arith, more)));
  few = subst (λ (n : ℕ). n ≤ tried) (sym e) (min-le_left tried (end - next));
  in_range = within (subst (λ (n : ℕ). n ≤ end - next) (sym e) (min-le_right tried (end - next)));
}
  where
    within : count ≤ end - next → next + count ≤ end
    within h = omega (arith, h, more)
