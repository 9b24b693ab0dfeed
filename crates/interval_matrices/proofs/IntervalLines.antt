-- Runs of nonzeros in consecutive lines, by the number of the nonzeros.
use Rattle.std.proofs.Common.{◌≡◌, ◌≢◌, ◌<◌, ◌≤◌, ◌+◌, ◌⊎◌, ◌∙◌, ◌↔◌, inl, inr, nat_eq, if◌then◌else◌, ℕ, zero, suc, ℤ, pos, Bool, false, List, [], ◌∷◌, length, map, refl, ap, sym, subst, arith}
use Rattle.std.proofs.lemmas.Bool.{cases_eq, cases_lt}
use Rattle.std.proofs.lemmas.List.{get_or_past, length-map}
use Rattle.std.proofs.lemmas.List.FromFn.{length-range_with_len}
use Rattle.std.proofs.Math.Path.{fun_ext}
use Rattle.std.specs.List.{AllByRecursion, range_with_len}
use Rattle.cmr_base.specs.Matrix.{entry}
use Rattle.cmr_base.specs.Members.{IsIn, IsDistinct}
use Rattle.cmr_base.specs.Signing.{IsSign}
use Rattle.cmr_base.proofs.Booleans.{eq_of, eq_test, is_ne, ne_of, two_cases}
use Rattle.cmr_base.proofs.IncreasingLists.{increases-range}
use Rattle.cmr_base.proofs.Lists.{all_at}
use Rattle.cmr_base.proofs.Members.{increasing_are_distinct}
use Rattle.cmr_base.proofs.Places.{fewer_distinct}
use Rattle.cmr_base.proofs.SignEntries.{sign_nonzero}
use Rattle.sparse_matrix.specs.declared.nonzero.Nonzero.{Nonzero}
use Rattle.sparse_matrix.specs.SparseRows.{SparseRows, AreInDistinctLines, AreSparseRows, matrix_of_runs, run_of, value_in}
use Rattle.sparse_matrix.proofs.Matrices.{matrix_entry}
use Rattle.interval_matrices.specs.Intervals.{HasIntervalRows, IsInterval}
use Rattle.interval_matrices.specs.IntervalRuns.{AreCountedFrom, IsFirstLine, nonzero_at}

-- ---- numbers from one on

in_range : (first count x : ℕ) → (first ≤ x) × (x < first + count) → IsIn x (range_with_len first count)
in_range first zero x within = let low = within.0 in let high = within.1 in absurd (omega (arith, low, high))
in_range first (suc count) x within = let low = within.0 in let high = within.1 in elim (cases_eq x first) [
  | inl e ↦ inl e
  | inr n ↦ inr (in_range (first + 1) count x (omega (arith, low, n), omega (arith, high)))
]

range_in : (first count x : ℕ) → IsIn x (range_with_len first count) → (first ≤ x) × (x < first + count)
range_in first zero x h = absurd h
range_in first (suc count) x (inl e) = (omega (arith, e), omega (arith, e))
range_in first (suc count) x (inr h) = let rest = range_in (first + 1) count x h in (omega (arith, rest.0), omega (arith, rest.1))

range_is_distinct : (first count : ℕ) → IsDistinct (range_with_len first count)
range_is_distinct first count = increasing_are_distinct first (first + count) (range_with_len first count) (increases-range first count (first + count) refl)

-- ---- the lines of a run

abbrev lines_of : List Nonzero → List ℕ
lines_of run = map (λ x. x.line) run

not_among : (line : ℕ) (run : List Nonzero) → AllByRecursion (λ y. line ≢ y.line) run → ¬ (IsIn line (lines_of run))
not_among line [] apart h = h
not_among line (x ∷ run) apart (inl e) = apart.0 e
not_among line (x ∷ run) apart (inr h) = not_among line run apart.1 h

lines_are_distinct : (run : List Nonzero) → AreInDistinctLines run → IsDistinct (lines_of run)
lines_are_distinct [] distinct = tt
lines_are_distinct (x ∷ run) distinct = (not_among x.line run distinct.0, lines_are_distinct run distinct.1)

-- the place of a line in a run, and the value there
record IsPlaced (run : List Nonzero) (line : ℕ) : Type 0 where
  place : ℕ
  inside : place < length run
  line_is : (nonzero_at run place).line ≡ line
  value_is : value_in run line ≡ (nonzero_at run place).value

placed : (run : List Nonzero) (line : ℕ) → IsIn line (lines_of run) → IsPlaced run line
placed [] line h = absurd h
placed (x ∷ run) line h = elim (two_cases (nat_eq x.line line)) [
  | inl t ↦ record { place = 0; inside = omega arith; line_is = eq_of x.line line t; value_is = ap (λ (b : Bool). if b then x.value else value_in run line) t }
  | inr f ↦ later f (λ g. placed run line g) h
]
  where
    later : nat_eq x.line line ≡ false → (IsIn line (lines_of run) → IsPlaced run line) → (line ≡ x.line) ⊎ IsIn line (lines_of run) → IsPlaced (x ∷ run) line
    later f rest_of (inl e) = absurd (ne_of x.line line f (sym e))
    later f rest_of (inr h) = let rest = rest_of h in record {
      place = suc rest.place;
      inside = (let within = rest.inside in omega (arith, within));
      line_is = rest.line_is;
      value_is = ap (λ (b : Bool). if b then x.value else value_in run line) f ∙ rest.value_is;
    }

nonzero_among : (run : List Nonzero) (line : ℕ) → value_in run line ≢ pos 0 → IsIn line (lines_of run)
nonzero_among [] line h = absurd (h refl)
nonzero_among (x ∷ run) line h = elim (two_cases (nat_eq x.line line)) [
  | inl t ↦ inl (sym (eq_of x.line line t))
  | inr f ↦ inr (nonzero_among run line (λ e. h (ap (λ (b : Bool). if b then x.value else value_in run line) f ∙ e)))
]

at_place : (run : List Nonzero) (k : ℕ) → k < length run → IsIn (nonzero_at run k).line (lines_of run)
at_place [] k l = absurd (omega (arith, l))
at_place (x ∷ run) zero l = inl refl
at_place (x ∷ run) (suc k) l = inr (at_place run k (omega (arith, l)))

value_at : (run : List Nonzero) (k : ℕ) → AreInDistinctLines run → k < length run → value_in run (nonzero_at run k).line ≡ (nonzero_at run k).value
value_at [] k distinct l = absurd (omega (arith, l))
value_at (x ∷ run) zero distinct l = ap (λ (b : Bool). if b then x.value else value_in run x.line) ((eq_test x.line x.line).1 refl)
value_at (x ∷ run) (suc k) distinct l =
    let inside : k < length run = omega (arith, l) in
    ap (λ (b : Bool). if b then x.value else value_in run (nonzero_at run k).line)
    (is_ne x.line (nonzero_at run k).line (all_at (λ y. x.line ≢ y.line) run k (record { line = 0; value = pos 0 }) distinct.0 inside))
    ∙ value_at run k distinct.1 inside

among_or_not : (x : ℕ) (xs : List ℕ) → IsIn x xs ⊎ ¬ (IsIn x xs)
among_or_not x [] = inr (λ h. h)
among_or_not x (y ∷ ys) = elim (cases_eq x y) [
  | inl e ↦ inl (inl e)
  | inr n ↦ elim (among_or_not x ys) [
    | inl h ↦ inl (inr h)
    | inr h ↦ inr (λ either. elim either [ inl e ↦ n e | inr g ↦ h g ])
  ]
]

-- distinct numbers from one on, as many as there are numbers: all are there
all_there : (xs : List ℕ) (first x : ℕ) → IsDistinct xs → ((y : ℕ) → IsIn y xs → (first ≤ y) × (y < first + length xs)) → first ≤ x → x < first + length xs → IsIn x xs
all_there xs first x distinct within low high = elim (among_or_not x xs) [
  | inl h ↦ h
  | inr n ↦ absurd (
      let fewer = fewer_distinct (x ∷ xs) (range_with_len first (length xs)) (n, distinct) more in
      let count = length-range_with_len first (length xs) in
      omega (arith, fewer, count))
]
  where
    more : (y : ℕ) → IsIn y (x ∷ xs) → IsIn y (range_with_len first (length xs))
    more y (inl e) = in_range first (length xs) y (omega (arith, e, low), omega (arith, e, high))
    more y (inr h) = in_range first (length xs) y (within y h)

module _ (run : List Nonzero) (signs : AllByRecursion (λ x. IsSign x.value) run) (distinct : AreInDistinctLines run) where
  nonzero_there : (line : ℕ) → IsIn line (lines_of run) → value_in run line ≢ pos 0
  nonzero_there line h e =
      let at = placed run line h in
      sign_nonzero (nonzero_at run at.place).value (all_at (λ x. IsSign x.value) run at.place (record { line = 0; value = pos 0 }) signs at.inside) (sym at.value_is ∙ e)

  module _ (first : ℕ) (value : ℤ) (is : IsFirstLine run first) (value_is : value ≡ (nonzero_at run 0).value) where
    size : length (lines_of run) ≡ length run
    size = length-map run (λ x. x.line)

    near_lines : AreCountedFrom first value run → (line : ℕ) → IsIn line (lines_of run) → (first ≤ line) × (line < first + length (lines_of run))
    near_lines near line h =
        let at = placed run line h in
        let there = at.line_is in
        let low = is.least at.place at.inside in
        let high = (near at.place at.inside).1 in
        (omega (arith, there, low), omega (arith, there, high, size))

    interval_of_near : AreCountedFrom first value run → IsInterval (value_in run)
    interval_of_near near = record {
      consecutive = λ one middle last l g h k.
          let low = (near_lines near one (nonzero_among run one h)).0 in
          let high = (near_lines near last (nonzero_among run last k)).1 in
          nonzero_there middle (all_there (lines_of run) first middle (lines_are_distinct run distinct) (near_lines near) (omega (arith, low, l)) (omega (arith, high, g)));
      equal = λ one other h k.
          let at = placed run one (nonzero_among run one h) in
          let at' = placed run other (nonzero_among run other k) in
          at.value_is ∙ (near at.place at.inside).0 ∙ sym (near at'.place at'.inside).0 ∙ sym at'.value_is;
    }

    -- the lines from the first to one of the run
    up_to : IsInterval (value_in run) → (k : ℕ) → k < length run → (line : ℕ) → first ≤ line → line ≤ (nonzero_at run k).line → IsIn line (lines_of run)
    up_to interval k l line low high = nonzero_among run line (go (cases_eq line first) (cases_eq line (nonzero_at run k).line))
      where
        first_there : value_in run first ≢ pos 0
        first_there = nonzero_there first (subst (λ (n : ℕ). IsIn n (lines_of run)) is.there (at_place run is.place is.inside))

        last_there : value_in run (nonzero_at run k).line ≢ pos 0
        last_there = nonzero_there (nonzero_at run k).line (at_place run k l)

        go : (line ≡ first) ⊎ (line ≢ first) → (line ≡ (nonzero_at run k).line) ⊎ (line ≢ (nonzero_at run k).line) → value_in run line ≢ pos 0
        go (inl e) other = subst (λ (n : ℕ). value_in run n ≢ pos 0) (sym e) first_there
        go (inr n) (inl e) = subst (λ (n : ℕ). value_in run n ≢ pos 0) (sym e) last_there
        go (inr n) (inr n') = interval.consecutive first line (nonzero_at run k).line (omega (arith, n, low)) (omega (arith, n', high)) first_there last_there

    near_of_interval : IsInterval (value_in run) → AreCountedFrom first value run
    near_of_interval interval k l = (
      same,
      elim (cases_lt (nonzero_at run k).line (first + length run)) [
        | inl h ↦ h
        | inr h ↦ absurd (
            let fewer = fewer_distinct (range_with_len first (suc (length run))) (lines_of run) (range_is_distinct first (suc (length run))) (covered h) in
            let count = length-range_with_len first (suc (length run)) in
            let long = size in
            omega (arith, fewer, count, long))
      ],
    )
      where
        some : 0 < length run
        some = omega (arith, l)

        same : (nonzero_at run k).value ≡ value
        same = sym (value_at run k distinct l)
            ∙ interval.equal (nonzero_at run k).line (nonzero_at run 0).line (nonzero_there (nonzero_at run k).line (at_place run k l)) (nonzero_there (nonzero_at run 0).line (at_place run 0 some))
            ∙ value_at run 0 distinct some ∙ sym value_is

        covered : first + length run ≤ (nonzero_at run k).line → (line : ℕ) → IsIn line (range_with_len first (suc (length run))) → IsIn line (lines_of run)
        covered far line h = let near = range_in first (suc (length run)) line h in
            up_to interval k l line near.0 (let high = near.1 in omega (arith, far, high))

    pub near_or_not : AreCountedFrom first value run ↔ IsInterval (value_in run)
    near_or_not = (interval_of_near, near_of_interval)

no_nonzero_is_interval : IsInterval (value_in [])
no_nonzero_is_interval = record { consecutive = λ first middle last l g h k. absurd (h refl); equal = λ one other h k. absurd (h refl) }

-- ---- the rows of a matrix

module _ (m : SparseRows) (shape : AreSparseRows m) where
  row_is : (row : ℕ) → entry (matrix_of_runs m) row ≡ value_in (run_of m row)
  row_is row = fun_ext (λ column. matrix_entry m shape row column)

  pub interval_rows : ((row : ℕ) → row < length m.runs → IsInterval (value_in (run_of m row))) → HasIntervalRows (matrix_of_runs m)
  interval_rows all row = subst IsInterval (sym (row_is row)) (elim (cases_lt row (length m.runs)) [
    | inl l ↦ all row l
    | inr l ↦ subst (λ (run : List Nonzero). IsInterval (value_in run)) (sym (get_or_past m.runs row [] l)) no_nonzero_is_interval
  ])

  pub interval_run : HasIntervalRows (matrix_of_runs m) → (row : ℕ) → IsInterval (value_in (run_of m row))
  interval_run all row = subst IsInterval (row_is row) (all row)
