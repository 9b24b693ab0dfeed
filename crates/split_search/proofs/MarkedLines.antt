-- Marks of the lines of nonzeros.
use Rattle.std.proofs.Common.{◌≡◌, ◌≢◌, ◌<◌, ◌+◌, ◌∙◌, inl, inr, ◌⊎◌, ℕ, ℤ, pos, ◌+ℤ◌, Bool, true, false, List, [], ◌∷◌, length, get_or, set, take, ap, sym, subst, arith}
use Rattle.std.proofs.lemmas.Bool.{cases_lt, false≢true}
use Rattle.std.proofs.lemmas.List.{get_or-set_same, get_or-set_other, length-set, take_more}
use Rattle.std.specs.List.{AllByRecursion}
use Rattle.cmr_base.specs.Sums.{sum_over}
use Rattle.cmr_base.proofs.Booleans.{same_or_not}
use Rattle.cmr_base.proofs.Integers.{sums}
use Rattle.cmr_base.proofs.Lists.{all_at, all-append, all_weaker, sum_over-one_more}
use Rattle.cmr_base.proofs.SumLaws.{sum_over_same, sum_over-zero}
use Rattle.ghouila.specs.Found.{marked}
use Rattle.ghouila.proofs.Marks.{all_marked, joined, set_same_mark}
use Rattle.sparse_matrix.specs.declared.nonzero.Nonzero.{Nonzero}
use Rattle.sparse_matrix.specs.SparseRows.{SparseRows, run_of, value_in, IsNonzeroWithin}
use Rattle.sparse_matrix.specs.LineMarks.{is_marked}
use Rattle.sparse_matrix.proofs.MarkedLines.{kept_mark, mark_inside, no_nonzero, value_there}

abbrev pub AreMarked : List Bool → List Nonzero → Type 0
AreMarked marks run = AllByRecursion (λ x. is_marked marks x.line ≡ true) run

abbrev pub MarksRun : List Bool → List Bool → List Nonzero → Type 0
MarksRun old marks run = (length marks ≡ length old) × ((line : ℕ) → is_marked old line ≡ true → is_marked marks line ≡ true) × AreMarked marks run

-- one more nonzero of a run
pub marks_more : (old marks : List Bool) (run : List Nonzero) (k : ℕ) → k < length run → AllByRecursion (IsNonzeroWithin (length old)) run → MarksRun old marks (take k run)
    → MarksRun old (set marks (get_or run k no_nonzero).line true) (take (k + 1) run)
marks_more old marks run k l within is =
    let nonzero : Nonzero = get_or run k no_nonzero in
    let there : IsNonzeroWithin (length old) nonzero = all_at (IsNonzeroWithin (length old)) run k no_nonzero within l in (
      length-set marks nonzero.line true ∙ is.0,
      λ line h. kept_mark marks nonzero.line line (is.1 line h),
      subst (AreMarked (set marks nonzero.line true)) (sym (take_more run k no_nonzero l)) (all-append (λ y. is_marked (set marks nonzero.line true) y.line ≡ true) (take k run) (nonzero ∷ [])
          (all_weaker (λ y. is_marked marks y.line ≡ true) (λ y. is_marked (set marks nonzero.line true) y.line ≡ true) (λ y h. kept_mark marks nonzero.line y.line h) (take k run) is.2)
          (get_or-set_same marks nonzero.line true false (let same_size = is.0 in let line_inside = there.inside in omega (arith, same_size, line_inside)), tt)),
    )

abbrev pub OnlyMarks : List Bool → List Bool → List Nonzero → Type 0
OnlyMarks old marks run = (line : ℕ) → is_marked marks line ≡ true → (is_marked old line ≡ true) ⊎ (value_in run line ≢ pos 0)

pub only_more : (old marks : List Bool) (run : List Nonzero) (k : ℕ) → k < length run → AllByRecursion (IsNonzeroWithin (length old)) run → OnlyMarks old marks run
    → OnlyMarks old (set marks (get_or run k no_nonzero).line true) run
only_more old marks run k l within only line h = elim (same_or_not line (get_or run k no_nonzero).line) [
  | inl e ↦ inr (subst (λ (j : ℕ). value_in run j ≢ pos 0) (sym e) (value_there (length old) run k l within))
  | inr n ↦ only line (sym (get_or-set_other marks (get_or run k no_nonzero).line line true false n) ∙ h)
]

-- one more column whose rows are marked
pub crossing_more : (t : SparseRows) (marks before later : List Bool) (column : ℕ) → ((line : ℕ) → is_marked before line ≡ true → is_marked later line ≡ true)
    → (is_marked marks column ≡ true → AreMarked later (run_of t column))
    → ((other : ℕ) → other < column → is_marked marks other ≡ true → AreMarked before (run_of t other)) → (other : ℕ) → other < column + 1
    → is_marked marks other ≡ true → AreMarked later (run_of t other)
crossing_more t marks before later column kept here are other l h = elim (cases_lt other column) [
  | inl b ↦ all_weaker (λ y. is_marked before y.line ≡ true) (λ y. is_marked later y.line ≡ true) (λ y. kept y.line) (run_of t other) (are other b h)
  | inr b ↦ let same_column : other ≡ column = omega (arith, l, b) in
      subst (λ (c : ℕ). AreMarked later (run_of t c)) (sym same_column) (here (subst (λ (c : ℕ). is_marked marks c ≡ true) same_column h))
]

-- ---- sums over marked lines

pub sum_marked_zero : (marks : List Bool) (f : ℕ → ℤ) → ((line : ℕ) → is_marked marks line ≡ true → f line ≡ pos 0) → sum_over (marked marks) f ≡ pos 0
sum_marked_zero marks f zeros =
    sum_over_same (marked marks) f (λ line. pos 0)
    (all_marked (λ line. f line ≡ pos 0) 0 marks (λ k n e h. zeros n (subst (λ (j : ℕ). is_marked marks j ≡ true) (let same_line : k ≡ n = omega (arith, e) in same_line) h)))
    ∙ sum_over-zero (marked marks)

-- a marked line is taken out of the sum
sum_marked_without : (marks : List Bool) (k : ℕ) (f : ℕ → ℤ) → is_marked marks k ≡ true → sum_over (marked marks) f ≡ f k +ℤ sum_over (marked (set marks k false)) f
sum_marked_without marks k f h =
    ap (λ (ms : List Bool). sum_over (marked ms) f) (sym (set_same_mark marks k) ∙ ap (set marks k) h)
    ∙ sum_over-one_more k (marked (set marks k false)) (marked (set marks k true)) f (joined true marks k (mark_inside marks k h))

-- a line that is still marked after a mark is taken away
still_marked : (marks : List Bool) (k line : ℕ) → is_marked marks k ≡ true → is_marked (set marks k false) line ≡ true → (line ≢ k) × (is_marked marks line ≡ true)
still_marked marks k line h e = (apart, sym (get_or-set_other marks k line false false apart) ∙ e)
  where
    apart : line ≢ k
    apart f = false≢true (sym (get_or-set_same marks k false false (mark_inside marks k h)) ∙ sym (ap (is_marked (set marks k false)) f) ∙ e)

pub sum_marked_one : (marks : List Bool) (k : ℕ) (f : ℕ → ℤ) → is_marked marks k ≡ true → ((line : ℕ) → is_marked marks line ≡ true → line ≢ k → f line ≡ pos 0) → sum_over (marked marks) f ≡ f k
sum_marked_one marks k f h zeros =
    sum_marked_without marks k f h
    ∙ no_more (f k) (sum_over (marked (set marks k false)) f) (sum_marked_zero (set marks k false) f (λ line e. let still = still_marked marks k line h e in zeros line still.1 still.0))
  where
    no_more : (a b : ℤ) → b ≡ pos 0 → a +ℤ b ≡ a
    no_more a b e = omega (arith, sums)

pub sum_marked_two : (marks : List Bool) (k j : ℕ) (f : ℕ → ℤ) → k ≢ j → is_marked marks k ≡ true → is_marked marks j ≡ true → ((line : ℕ) → line ≢ k → line ≢ j → f line ≡ pos 0)
    → sum_over (marked marks) f ≡ f k +ℤ f j
sum_marked_two marks k j f apart h g zeros =
    sum_marked_without marks k f h
    ∙ ap (λ (z : ℤ). f k +ℤ z) (sum_marked_one (set marks k false) j f (get_or-set_other marks k j false false (λ e. apart (sym e)) ∙ g)
    (λ line e n. let still = still_marked marks k line h e in zeros line still.0 n))
