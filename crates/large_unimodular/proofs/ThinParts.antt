-- Matrices in which no column, or no row, has three nonzeros.
use Rattle.std.proofs.Common.{◌≡◌, ◌≢◌, ◌<◌, ◌≤◌, ◌∙◌, ◌⊎◌, if◌then◌else◌, inl, inr, ℕ, ℤ, pos, Bool, List, [], ◌∷◌, length, get_or, refl, ap, sym, subst, arith}
use Rattle.std.proofs.lemmas.Bool.{cases_lt}
use Rattle.std.proofs.lemmas.List.{get_or_past}
use Rattle.std.specs.List.{AllByRecursion}
use Rattle.cmr_base.specs.Matrix.{entry}
use Rattle.cmr_base.specs.Violator.{HasNoViolator}
use Rattle.cmr_base.proofs.Booleans.{is_ne, same_or_not}
use Rattle.cmr_base.proofs.Lists.{all_at}
use Rattle.sparse_matrix.specs.declared.nonzero.Nonzero.{Nonzero}
use Rattle.sparse_matrix.specs.SparseRows.{SparseRows, AreCrossed, AreInDistinctLines, AreSparseRows, IsNonzeroWithin, matrix_of_runs, run_of, sparse_entry, value_in}
use Rattle.sparse_matrix.proofs.MarkedLines.{value_there}
use Rattle.sparse_matrix.proofs.Matrices.{matrix_entry}
use Rattle.split_search.specs.Decisions.{AreViolating, HaveAtMostTwo}
use Rattle.core_parts.proofs.MarkedRuns.{height_of_runs}
use Rattle.large_unimodular.specs.PartVerdicts.{HasThreeNonzeros, IsFaultIn, IsThin}
use Rattle.large_unimodular.proofs.Across.{back_across}

-- ---- runs with at most two nonzeros

nonzero_line : (x : Nonzero) (run : List Nonzero) (line : ℕ) → value_in (x ∷ run) line ≢ pos 0 → (line ≡ x.line) ⊎ (value_in run line ≢ pos 0)
nonzero_line x run line n = elim (same_or_not x.line line) [
  | inl e ↦ inl (sym e)
  | inr apart ↦ inr (λ e. n (ap (λ (test : Bool). if test then x.value else value_in run line) (is_ne x.line line apart) ∙ e))
]

only_line : (x : Nonzero) (line : ℕ) → value_in (x ∷ []) line ≢ pos 0 → line ≡ x.line
only_line x line n = elim (nonzero_line x [] line n) [ inl e ↦ e | inr none ↦ absurd (none refl) ]

either_line : (x y : Nonzero) (line : ℕ) → value_in (x ∷ y ∷ []) line ≢ pos 0 → (line ≡ x.line) ⊎ (line ≡ y.line)
either_line x y line n = elim (nonzero_line x (y ∷ []) line n) [ inl e ↦ inl e | inr later ↦ inr (only_line y line later) ]

-- two of three equal one of two
two_of_three : (a b c x y : ℕ) → (a ≡ x) ⊎ (a ≡ y) → (b ≡ x) ⊎ (b ≡ y) → (c ≡ x) ⊎ (c ≡ y) → a ≢ b → a ≢ c → b ≢ c → ⊥
two_of_three a b c x y (inl e) (inl f) g ab ac bc = ab (e ∙ sym f)
two_of_three a b c x y (inl e) (inr f) (inl g) ab ac bc = ac (e ∙ sym g)
two_of_three a b c x y (inl e) (inr f) (inr g) ab ac bc = bc (f ∙ sym g)
two_of_three a b c x y (inr e) (inl f) (inl g) ab ac bc = bc (f ∙ sym g)
two_of_three a b c x y (inr e) (inl f) (inr g) ab ac bc = ac (e ∙ sym g)
two_of_three a b c x y (inr e) (inr f) g ab ac bc = ab (e ∙ sym f)

few_no_three : (run : List Nonzero) → length run ≤ 2 → ¬ (HasThreeNonzeros (value_in run))
few_no_three [] few three = three.first_nonzero refl
few_no_three (x ∷ []) few three = three.first_second (only_line x three.first three.first_nonzero ∙ sym (only_line x three.second three.second_nonzero))
few_no_three (x ∷ y ∷ []) few three = two_of_three three.first three.second three.third x.line y.line (either_line x y three.first three.first_nonzero)
    (either_line x y three.second three.second_nonzero) (either_line x y three.third three.third_nonzero) three.first_second three.first_third three.second_third
few_no_three (x ∷ y ∷ z ∷ run) few three = absurd (omega (arith, few))

-- ---- runs with more

three_of_many : (width : ℕ) (run : List Nonzero) → AreInDistinctLines run → AllByRecursion (IsNonzeroWithin width) run → 2 < length run → HasThreeNonzeros (value_in run)
three_of_many width [] distinct within many = absurd (omega (arith, many))
three_of_many width (x ∷ []) distinct within many = absurd (omega (arith, many))
three_of_many width (x ∷ y ∷ []) distinct within many = absurd (omega (arith, many))
three_of_many width (x ∷ y ∷ z ∷ run) distinct within many = record {
  first = x.line;
  second = y.line;
  third = z.line;
  first_second = distinct.0.0;
  first_third = distinct.0.1.0;
  second_third = distinct.1.0.0;
  first_nonzero = value_there width (x ∷ y ∷ z ∷ run) 0 (omega arith) within;
  second_nonzero = value_there width (x ∷ y ∷ z ∷ run) 1 (omega arith) within;
  third_nonzero = value_there width (x ∷ y ∷ z ∷ run) 2 (omega arith) within;
}

three_same : (f g : ℕ → ℤ) → ((k : ℕ) → f k ≡ g k) → HasThreeNonzeros f → HasThreeNonzeros g
three_same f g same three = record {
  first = three.first;
  second = three.second;
  third = three.third;
  first_second = three.first_second;
  first_third = three.first_third;
  second_third = three.second_third;
  first_nonzero = λ e. three.first_nonzero (same three.first ∙ e);
  second_nonzero = λ e. three.second_nonzero (same three.second ∙ e);
  third_nonzero = λ e. three.third_nonzero (same three.third ∙ e);
}

-- each run has at most two nonzeros if and only if no row has three
few_nonzeros : (m : SparseRows) → AreSparseRows m → ((row : ℕ) → ¬ (HasThreeNonzeros (sparse_entry m row))) → HaveAtMostTwo m
few_nonzeros m shape none row = elim (cases_lt row (length m.runs)) [
  | inl inside ↦ elim (cases_lt 2 (length (run_of m row))) [
    | inl many ↦ absurd (none row (three_of_many m.width (run_of m row) (all_at AreInDistinctLines m.runs row [] shape.distinct inside)
        (all_at (AllByRecursion (IsNonzeroWithin m.width)) m.runs row [] shape.runs_in inside) many))
    | inr few ↦ few
  ]
  | inr past ↦ let empty = ap length (get_or_past m.runs row [] past) in omega (arith, empty)
]

module _ (m t : SparseRows) (shape : AreSparseRows m) (shape_t : AreSparseRows t) (crossed : AreCrossed m t) where
  column_entry : (column row : ℕ) → entry (matrix_of_runs m) row column ≡ sparse_entry t column row
  column_entry column row = matrix_entry m shape row column ∙ sym (crossed.entries row column)

  pub thin_by_columns : HaveAtMostTwo t → IsThin (matrix_of_runs m)
  thin_by_columns few = inl (λ column three. few_no_three (run_of t column) (few column) (three_same (λ row. entry (matrix_of_runs m) row column) (sparse_entry t column) (column_entry column) three))

  pub thin_by_rows : HaveAtMostTwo m → IsThin (matrix_of_runs m)
  thin_by_rows few = inr (λ row three. few_no_three (run_of m row) (few row) (three_same (entry (matrix_of_runs m) row) (sparse_entry m row) (matrix_entry m shape row) three))

  pub thick : ¬ (HaveAtMostTwo t) → ¬ (HaveAtMostTwo m) → ¬ (IsThin (matrix_of_runs m))
  thick many_columns many_rows (inl none) = many_columns (few_nonzeros t shape_t (λ column three. none column (three_same (sparse_entry t column) (λ row. entry (matrix_of_runs m) row column)
      (λ row. sym (column_entry column row)) three)))
  thick many_columns many_rows (inr none) = many_rows (few_nonzeros m shape (λ row three. none row (three_same (sparse_entry m row) (entry (matrix_of_runs m) row)
      (λ column. sym (matrix_entry m shape row column)) three)))

  -- ---- violators in the transposed matrix

  pub none_across : HasNoViolator (matrix_of_runs t) → HasNoViolator (matrix_of_runs m)
  none_across none rows columns row_set column_set v = none columns rows
      (record { increasing = column_set.increasing; in_range = subst (λ (n : ℕ). (k : ℕ) → k < length columns → get_or columns k 0 < n) (sym (height_of_runs t ∙ crossed.rows)) column_set.in_range })
      (record { increasing = row_set.increasing; in_range = subst (λ (n : ℕ). (k : ℕ) → k < length rows → get_or rows k 0 < n) (height_of_runs m ∙ sym crossed.columns) row_set.in_range })
      (back_across m t shape shape_t crossed rows columns v)

pub fault_of_violating : (m : SparseRows) (rows columns : List ℕ) → AreViolating (matrix_of_runs m) rows columns → IsFaultIn (matrix_of_runs m) (record { rows = rows; columns = columns })
fault_of_violating m rows columns v = record { row_set = v.row_set; column_set = v.column_set; violator = v.violator }
