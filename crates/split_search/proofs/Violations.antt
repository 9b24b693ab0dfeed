-- The lines of a cycle that does not cancel are a violator.
use Rattle.std.specs.List.{Contains}
use Rattle.std.proofs.Common.{◌≡◌, ◌≢◌, ◌+◌, ◌∙◌, inl, inr, ℕ, ℤ, pos, negsuc, ◌+ℤ◌, ◌*ℤ◌, Bool, true, if◌then◌else◌, List, [], ◌∷◌, length, map, Option, refl, ap, ap₂, sym, subst, arith}
use Rattle.std.proofs.Math.Path.{fun_ext}
use Rattle.std.proofs.lemmas.List.{length-map}
use Rattle.cmr_base.specs.LineSets.{first_lines}
use Rattle.cmr_base.specs.Matrix.{height, entry}
use Rattle.cmr_base.specs.Signing.{IsSign}
use Rattle.cmr_base.specs.Sums.{sum_over, IsEven, IsTwoModFour}
use Rattle.cmr_base.specs.Violator.{IsViolator}
use Rattle.cmr_base.proofs.Booleans.{is_ne, same_or_not, self_eq}
use Rattle.cmr_base.proofs.IncreasingLists.{increasing_row_set, increasing_column_set}
use Rattle.cmr_base.proofs.Integers.{products}
use Rattle.cmr_base.proofs.Lists.{all_of}
use Rattle.cmr_base.proofs.SignEntries.{sign-mul, sign_nonzero}
use Rattle.ghouila.specs.Found.{marked}
use Rattle.ghouila.proofs.Marks.{all_marked, marked_increases}
use Rattle.split_laws.specs.SignSplits.{signed_column, IsUncancelledCycle}
use Rattle.split_laws.proofs.SplitLemmas.{splits_are_unimodular, uncancelled_cycles_are_violators}
use Rattle.sparse_matrix.specs.declared.nonzero.Nonzero.{Nonzero}
use Rattle.sparse_matrix.specs.SparseRows.{SparseRows, run_of, value_in, sparse_entry, matrix_of_runs, AreSparseRows, AreCrossed}
use Rattle.sparse_matrix.proofs.Matrices.{matrix_entry, matrix_is_ternary}
use Rattle.two_nonzeros.specs.Cancelling.{sign_at, Cancels, AreSplitBy}
use Rattle.split_search.specs.declared.forest.Node.{Node}
use Rattle.split_search.specs.RowForests.{HasEnds}
use Rattle.sparse_matrix.specs.LineMarks.{is_marked}
use Rattle.sparse_matrix.proofs.MarkedLines.{contains_marked, marked_contains}
use Rattle.split_search.specs.Paths.{AreSignsOf, IsCycle, MarkRowsOf}
use Rattle.split_search.specs.Decisions.{IsSplitBy, HaveNonzeros, AreViolating}
use Rattle.split_search.proofs.MarkedLines.{AreMarked, sum_marked_one, sum_marked_two}
use Rattle.split_search.proofs.Turns.{ends_cancel, ends_within}

-- ---- the values of a column with two nonzeros

pair_first : (x y : Nonzero) → value_in (x ∷ y ∷ []) x.line ≡ x.value
pair_first x y = ap (λ (b : Bool). if b then x.value else value_in (y ∷ []) x.line) (self_eq x.line)

pair_second : (x y : Nonzero) → x.line ≢ y.line → value_in (x ∷ y ∷ []) y.line ≡ y.value
pair_second x y apart = ap (λ (b : Bool). if b then x.value else value_in (y ∷ []) y.line) (is_ne x.line y.line apart)
    ∙ ap (λ (b : Bool). if b then y.value else pos 0) (self_eq y.line)

pair_other : (x y : Nonzero) (row : ℕ) → row ≢ x.line → row ≢ y.line → value_in (x ∷ y ∷ []) row ≡ pos 0
pair_other x y row n m = ap (λ (b : Bool). if b then x.value else value_in (y ∷ []) row) (is_ne x.line row (λ e. n (sym e)))
    ∙ ap (λ (b : Bool). if b then y.value else pos 0) (is_ne y.line row (λ e. m (sym e)))

abbrev HasValues : List Nonzero → Nonzero → Nonzero → Type 0
HasValues run x y = (value_in run x.line ≡ x.value) × (value_in run y.line ≡ y.value) × ((row : ℕ) → row ≢ x.line → row ≢ y.line → value_in run row ≡ pos 0)

ends_values : (t : SparseRows) (column : ℕ) (x y : Nonzero) → HasEnds t column x y → x.line ≢ y.line → HasValues (run_of t column) x y
ends_values t column x y (inl e) apart = subst (λ (run : List Nonzero). HasValues run x y) (sym e) (pair_first x y, pair_second x y apart, pair_other x y)
ends_values t column x y (inr e) apart = subst (λ (run : List Nonzero). HasValues run x y) (sym e) (pair_second y x (λ f. apart (sym f)), pair_first y x, λ row n m. pair_other y x row m n)

times_zero : (s z : ℤ) → z ≡ pos 0 → s *ℤ z ≡ pos 0
times_zero s z e = rw e (simp products)

-- the entry of a row and a column
abbrev across : SparseRows → ℕ → ℕ → ℤ
across t row column = sparse_entry t column row

signed_ends : (t : SparseRows) (row_marks : List Bool) (column : ℕ) (x y : Nonzero) (sign : ℕ → ℤ) → HasEnds t column x y → x.line ≢ y.line
    → is_marked row_marks x.line ≡ true → is_marked row_marks y.line ≡ true
    → signed_column (across t) sign (marked row_marks) column ≡ (sign x.line *ℤ x.value) +ℤ (sign y.line *ℤ y.value)
signed_ends t row_marks column x y sign ends apart h g =
    let values = ends_values t column x y ends apart in
    sum_marked_two row_marks x.line y.line (λ row. sign row *ℤ sparse_entry t column row) apart h g (λ row n m. times_zero (sign row) (sparse_entry t column row) (values.2 row n m))
    ∙ ap₂ (λ (a b : ℤ). (sign x.line *ℤ a) +ℤ (sign y.line *ℤ b)) values.0 values.1

-- two signs that do not cancel
two_signs : (a b : ℤ) → IsSign a → IsSign b → (a +ℤ b ≡ pos 0 → ⊥) → IsEven (a +ℤ b) × IsTwoModFour (a +ℤ b)
two_signs a b (inl e) (inl f) n = rw (e, f) ((pos 1, refl), (pos 0, refl))
two_signs a b (inl e) (inr f) n = absurd (n (rw (e, f) refl))
two_signs a b (inr e) (inl f) n = absurd (n (rw (e, f) refl))
two_signs a b (inr e) (inr f) n = rw (e, f) ((negsuc 0, refl), (negsuc 0, refl))

-- ---- the cycle of a column

module _ (m t : SparseRows) (nodes : List (Option Node)) (column : ℕ) (x y : Nonzero) (sign : ℕ → ℤ) (row_marks marks : List Bool)
    (shape : AreSparseRows m) (crossing_shape : AreSparseRows t) (crossed : AreCrossed m t) (cycle : IsCycle t nodes column marks) (signs : AreSignsOf nodes sign) (each : (row : ℕ) → IsSign (sign row))
    (ends : HasEnds t column x y) (apart : x.line ≢ y.line) (uncancelled : Cancels sign (run_of t column) → ⊥) (crossing : MarkRowsOf t marks row_marks) (count : length row_marks ≡ t.width) where
  ends_marked : (k : ℕ) (a b : Nonzero) → HasEnds t k a b → is_marked marks k ≡ true → (is_marked row_marks a.line ≡ true) × (is_marked row_marks b.line ≡ true)
  ends_marked k a b (inl e) h = let all = subst (AreMarked row_marks) e (crossing.all k h) in (all.0, all.1.0)
  ends_marked k a b (inr e) h = let all = subst (AreMarked row_marks) e (crossing.all k h) in (all.1.0, all.0)

  abbrev column_sum : ℕ → ℤ
  column_sum k = signed_column (across t) sign (marked row_marks) k

  abbrev rest : ℤ
  rest = (sign x.line *ℤ x.value) +ℤ (sign y.line *ℤ y.value)

  column_marked : is_marked marks column ≡ true
  column_marked = cycle.here sign signs (λ c. uncancelled (ends_cancel t column c.first c.second sign c.ends c.cancel))

  sum_here : column_sum column ≡ rest
  sum_here = let both = ends_marked column x y ends column_marked in signed_ends t row_marks column x y sign ends apart both.0 both.1

  sum_elsewhere : (k : ℕ) → is_marked marks k ≡ true → k ≢ column → column_sum k ≡ pos 0
  sum_elsewhere k h n =
      let cancelling = cycle.cancel sign signs k h n in
      let both = ends_marked k cancelling.first cancelling.second cancelling.ends h in
      signed_ends t row_marks k cancelling.first cancelling.second sign cancelling.ends cancelling.apart both.0 both.1 ∙ cancelling.cancel

  rest_two : IsEven rest × IsTwoModFour rest
  rest_two =
      let within = ends_within t column x y crossing_shape ends in
      two_signs (sign x.line *ℤ x.value) (sign y.line *ℤ y.value) (sign-mul (sign x.line) x.value (each x.line) within.0.sign) (sign-mul (sign y.line) y.value (each y.line) within.1.sign)
      (λ e. uncancelled (ends_cancel t column x y sign ends e))

  even_column : (k : ℕ) → is_marked marks k ≡ true → IsEven (column_sum k)
  even_column k h = elim (same_or_not k column) [
    | inl e ↦ subst (λ (j : ℕ). IsEven (column_sum j)) (sym e) (subst IsEven (sym sum_here) rest_two.0)
    | inr n ↦ (pos 0, sum_elsewhere k h n)
  ]

  uncancelled_cycle : IsUncancelledCycle (across t) sign (marked row_marks) (marked marks)
  uncancelled_cycle = record {
    signs = each;
    even_rows = all_of (λ row. IsEven (sum_over (marked marks) (across t row))) cycle.even (marked row_marks);
    even_columns = all_marked (λ k. IsEven (column_sum k)) 0 marks
        (λ j k e h. even_column k (subst (λ (i : ℕ). is_marked marks i ≡ true) (let same_column : j ≡ k = omega (arith, e) in same_column) h));
    two_mod_four = subst IsTwoModFour (sym (sum_marked_one marks column column_sum column_marked sum_elsewhere ∙ sum_here)) rest_two.1;
  }

  entries_are : entry (matrix_of_runs m) ≡ across t
  entries_are = fun_ext (λ row. fun_ext (λ k. matrix_entry m shape row k ∙ sym (crossed.entries row k)))

  height_is : height (matrix_of_runs m) ≡ 0 + length row_marks
  height_is = let height_kept = length-map m.runs (λ run. map (value_in run) (first_lines m.width)) in let same_columns = crossed.columns in omega (arith, height_kept, same_columns, count)

  width_is : m.width ≡ 0 + length marks
  width_is = let same_rows = crossed.rows in let same_size = cycle.size in omega (arith, same_rows, same_size)

  -- ---- each line has a nonzero

  abbrev HasRow : ℕ → Type 0
  HasRow k = (row : ℕ) × Contains (marked row_marks) row × (entry (matrix_of_runs m) row k ≢ pos 0)

  row_of_ends : (k : ℕ) (a b : Nonzero) → HasEnds t k a b → a.line ≢ b.line → is_marked marks k ≡ true → HasRow k
  row_of_ends k a b is differ h = (
    a.line,
    contains_marked row_marks a.line (ends_marked k a b is h).0,
    λ z. sign_nonzero a.value (ends_within t k a b crossing_shape is).0.sign
        (sym (ends_values t k a b is differ).0 ∙ crossed.entries a.line k ∙ sym (matrix_entry m shape a.line k) ∙ z),
  )

  row_in : (k : ℕ) → is_marked marks k ≡ true → HasRow k
  row_in k h = elim (same_or_not k column) [
    | inl e ↦ subst HasRow (sym e) (row_of_ends column x y ends apart column_marked)
    | inr n ↦ let cancelling = cycle.cancel sign signs k h n in row_of_ends k cancelling.first cancelling.second cancelling.ends cancelling.apart h
  ]

  nonzeros : HaveNonzeros (entry (matrix_of_runs m)) (marked row_marks) (marked marks)
  nonzeros = record {
    rows_have = λ row h. let crossing_column = crossing.only row (marked_contains row_marks row h) in (
      crossing_column.0,
      contains_marked marks crossing_column.0 crossing_column.1,
      λ z. crossing_column.2 (crossed.entries row crossing_column.0 ∙ sym (matrix_entry m shape row crossing_column.0) ∙ z),
    );
    columns_have = λ k h. row_in k (marked_contains marks k h);
  }

  pub violating : AreViolating (matrix_of_runs m) (marked row_marks) (marked marks)
  violating = record {
    row_set = increasing_row_set (matrix_of_runs m) (marked row_marks) (marked_increases 0 (height (matrix_of_runs m)) row_marks height_is);
    column_set = increasing_column_set (matrix_of_runs m) (marked marks) (marked_increases 0 m.width marks width_is);
    violator = subst (λ (M : ℕ → ℕ → ℤ). IsViolator M (marked row_marks) (marked marks)) (sym entries_are)
        (uncancelled_cycles_are_violators (across t) sign (marked row_marks) (marked marks) uncancelled_cycle);
    nonzeros = nonzeros;
  }

pub split_decides : (m : SparseRows) (minus : List Bool) → AreSparseRows m → AreSplitBy minus m → IsSplitBy m minus
split_decides m minus shape split =
    let law = splits_are_unimodular (matrix_of_runs m) (sign_at minus) (matrix_is_ternary m shape) split in
    record { split = split; unimodular = law.0; free = law.1 }
