-- Removals of zero and unit lines, one after another.
use Rattle.std.proofs.Common.{◌≡◌, ◌≢◌, ◌<◌, ◌≤◌, ◌∙◌, inl, inr, ℕ, ℤ, pos, List, [], ◌∷◌, ◌++◌, length, map, is_some, true, get_or, refl, ap, ap₂, sym, subst, arith}
use Rattle.std.specs.Prelude.{◌↔◌}
use Rattle.std.specs.List.{Contains}
use Rattle.std.specs.List.Sorted.{IsStrictlyIncreasing}
use Rattle.std.proofs.lemmas.Bool.{cases_lt}
use Rattle.std.proofs.lemmas.List.{get_or_past}
use Rattle.std.proofs.lemmas.List.FromFn.{fill_by_all, length-range_with_len}
use Rattle.cmr_base.specs.declared.line.Line.{Line}
use Rattle.cmr_base.specs.declared.line.Line.TheVariants.{Row, Column}
use Rattle.cmr_base.specs.declared.line.Step.{Step}
use Rattle.cmr_base.specs.Matrix.{Matrix, height, row_of, entry, IsTernary, IsRectangular}
use Rattle.cmr_base.specs.LineSets.{first_lines, submatrix, without}
use Rattle.cmr_base.specs.Violator.{HasNoViolator}
use Rattle.cmr_base.specs.Reductions.{nonzeros_at, line_reason, rows_without, columns_without}
use Rattle.cmr_base.proofs.ListsWithout.{in_from_contains, contains_from_in, in_without}
use Rattle.cmr_base.proofs.Places.{increasing_same}
use Rattle.cmr_base.proofs.RemovedLines.{in_first_lines}
use Rattle.ghouila.proofs.MarkedMembers.{iff_then}
use Rattle.ghouila.proofs.RemovedLines.{reductions_keep_violators}
use Rattle.sparse_core.specs.TwoCores.{HaveTwo, IsTwoCore, IsThinStep, IsThinRemoval}
use Rattle.sparse_core.proofs.ThinLines.{few_nonzeros, thin_no_two}

-- one more step at the end
pub removed_more : (M : ℕ → ℕ → ℤ) (rows columns : List ℕ) (steps : List Step) (R C : List ℕ) (step : Step) → IsThinRemoval M rows columns steps R C → IsThinStep M R C step
    → IsThinRemoval M rows columns (steps ++ step ∷ []) (rows_without R step.line) (columns_without C step.line)
removed_more M rows columns [] R C step (r, c) h = (
  subst (λ (xs : List ℕ). IsThinStep M xs columns step) r (subst (λ (xs : List ℕ). IsThinStep M R xs step) c h),
  (ap (λ (xs : List ℕ). rows_without xs step.line) r, ap (λ (xs : List ℕ). columns_without xs step.line) c),
)
removed_more M rows columns (s ∷ steps) R C step (first, rest) h = (first, removed_more M (rows_without rows s.line) (columns_without columns s.line) steps R C step rest h)

-- ---- lines with two nonzeros among themselves are never removed

abbrev pub IsPart : List ℕ → List ℕ → Type 0
IsPart xs ys = (x : ℕ) → Contains xs x → Contains ys x

part_without : (xs ys : List ℕ) (line : ℕ) → IsPart xs ys → ¬ Contains xs line → IsPart xs (without ys line)
part_without xs ys line within gone x h = contains_from_in (without ys line) x (in_without line x ys (in_from_contains ys x (within x h)) (λ e. gone (subst (Contains xs) e h)))

module _ (M : ℕ → ℕ → ℤ) (R C : List ℕ) (two : HaveTwo M R C) where
  stays : (rows columns : List ℕ) (step : Step) (line : Line) → step.line ≡ line → IsThinStep M rows columns step → IsPart R rows → IsPart C columns
      → IsPart R (rows_without rows line) × IsPart C (columns_without columns line)
  stays rows columns step (Row row) e h r c = (part_without R rows row r gone, c)
    where
      few : nonzeros_at columns (M row) ≤ 1
      few = few_nonzeros M Row Column rows columns row step.reason (ap (λ (l : Line). line_reason true M rows columns l) (sym e) ∙ h.reason true) h.thin

      gone : ¬ Contains R row
      gone i = thin_no_two (M row) columns C few c (two.rows_have row i)
  stays rows columns step (Column column) e h r c = (r, part_without C columns column c gone)
    where
      few : nonzeros_at rows (λ i. M i column) ≤ 1
      few = few_nonzeros (λ j i. M i j) Column Row columns rows column step.reason (ap (λ (l : Line). line_reason true M rows columns l) (sym e) ∙ h.reason true) h.thin

      gone : ¬ Contains C column
      gone i = thin_no_two (λ i. M i column) rows R few r (two.columns_have column i)

  pub part_of_rest : (rows columns : List ℕ) (steps : List Step) (R' C' : List ℕ) → IsThinRemoval M rows columns steps R' C' → IsPart R rows → IsPart C columns → IsPart R R' × IsPart C C'
  part_of_rest rows columns [] R' C' (e, f) r c = (subst (IsPart R) (sym e) r, subst (IsPart C) (sym f) c)
  part_of_rest rows columns (s ∷ steps) R' C' (first, rest) r c = let kept = stays rows columns s s.line refl first r c in
      part_of_rest (rows_without rows s.line) (columns_without columns s.line) steps R' C' rest kept.0 kept.1

-- ---- a nonzero is within the matrix

module _ (m : Matrix) (is : IsRectangular m) where
  row_inside : (row column : ℕ) → entry m row column ≢ pos 0 → row < height m
  row_inside row column n = elim (cases_lt row (height m)) [
    | inl l ↦ l
    | inr l ↦ absurd (n (ap (λ (xs : List ℤ). get_or xs column (pos 0)) (get_or_past m.rows row [] l)))
  ]

  column_inside : (row column : ℕ) → entry m row column ≢ pos 0 → column < m.width
  column_inside row column n = elim (cases_lt column m.width) [
    | inl l ↦ l
    | inr l ↦ absurd (n (get_or_past (row_of m row) column (pos 0) (let long = is row (row_inside row column n) in omega (arith, long, l))))
  ]

  -- all that remains when each line has two nonzeros
  pub core_is : (steps : List Step) (rows columns : List ℕ) → IsThinRemoval (entry m) (first_lines (height m)) (first_lines m.width) steps rows columns → HaveTwo (entry m) rows columns
      → IsTwoCore (entry m) rows columns
  core_is steps rows columns removal two = record {
    two = two;
    greatest_rows = λ R C have. (rest R C have).0;
    greatest_columns = λ R C have. (rest R C have).1;
  }
    where
      rest : (R C : List ℕ) → HaveTwo (entry m) R C → IsPart R rows × IsPart C columns
      rest R C have = part_of_rest (entry m) R C have (first_lines (height m)) (first_lines m.width) steps rows columns removal
          (λ row h. let two = have.rows_have row h in contains_from_in (first_lines (height m)) row (in_first_lines (height m) row (row_inside row two.first two.first_nonzero)))
          (λ column h. let two = have.columns_have column h in contains_from_in (first_lines m.width) column (in_first_lines m.width column (column_inside two.first column two.first_nonzero)))

-- ---- violators

pub removals_keep_violators : (m : Matrix) (rows columns : List ℕ) (steps : List Step) (R C : List ℕ) → IsTernary m → IsThinRemoval (entry m) rows columns steps R C
    → HasNoViolator (submatrix m rows columns) ↔ HasNoViolator (submatrix m R C)
removals_keep_violators m rows columns [] R C is (e, f) = let same = ap₂ (submatrix m) e f in (subst HasNoViolator (sym same), subst HasNoViolator same)
removals_keep_violators m rows columns (s ∷ steps) R C is (first, rest) = iff_then (reductions_keep_violators m rows columns s.line true is.small (ap is_some (first.reason true)))
    (removals_keep_violators m (rows_without rows s.line) (columns_without columns s.line) steps R C is rest)

whole_rectangular : (m : Matrix) → IsRectangular m → submatrix m (first_lines (height m)) (first_lines m.width) ≡ m
whole_rectangular m is =
    ap (λ rows. record { rows = rows; width = length (first_lines m.width) }) (sym rows_again) ∙ ap (λ width. record { rows = m.rows; width = width }) (length-range_with_len 0 m.width)
  where
    rows_again : m.rows ≡ map (λ row. map (entry m row) (first_lines m.width)) (first_lines (height m))
    rows_again = fill_by_all (λ row. map (entry m row) (first_lines m.width)) m.rows (height m) [] refl
        (λ row l. fill_by_all (entry m row) (row_of m row) m.width (pos 0) (is row l) (λ column k. refl))

pub removals_decide : (m : Matrix) (steps : List Step) (rows columns : List ℕ) → IsTernary m → IsThinRemoval (entry m) (first_lines (height m)) (first_lines m.width) steps rows columns
    → HasNoViolator m ↔ HasNoViolator (submatrix m rows columns)
removals_decide m steps rows columns is removal = let whole = whole_rectangular m is.rectangular in
    iff_then (subst HasNoViolator (sym whole), subst HasNoViolator whole) (removals_keep_violators m (first_lines (height m)) (first_lines m.width) steps rows columns is removal)

-- ---- one core

same_lines : (xs ys : List ℕ) → IsStrictlyIncreasing xs → IsStrictlyIncreasing ys → IsPart xs ys → IsPart ys xs → xs ≡ ys
same_lines xs ys rising others to from = increasing_same xs ys rising others
    (λ x h. in_from_contains ys x (to x (contains_from_in xs x h))) (λ x h. in_from_contains xs x (from x (contains_from_in ys x h)))

pub one_core : (M : ℕ → ℕ → ℤ) (rows columns R C : List ℕ) → IsStrictlyIncreasing rows → IsStrictlyIncreasing columns → IsStrictlyIncreasing R → IsStrictlyIncreasing C
    → IsTwoCore M rows columns → IsTwoCore M R C → (rows ≡ R) × (columns ≡ C)
one_core M rows columns R C r c r' c' one other = (
  same_lines rows R r r' (other.greatest_rows rows columns one.two) (one.greatest_rows R C other.two),
  same_lines columns C c c' (other.greatest_columns rows columns one.two) (one.greatest_columns R C other.two),
)
