-- The least violator contains no other violator.
use Rattle.std.proofs.Common.{◌≡◌, ◌≤◌, inl, inr, ◌+◌, ◌^◌, ◌∙◌, ℕ, List, [], ◌∷◌, ap, sym, subst, arith}
use Rattle.std.proofs.lemmas.Bool.{cases_lt}
use Rattle.std.proofs.Math.Pow.{pow_pos}
use Rattle.cmr_base.specs.Matrix.{Matrix, height, entry}
use Rattle.cmr_base.specs.LineSets.{IsRowSet, IsColumnSet, set_number}
use Rattle.cmr_base.specs.Violator.{IsViolator, IsLeastByRows, IsLeastByColumns}
use Rattle.cmr_base.proofs.IncreasingLists.{row_set_increases, column_set_increases}
use Rattle.ghouila.proofs.Sublists.{IsSublist}
use Rattle.determinant_two.specs.MinimalViolators.{IsViolatorOn, IsMinimalViolator}
use Rattle.determinant_two.specs.Laws.{LeastViolatorsAreMinimal}
use Rattle.determinant_two.proofs.SearchedSublists.{sublist_of_members}

number_of_sublist : (R P : List ℕ) → IsSublist P R → set_number P ≤ set_number R
number_of_sublist [] P h = subst (λ (xs : List ℕ). set_number xs ≤ 0) (sym h) (omega arith)
number_of_sublist (x ∷ R) P (inl h) = let least = number_of_sublist R P h in omega (arith, least)
number_of_sublist (x ∷ R) P (inr h) = let later = number_of_sublist R h.0 h.2 in subst (λ (xs : List ℕ). set_number xs ≤ 2 ^ x + set_number R) (sym h.1) (omega (arith, later))

sublist_by_number : (R P : List ℕ) → IsSublist P R → set_number R ≤ set_number P → P ≡ R
sublist_by_number [] P h l = h
sublist_by_number (x ∷ R) P (inl h) l = absurd (let short = number_of_sublist R P h in let more = pow_pos x in omega (arith, short, more))
sublist_by_number (x ∷ R) P (inr h) l = h.1 ∙ ap (λ (xs : List ℕ). x ∷ xs) (sublist_by_number R h.0 h.2 (fewer h.0 (subst (λ (xs : List ℕ). 2 ^ x + set_number R ≤ set_number xs) h.1 l)))
  where
    fewer : (Q : List ℕ) → 2 ^ x + set_number R ≤ 2 ^ x + set_number Q → set_number R ≤ set_number Q
    fewer Q l = omega (arith, l)

module _ (m : Matrix) (rows columns : List ℕ) where
  same_rows : (part_rows part_columns : List ℕ) → IsRowSet m rows → IsViolatorOn m rows columns part_rows part_columns → set_number rows ≤ set_number part_rows → part_rows ≡ rows
  same_rows part_rows part_columns row_set part l = sublist_by_number rows part_rows
      (sublist_of_members 0 (height m) rows part_rows (row_set_increases m rows row_set) (row_set_increases m part_rows part.row_set) part.rows_among) l

  same_columns : (part_rows part_columns : List ℕ) → IsColumnSet m columns → IsViolatorOn m rows columns part_rows part_columns → set_number columns ≤ set_number part_columns
      → part_columns ≡ columns
  same_columns part_rows part_columns column_set part l = sublist_by_number columns part_columns
      (sublist_of_members 0 m.width columns part_columns (column_set_increases m columns column_set) (column_set_increases m part_columns part.column_set) part.columns_among) l

  by_rows : IsLeastByRows m rows columns → IsMinimalViolator m rows columns
  by_rows least = record {
    row_set = least.row_set;
    column_set = least.columns_least.column_set;
    violator = least.columns_least.violator;
    minimal = λ part_rows part_columns part.
        let same : part_rows ≡ rows = same_rows part_rows part_columns least.row_set part (least.rows_least part_rows part_columns part.row_set part.column_set part.violator) in (
          same,
          same_columns part_rows part_columns least.columns_least.column_set part
              (least.columns_least.least part_columns part.column_set (subst (λ (xs : List ℕ). IsViolator (entry m) xs part_columns) same part.violator)),
        );
  }

  by_columns : IsLeastByColumns m rows columns → IsMinimalViolator m rows columns
  by_columns least = record {
    row_set = least.rows_least.row_set;
    column_set = least.column_set;
    violator = least.rows_least.violator;
    minimal = λ part_rows part_columns part.
        let same : part_columns ≡ columns = same_columns part_rows part_columns least.column_set part (least.columns_least part_rows part_columns part.row_set part.column_set part.violator) in (
          same_rows part_rows part_columns least.rows_least.row_set part
              (least.rows_least.least part_rows part.row_set (subst (λ (xs : List ℕ). IsViolator (entry m) part_rows xs) same part.violator)),
          same,
        );
  }

pub least_violators_are_minimal : LeastViolatorsAreMinimal
least_violators_are_minimal m rows columns least = elim (cases_lt m.width (height m)) [
  | inl few ↦ by_columns m rows columns (least.few_columns few)
  | inr many ↦ by_rows m rows columns (least.few_rows many)
]
