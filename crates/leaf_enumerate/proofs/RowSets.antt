-- Row sets in the order of their numbers.
use Rattle.std.proofs.Common.{◌≡◌, ◌<◌, ◌+◌, ◌^◌, ◌∙◌, ℕ, List, sym, subst, inl, inr, arith, Result, Ok, Err, IfOk}
use Rattle.std.proofs.lemmas.Bool.{cases_lt}
use Rattle.cmr_base.specs.Matrix.{Matrix, height, entry}
use Rattle.cmr_base.specs.LineSets.{IsRowSet, IsColumnSet, set_number, set_numbered}
use Rattle.cmr_base.specs.Violator.{HasNoColumnSet, HasNoViolator, IsLeastByRows, IsLeastColumnSet, IsViolator}
use Rattle.cmr_base.proofs.IncreasingLists.{row_set_increases}
use Rattle.cmr_base.proofs.SetNumbers.{number_of_numbered, numbered_same, row_set-numbered, set_number-lt}
use Rattle.first_hit.specs.First.{NoneBetween}
use Rattle.leaf_enumerate.specs.RowSets.{HasColumnSet}

-- the number of a row set with a column set has a column set
pub has_column_set : (m : Matrix) (rows columns : List ℕ) → IsRowSet m rows → IsColumnSet m columns → IsViolator (entry m) rows columns → HasColumnSet m (set_number rows)
has_column_set m rows columns row_set column_set v =
    record { columns = columns; column_set = column_set; violator = subst (λ (set : List ℕ). IsViolator (entry m) set columns) (sym (numbered_same (height m) rows (row_set_increases m rows row_set))) v }

pub least_has : (m : Matrix) (number : ℕ) (columns : List ℕ) → IsLeastColumnSet m (set_numbered (height m) 0 number) columns → HasColumnSet m number
least_has m number columns least = record { columns = columns; column_set = least.column_set; violator = least.violator }

pub none_has : (m : Matrix) (number : ℕ) → HasNoColumnSet m (set_numbered (height m) 0 number) → ¬ (HasColumnSet m number)
none_has m number none has = none has.columns has.column_set has.violator

pub none_more : (m : Matrix) (from number : ℕ) → HasNoColumnSet m (set_numbered (height m) 0 number) → NoneBetween (HasColumnSet m) from number → NoneBetween (HasColumnSet m) from (number + 1)
none_more m from number none before k low high has = elim (cases_lt k number) [
  | inl less ↦ before k low less has
  | inr past ↦
      let same : k ≡ number = omega arith in
      none_has m number none (subst (HasColumnSet m) same has)
]

pub none_at_all : (m : Matrix) (count : ℕ) → count ≡ 2 ^ height m → NoneBetween (HasColumnSet m) 0 count → HasNoViolator m
none_at_all m count all none rows columns row_set column_set v =
    none (set_number rows) (omega arith) (omega (arith, all, set_number-lt (height m) rows (row_set_increases m rows row_set))) (has_column_set m rows columns row_set column_set v)

pub least_found : (m : Matrix) (number : ℕ) (columns : List ℕ) → number < 2 ^ height m → NoneBetween (HasColumnSet m) 0 number → IsLeastColumnSet m (set_numbered (height m) 0 number) columns
    → IsLeastByRows m (set_numbered (height m) 0 number) columns
least_found m number columns small before least = record {
  row_set = row_set-numbered m number;
  columns_least = least;
  rows_least = λ others columns' row_set column_set v. elim (cases_lt (set_number others) number) [
    | inl less ↦ absurd (before (set_number others) (omega arith) less (has_column_set m others columns' row_set column_set v))
    | inr past ↦ omega (arith, number_of_numbered (height m) number small)
  ];
}

pub row_set_of : {E : Type 0} (m : Matrix) (number : ℕ) (set : List ℕ) (result : Result (List ℕ) E) → set ≡ set_numbered (height m) 0 number
    → IfOk result (λ rows. rows ≡ set) → IfOk result (IsRowSet m)
row_set_of m number set (Ok rows) is same = subst (IsRowSet m) (sym (same ∙ is)) (row_set-numbered m number)
row_set_of m number set (Err e) is same = tt
