-- There is one least violator.
use Rattle.std.proofs.Common.{◌≡◌, ◌≤◌, ◌∙◌, ℕ, List, ap, sym, subst, inl, inr, arith}
use Rattle.std.proofs.lemmas.Bool.{cases_lt}
use Rattle.cmr_base.specs.Matrix.{Matrix, height, entry}
use Rattle.cmr_base.specs.LineSets.{IsRowSet, IsColumnSet, set_number, set_numbered}
use Rattle.cmr_base.specs.Violator.{IsViolator, IsLeastByColumns, IsLeastByRows, IsLeastColumnSet, IsLeastRowSet, IsLeastViolator}
use Rattle.cmr_base.proofs.IncreasingLists.{IncreasesIn, row_set_increases, column_set_increases}
use Rattle.cmr_base.proofs.SetNumbers.{numbered_same}

-- a violator on sets of lines
pub record IsOnLines (m : Matrix) (rows columns : List ℕ) : Type 0 where
  pub row_set : IsRowSet m rows
  pub column_set : IsColumnSet m columns
  pub violator : IsViolator (entry m) rows columns

-- the least violator is one, whichever side is shorter
pub least_on_lines : (m : Matrix) (rows columns : List ℕ) → IsLeastViolator m rows columns → IsOnLines m rows columns
least_on_lines m rows columns least = elim (cases_lt m.width (height m)) [
  | inl few ↦
      let l = least.few_columns few in
      record { row_set = l.rows_least.row_set; column_set = l.column_set; violator = l.rows_least.violator }
  | inr many ↦
      let l = least.few_rows many in
      record { row_set = l.row_set; column_set = l.columns_least.column_set; violator = l.columns_least.violator }
]

pub same_set : (high : ℕ) (lines others : List ℕ) → IncreasesIn 0 high lines → IncreasesIn 0 high others → set_number lines ≤ set_number others → set_number others ≤ set_number lines → lines ≡ others
same_set high lines others increases increases' up down =
    let same : set_number lines ≡ set_number others = omega arith in
    sym (numbered_same high lines increases) ∙ ap (set_numbered high 0) same ∙ numbered_same high others increases'

one_by_rows : (m : Matrix) (rows columns rows' columns' : List ℕ) → IsLeastByRows m rows columns → IsLeastByRows m rows' columns' → (rows ≡ rows') × (columns ≡ columns')
one_by_rows m rows columns rows' columns' x y =
    let same : rows ≡ rows' = same_set (height m) rows rows' (row_set_increases m rows x.row_set) (row_set_increases m rows' y.row_set)
    (x.rows_least rows' columns' y.row_set y.columns_least.column_set y.columns_least.violator) (y.rows_least rows columns x.row_set x.columns_least.column_set x.columns_least.violator) in
    let here : IsLeastColumnSet m rows' columns = subst (λ rs. IsLeastColumnSet m rs columns) same x.columns_least in (
      same,
      same_set m.width columns columns' (column_set_increases m columns here.column_set) (column_set_increases m columns' y.columns_least.column_set)
          (here.least columns' y.columns_least.column_set y.columns_least.violator) (y.columns_least.least columns here.column_set here.violator),
    )

one_by_columns : (m : Matrix) (rows columns rows' columns' : List ℕ) → IsLeastByColumns m rows columns → IsLeastByColumns m rows' columns' → (rows ≡ rows') × (columns ≡ columns')
one_by_columns m rows columns rows' columns' x y =
    let same : columns ≡ columns' = same_set m.width columns columns' (column_set_increases m columns x.column_set) (column_set_increases m columns' y.column_set)
    (x.columns_least rows' columns' y.rows_least.row_set y.column_set y.rows_least.violator) (y.columns_least rows columns x.rows_least.row_set x.column_set x.rows_least.violator) in
    let here : IsLeastRowSet m rows columns' = subst (λ cs. IsLeastRowSet m rows cs) same x.rows_least in (
      same_set (height m) rows rows' (row_set_increases m rows here.row_set) (row_set_increases m rows' y.rows_least.row_set)
          (here.least rows' y.rows_least.row_set y.rows_least.violator) (y.rows_least.least rows here.row_set here.violator),
      same,
    )

-- there is one least violator
pub one_least : (m : Matrix) (rows columns rows' columns' : List ℕ) → IsLeastViolator m rows columns → IsLeastViolator m rows' columns' → (rows ≡ rows') × (columns ≡ columns')
one_least m rows columns rows' columns' a b = elim (cases_lt m.width (height m)) [
  | inl few ↦ one_by_columns m rows columns rows' columns' (a.few_columns few) (b.few_columns few)
  | inr many ↦ one_by_rows m rows columns rows' columns' (a.few_rows many) (b.few_rows many)
]
