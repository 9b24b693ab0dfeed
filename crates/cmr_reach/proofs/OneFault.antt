-- The least balance fault is unique.
use Rattle.std.proofs.Common.{◌≡◌, ◌≤◌, ◌∙◌, ℕ, List, subst, inl, inr}
use Rattle.std.proofs.lemmas.Bool.{cases_lt}
use Rattle.cmr_base.specs.Matrix.{Matrix, height}
use Rattle.cmr_base.proofs.IncreasingLists.{row_set_increases, column_set_increases}
use Rattle.balance.specs.BalanceFaults.{IsLeastFault, IsLeastFaultByColumns, IsLeastFaultByRows, IsLeastFaultColumns, IsLeastFaultRows}
use Rattle.decomp_tree.proofs.OneLeast.{same_set}

one_by_rows : (m : Matrix) (rows columns rows' columns' : List ℕ) → IsLeastFaultByRows m rows columns → IsLeastFaultByRows m rows' columns' → (rows ≡ rows') × (columns ≡ columns')
one_by_rows m rows columns rows' columns' x y =
    let same : rows ≡ rows' = same_set (height m) rows rows' (row_set_increases m rows x.row_set) (row_set_increases m rows' y.row_set)
    (x.rows_least rows' columns' y.row_set y.columns_least.column_set y.columns_least.fault) (y.rows_least rows columns x.row_set x.columns_least.column_set x.columns_least.fault) in
    let here : IsLeastFaultColumns m rows' columns = subst (λ rs. IsLeastFaultColumns m rs columns) same x.columns_least in (
      same,
      same_set m.width columns columns' (column_set_increases m columns here.column_set) (column_set_increases m columns' y.columns_least.column_set)
          (here.least columns' y.columns_least.column_set y.columns_least.fault) (y.columns_least.least columns here.column_set here.fault),
    )

one_by_columns : (m : Matrix) (rows columns rows' columns' : List ℕ) → IsLeastFaultByColumns m rows columns → IsLeastFaultByColumns m rows' columns' → (rows ≡ rows') × (columns ≡ columns')
one_by_columns m rows columns rows' columns' x y =
    let same : columns ≡ columns' = same_set m.width columns columns' (column_set_increases m columns x.column_set) (column_set_increases m columns' y.column_set)
    (x.columns_least rows' columns' y.rows_least.row_set y.column_set y.rows_least.fault) (y.columns_least rows columns x.rows_least.row_set x.column_set x.rows_least.fault) in
    let here : IsLeastFaultRows m rows columns' = subst (λ cs. IsLeastFaultRows m rows cs) same x.rows_least in (
      same_set (height m) rows rows' (row_set_increases m rows here.row_set) (row_set_increases m rows' y.rows_least.row_set)
          (here.least rows' y.rows_least.row_set y.rows_least.fault) (y.rows_least.least rows here.row_set here.fault),
      same,
    )

pub one_least_fault : (m : Matrix) (rows columns rows' columns' : List ℕ) → IsLeastFault m rows columns → IsLeastFault m rows' columns' → (rows ≡ rows') × (columns ≡ columns')
one_least_fault m rows columns rows' columns' a b = elim (cases_lt m.width (height m)) [
  | inl few ↦ one_by_columns m rows columns rows' columns' (a.few_columns few) (b.few_columns few)
  | inr many ↦ one_by_rows m rows columns rows' columns' (a.few_rows many) (b.few_rows many)
]
