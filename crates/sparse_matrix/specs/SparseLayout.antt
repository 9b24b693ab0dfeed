-- The fields of a sparse matrix.
use Rattle.sparse_matrix.specs.declared.matrix.SparseMatrix.TheInside.{Inside}
use Rattle.sparse_matrix.specs.SparseRows.{SparseRows, AreSparseRows}

abbrev pub sparse_rows_of : Inside → SparseRows
sparse_rows_of a = record { runs = a.runs.items; width = a.columns }

abbrev pub AreRows : Inside → Type 0
AreRows a = AreSparseRows (sparse_rows_of a)
