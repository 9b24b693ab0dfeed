-- A matrix with its transposed matrix.
use Rattle.std.specs.Prelude.{◌≡◌}
use Rattle.cmr_base.specs.Matrix.{Matrix, IsMatrix, transposed}
use Rattle.cmr_base.specs.declared.rows_and_columns.RowsAndColumns.TheInside.{Inside}

abbrev pub matrix_of : Inside → Matrix
matrix_of a = a.rows.now

pub record AreTransposed (a : Inside) : Type 0 where
  pub is_matrix : IsMatrix a.rows.now
  pub columns_are : a.columns.now ≡ transposed a.rows.now
