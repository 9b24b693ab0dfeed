-- Submatrices by their fields.
use Rattle.path_places.specs.Submatrices.{SubmatrixView}
use Rattle.path_places.specs.declared.submatrix.Submatrix.{Submatrix}

abbrev pub view_of : Submatrix → SubmatrixView
view_of s = record { matrix = s.matrix.now; rows = s.rows.now; columns = s.columns.now }
