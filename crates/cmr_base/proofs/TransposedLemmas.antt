-- Violators of the transposed matrix.
use Rattle.std.proofs.Common.{◌≡◌, ◌<◌, ℕ, ℤ, List, length, subst, sym, get_or}
use Rattle.std.proofs.Math.Path.{fun_ext}
use Rattle.cmr_base.specs.Matrix.{Matrix, entry, transposed, IsMatrix, IsRectangular}
use Rattle.cmr_base.specs.LineSets.{IsRowSet, IsColumnSet}
use Rattle.cmr_base.specs.Violator.{IsViolator, HasNoViolator, IsLeastByColumns, IsLeastByRows}
use Rattle.cmr_base.proofs.Parts.{entry-transposed_rectangular, height-transposed}
use Rattle.cmr_base.proofs.ViolatorLemmas.{violator-transposed}

entries-transposed_rectangular : (m : Matrix) → IsRectangular m → entry (transposed m) ≡ (λ column row. entry m row column)
entries-transposed_rectangular m is = fun_ext (λ column. fun_ext (λ row. entry-transposed_rectangular m row column is))

pub entries-transposed : (m : Matrix) → IsMatrix m → entry (transposed m) ≡ (λ column row. entry m row column)
entries-transposed m is = entries-transposed_rectangular m is.rectangular

pub violator_from_transposed : (m : Matrix) (rows columns : List ℕ) → IsMatrix m → IsViolator (entry (transposed m)) columns rows → IsViolator (entry m) rows columns
violator_from_transposed m rows columns is v = violator-transposed (λ column row. entry m row column) columns rows (subst (λ (M : ℕ → ℕ → ℤ). IsViolator M columns rows) (entries-transposed m is) v)

violator_of_transposed_rectangular : (m : Matrix) (rows columns : List ℕ) → IsRectangular m → IsViolator (entry m) rows columns → IsViolator (entry (transposed m)) columns rows
violator_of_transposed_rectangular m rows columns is v = subst (λ (M : ℕ → ℕ → ℤ). IsViolator M columns rows) (sym (entries-transposed_rectangular m is)) (violator-transposed (entry m) rows columns v)

pub violator_of_transposed : (m : Matrix) (rows columns : List ℕ) → IsMatrix m → IsViolator (entry m) rows columns → IsViolator (entry (transposed m)) columns rows
violator_of_transposed m rows columns is = violator_of_transposed_rectangular m rows columns is.rectangular

pub row_set-transposed : (m : Matrix) (columns : List ℕ) → IsColumnSet m columns → IsRowSet (transposed m) columns
row_set-transposed m columns is = record { increasing = is.increasing; in_range = subst (λ (bound : ℕ). (k : ℕ) → k < length columns → get_or columns k 0 < bound) (sym (height-transposed m)) is.in_range }

pub column_set_from_transposed : (m : Matrix) (columns : List ℕ) → IsRowSet (transposed m) columns → IsColumnSet m columns
column_set_from_transposed m columns is = record { increasing = is.increasing; in_range = subst (λ (bound : ℕ). (k : ℕ) → k < length columns → get_or columns k 0 < bound) (height-transposed m) is.in_range }

pub column_set-transposed : (m : Matrix) (rows : List ℕ) → IsRowSet m rows → IsColumnSet (transposed m) rows
column_set-transposed m rows is = record { increasing = is.increasing; in_range = is.in_range }

pub row_set_from_transposed : (m : Matrix) (rows : List ℕ) → IsColumnSet (transposed m) rows → IsRowSet m rows
row_set_from_transposed m rows is = record { increasing = is.increasing; in_range = is.in_range }

pub none_from_transposed_rectangular : (m : Matrix) → IsRectangular m → HasNoViolator (transposed m) → HasNoViolator m
none_from_transposed_rectangular m is none rows columns row_set column_set v =
    none columns rows (row_set-transposed m columns column_set) (column_set-transposed m rows row_set) (violator_of_transposed_rectangular m rows columns is v)

pub none_from_transposed : (m : Matrix) → IsMatrix m → HasNoViolator (transposed m) → HasNoViolator m
none_from_transposed m is = none_from_transposed_rectangular m is.rectangular

pub least_from_transposed : (m : Matrix) (rows columns : List ℕ) → IsMatrix m → IsLeastByRows (transposed m) columns rows → IsLeastByColumns m rows columns
least_from_transposed m rows columns is least = record {
  column_set = column_set_from_transposed m columns least.row_set;
  rows_least = record {
    row_set = row_set_from_transposed m rows least.columns_least.column_set;
    violator = violator_from_transposed m rows columns is least.columns_least.violator;
    least = λ others row_set v. least.columns_least.least others (column_set-transposed m others row_set) (violator_of_transposed m others columns is v);
  };
  columns_least = λ rows' others row_set column_set v. least.rows_least others rows' (row_set-transposed m others column_set) (column_set-transposed m rows' row_set) (violator_of_transposed m rows' others is v);
}
