use Rattle.std.proofs.Common.{◌≡◌, ◌*◌, ◌≤◌, ℕ, ℤ, List, pos, refl, length, get_or}
use Rattle.std.specs.List.{flat_map}
use Rattle.cmr_base.specs.declared.limits.TheConstants.{MAX_COLUMNS, MAX_ROWS}
use Rattle.cmr_base.specs.Matrix.{IsEntry, is_nonzero, rows_of}
use Rattle.cmr_base.specs.Planes.{is_minus, words_for, words_of}
use Rattle.cmr_base.proofs.Rows.{length-rows_of}
use Rattle.cmr_base.proofs.Views.{IsOf, is_matrix-cells, of_planes}
use Rattle.cmr_base.proofs.matrix.Matrix.from_cells.Goals as goal

of_cells : (rows columns : ℕ) (cells : List ℤ) (support minus : List ℕ) → rows ≤ MAX_ROWS → columns ≤ MAX_COLUMNS → length cells ≡ rows * columns → ((k : ℕ) → IsEntry (get_or cells k (pos 0)))
    → support ≡ flat_map (words_of (words_for columns) is_nonzero) (rows_of rows columns cells) → minus ≡ flat_map (words_of (words_for columns) is_minus) (rows_of rows columns cells)
    → IsOf (record { rows = rows_of rows columns cells; width = columns }) rows columns support minus
of_cells rows columns cells support minus few_rows few_columns whole small s_is m_is =
    of_planes (record { rows = rows_of rows columns cells; width = columns }) rows columns support minus (is_matrix-cells rows columns cells few_rows few_columns whole small) (length-rows_of rows columns cells) refl s_is m_is

pub invariant_of-result : goal.invariant_of-result
invariant_of-result c =
    let all = of_cells c.args.rows c.args.columns c.args.cells.now c.in_ok-planes.planes.support.items c.in_ok-planes.planes.minus.items c.requires.rows c.requires.columns c.requires.whole c.requires.small c.in_ok-planes.ensures.support c.in_ok-planes.ensures.minus in
    record { rows_few = c.requires.rows; columns_few = c.requires.columns; support_is = all.support_is; minus_is = all.minus_is }

pub returns : goal.returns
returns c =
    (of_cells c.args.rows c.args.columns c.args.cells.now c.in_ok-planes.planes.support.items c.in_ok-planes.planes.minus.items c.requires.rows c.requires.columns c.requires.whole c.requires.small c.in_ok-planes.ensures.support c.in_ok-planes.ensures.minus).same
