use Rattle.std.proofs.Common.{◌≡◌, ◌∙◌, sym, subst, IfOk, ap, length, get_or, List, ℤ, ℕ, pos}
use Rattle.cmr_base.specs.Matrix.{Matrix, IsEntry, rows_of}
use Rattle.compose.proofs.SignedCells.{all_cells}
use Rattle.compose.proofs.signed_line.signed_submatrix.Goals as goal

pub from_cells-requires-clause-whole : goal.from_cells-requires-clause-whole
from_cells-requires-clause-whole c =
    ap length c.deref.ensures.value
    ∙ (all_cells c.args.matrix.now c.args.rows.now c.args.columns.now c.rows.ensures.shape c.requires.rows c.requires.columns c.loop-row.cells.items c.loop-row.row-index c.loop-row.invariant c.loop-row-test.false).whole

pub from_cells-requires-clause-small : goal.from_cells-requires-clause-small
from_cells-requires-clause-small c =
    subst (λ (cells : List ℤ). (k : ℕ) → IsEntry (get_or cells k (pos 0))) (sym c.deref.ensures.value)
    (all_cells c.args.matrix.now c.args.rows.now c.args.columns.now c.rows.ensures.shape c.requires.rows c.requires.columns c.loop-row.cells.items c.loop-row.row-index c.loop-row.invariant c.loop-row-test.false).small

pub returns : goal.returns
returns c =
    let rows = c.args.rows.now in
    let columns = c.args.columns.now in
    let all = all_cells c.args.matrix.now rows columns c.rows.ensures.shape c.requires.rows c.requires.columns c.loop-row.cells.items c.loop-row.row-index c.loop-row.invariant c.loop-row-test.false in
    subst (λ (t : Matrix). IfOk c.from_cells.result (λ part. part ≡ t))
    (ap (λ (cells : List ℤ). record { rows = rows_of (length rows) (length columns) cells; width = length columns }) c.deref.ensures.value
    ∙ ap (λ (rs : List (List ℤ)). record { rows = rs; width = length columns }) all.cut)
    c.from_cells.ensures
