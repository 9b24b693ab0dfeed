use Rattle.std.proofs.Common.{◌≡◌, ◌∙◌, ◌+◌, ◌++◌, ℕ, ℤ, List, [], get_or, drop, ap, ap₂, arith, sym, subst, length, pos, IfOk}
use Rattle.cmr_base.specs.Matrix.{Matrix, height, rows_of, IsEntry}
use Rattle.cmr_base.proofs.SmallEntries.{entry_as_byte}
use Rattle.generate.specs.Generated.{negated_rows}
use Rattle.generate.specs.Signs.{drawn_sign}
use Rattle.generate.proofs.JoinedRows.{joined, times, negated_row, negated_cells, of_size}
use Rattle.generate.proofs.sums.negated.Goals as goal

pub loop-row-preserved : goal.loop-row-preserved
loop-row-preserved c =
    let rows = c.args.matrix.now.rows in
    let signs = c.args.signs.now in
    let row = c.loop-row.row in
    let cells = c.loop-row.cells.items in
    let pushed : c.push_multiple.new.cells.items ≡ cells ++ times (drawn_sign (get_or signs row 0)) (get_or rows row []) =
    c.in_ok-push_multiple.ensures ∙ ap (λ (s : ℤ). cells ++ times s (get_or rows row [])) (entry_as_byte c.sign.result c.sign.ensures.small ∙ c.sign.ensures.value) in
    ap (λ (xs : List ℤ). xs ++ joined (negated_rows (drop (row + 1) rows) (drop (row + 1) signs))) pushed
    ∙ negated_row rows signs row _ cells (omega (arith, c.loop-row-test.true, c.rows-rows.ensures.rows)) c.requires c.loop-row.invariant

pub from_cells-requires-clause-whole : goal.from_cells-requires-clause-whole
from_cells-requires-clause-whole c =
    let m = c.args.matrix.now in
    ap length c.deref.ensures.value
    ∙ (of_size (height m) m.width c.loop-row.cells.items (negated_rows m.rows c.args.signs.now) _ _ c.rows-rows.ensures.rows c.columns-columns.ensures.columns
    (negated_cells m c.args.signs.now c.loop-row.row c.loop-row.cells.items c.rows-rows.ensures.shape (omega (arith, c.loop-row-test.false, c.rows-rows.ensures.rows)) c.loop-row.invariant)).whole

pub from_cells-requires-clause-small : goal.from_cells-requires-clause-small
from_cells-requires-clause-small c =
    subst (λ (cells : List ℤ). (k : ℕ) → IsEntry (get_or cells k (pos 0))) (sym c.deref.ensures.value)
    (negated_cells c.args.matrix.now c.args.signs.now c.loop-row.row c.loop-row.cells.items c.rows-rows.ensures.shape (omega (arith, c.loop-row-test.false, c.rows-rows.ensures.rows)) c.loop-row.invariant).small

pub returns : goal.returns
returns c =
    let m = c.args.matrix.now in
    let made = of_size (height m) m.width c.loop-row.cells.items (negated_rows m.rows c.args.signs.now) c.rows-rows.result c.columns-columns.result c.rows-rows.ensures.rows c.columns-columns.ensures.columns
    (negated_cells m c.args.signs.now c.loop-row.row c.loop-row.cells.items c.rows-rows.ensures.shape (omega (arith, c.loop-row-test.false, c.rows-rows.ensures.rows)) c.loop-row.invariant) in
    subst (λ (t : Matrix). IfOk c.from_cells.result (λ made. made ≡ t))
    (ap (λ (cells : List ℤ). record { rows = rows_of c.rows-rows.result c.columns-columns.result cells; width = c.columns-columns.result }) c.deref.ensures.value
    ∙ ap₂ (λ (rows : List (List ℤ)) (width : ℕ). record { rows = rows; width = width }) made.cut c.columns-columns.ensures.columns)
    c.from_cells.ensures
