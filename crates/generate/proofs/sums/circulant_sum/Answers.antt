use Rattle.std.proofs.Common.{◌≡◌, ◌+◌, ◌*◌, ◌∙◌, ℕ, ℤ, List, length, get_or, refl, ap, ap₂, arith, sym, subst, pos, IfOk}
use Rattle.cmr_base.specs.Matrix.{Matrix, rows_of, IsEntry}
use Rattle.generate.specs.Generated.{circulant_sum}
use Rattle.generate.proofs.JoinedRows.{sum_height, sum_width}
use Rattle.generate.proofs.SumRows.{more_rows, sum_cells}
use Rattle.generate.proofs.sums.circulant_sum.Goals as goal

pub loop-row-preserved : goal.loop-row-preserved
loop-row-preserved c =
    more_rows (circulant_sum c.args.size) c.loop-row.row c.loop-row.cells.items _ (omega (arith, c.loop-row-test.true, sum_height c.args.size c.requires.positive)) c.loop-row.invariant
    c.in_ok-push_sum_row.ensures

pub from_cells-requires-clause-whole : goal.from_cells-requires-clause-whole
from_cells-requires-clause-whole c =
    ap length c.deref.ensures.value
    ∙ (sum_cells c.args.size (4 * c.args.size + 1) c.loop-row.cells.items c.loop-row.row c.requires.positive refl (omega (arith, c.loop-row-test.false)) c.loop-row.invariant).whole

pub from_cells-requires-clause-small : goal.from_cells-requires-clause-small
from_cells-requires-clause-small c =
    subst (λ (cells : List ℤ). (k : ℕ) → IsEntry (get_or cells k (pos 0))) (sym c.deref.ensures.value)
    (sum_cells c.args.size (4 * c.args.size + 1) c.loop-row.cells.items c.loop-row.row c.requires.positive refl (omega (arith, c.loop-row-test.false)) c.loop-row.invariant).small

pub returns : goal.returns
returns c =
    let lines = 4 * c.args.size + 1 in
    let made = sum_cells c.args.size lines c.loop-row.cells.items c.loop-row.row c.requires.positive refl (omega (arith, c.loop-row-test.false)) c.loop-row.invariant in
    subst (λ (t : Matrix). IfOk c.from_cells.result (λ made. made ≡ t))
    (ap (λ (cells : List ℤ). record { rows = rows_of lines lines cells; width = lines }) c.deref.ensures.value
    ∙ ap₂ (λ (rows : List (List ℤ)) (width : ℕ). record { rows = rows; width = width }) made.cut (sym (sum_width c.args.size c.requires.positive)))
    c.from_cells.ensures
