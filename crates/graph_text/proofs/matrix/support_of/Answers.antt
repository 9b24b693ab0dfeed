use Rattle.std.proofs.Common.{◌≡◌, ◌*◌, ◌++◌, ◌∙◌, ℕ, ℤ, pos, List, IfOk, length, get_or, ap, ap₂, sym, subst, arith}
use Rattle.std.specs.List.{flat_map}
use Rattle.cmr_base.specs.LineSets.{first_lines}
use Rattle.cmr_base.specs.Matrix.{Matrix, IsEntry, height, rows_of}
use Rattle.cmr_base.proofs.FilledCells.{cells_more, cut, small, whole}
use Rattle.cmr_base.proofs.SmallEntries.{zero_is_entry}
use Rattle.graph_text.specs.SupportMatrix.{one_at}
use Rattle.graph_text.proofs.SupportCells.{cells, one_is_entry, row_cells}
use Rattle.graph_text.proofs.matrix.support_of.Goals as goal

pub loop-row-preserved : goal.loop-row-preserved
loop-row-preserved c =
    let m = c.args.matrix.now in
    c.in_ok-push_support.ensures ∙ ap (λ (xs : List ℤ). xs ++ row_cells m c.loop-row.row) c.loop-row.invariant ∙ sym (cells_more (row_cells m) c.loop-row.row)

all_cells : (m : Matrix) (items : List ℤ) (row last : ℕ) → items ≡ flat_map (row_cells m) (first_lines row) → row ≡ last → last ≡ height m → items ≡ cells m
all_cells m items row last is e f = is ∙ ap (λ (n : ℕ). flat_map (row_cells m) (first_lines n)) (e ∙ f)

pub from_cells-requires-clause-whole : goal.from_cells-requires-clause-whole
from_cells-requires-clause-whole c =
    let m = c.args.matrix.now in
    let last : c.loop-row.row ≡ c.rows-row-end.result = omega (arith, c.loop-row-test.false, c.loop-row.auto.row-end) in
    let all = all_cells m c.loop-row.cells.items c.loop-row.row c.rows-row-end.result c.loop-row.invariant last c.rows-row-end.ensures.rows in
    ap length (c.deref.ensures.value ∙ all) ∙ whole (height m) m.width (one_at m) ∙ sym (ap₂ (λ (a b : ℕ). a * b) c.rows-2.ensures.rows c.columns-2.ensures.columns)

pub from_cells-requires-clause-small : goal.from_cells-requires-clause-small
from_cells-requires-clause-small c =
    let m = c.args.matrix.now in
    let last : c.loop-row.row ≡ c.rows-row-end.result = omega (arith, c.loop-row-test.false, c.loop-row.auto.row-end) in
    let all = all_cells m c.loop-row.cells.items c.loop-row.row c.rows-row-end.result c.loop-row.invariant last c.rows-row-end.ensures.rows in
    subst (λ (items : List ℤ). (k : ℕ) → IsEntry (get_or items k (pos 0))) (sym (c.deref.ensures.value ∙ all)) (small (height m) m.width (one_at m) zero_is_entry (one_is_entry m))

pub returns : goal.returns
returns c =
    let m = c.args.matrix.now in
    let last : c.loop-row.row ≡ c.rows-row-end.result = omega (arith, c.loop-row-test.false, c.loop-row.auto.row-end) in
    let all = all_cells m c.loop-row.cells.items c.loop-row.row c.rows-row-end.result c.loop-row.invariant last c.rows-row-end.ensures.rows in
    subst (λ (t : Matrix). IfOk c.from_cells.result (λ made. made ≡ t))
    (ap (λ (items : List ℤ). record { rows = rows_of c.rows-2.result c.columns-2.result items; width = c.columns-2.result }) (c.deref.ensures.value ∙ all)
    ∙ rw (c.rows-2.ensures.rows, c.columns-2.ensures.columns) (ap (λ (rs : List (List ℤ)). record { rows = rs; width = m.width }) (cut (height m) m.width (one_at m))))
    c.from_cells.ensures
