use Rattle.std.proofs.Common.{◌≡◌, ◌∙◌, ◌++◌, ◌+◌, ◌-◌, ◌*◌, map, ap, ap₂, sym, subst, arith, List, ℤ, ℕ, get_or, pos, length, IfOk}
use Rattle.std.specs.List.{flat_map}
use Rattle.std.proofs.lemmas.Result.{IfOk-weaker}
use Rattle.cmr_base.specs.Matrix.{IsEntry, HasTernaryEntries, Matrix}
use Rattle.cmr_base.specs.Matrix.{rows_of as cut_rows}
use Rattle.cmr_base.specs.LineSets.{first_lines}
use Rattle.sum_ops.specs.Plans.{entries_of, rows_of_sum, columns_of}
use Rattle.cmr_base.proofs.FilledCells.{cells_more, whole, small, cut, filled_small}
use Rattle.sum_ops.proofs.FilledRows.{entries_small}
use Rattle.cmr_base.proofs.SmallEntries.{zero_is_entry}
use Rattle.sum_ops.proofs.plan.Plan.sum.Goals as goal

pub loop-row-preserved : goal.loop-row-preserved
loop-row-preserved c =
    let first = c.args.first.now in
    let second = c.args.second.now in
    let plan = c.args.self in
    let columns : plan.columns + (c.columns.result - plan.left) ≡ columns_of plan second = ap (λ (k : ℕ). plan.columns + (k - plan.left)) c.columns.ensures.columns in
    c.in_ok-push_row.ensures
    ∙ ap (λ (k : ℕ). c.loop-row.cells.items ++ map (entries_of plan first second c.loop-row.row) (first_lines k)) columns
    ∙ ap (λ (cells : List ℤ). cells ++ map (entries_of plan first second c.loop-row.row) (first_lines (columns_of plan second))) c.loop-row.invariant
    ∙ sym (cells_more (λ row. map (entries_of plan first second row) (first_lines (columns_of plan second))) c.loop-row.row)

pub from_cells-requires-clause-whole : goal.from_cells-requires-clause-whole
from_cells-requires-clause-whole c =
    let first = c.args.first.now in
    let second = c.args.second.now in
    let plan = c.args.self in
    let rows : plan.rows + (c.rows.result - plan.up) ≡ rows_of_sum plan second = ap (λ (k : ℕ). plan.rows + (k - plan.up)) c.rows.ensures.rows in
    let columns : plan.columns + (c.columns.result - plan.left) ≡ columns_of plan second = ap (λ (k : ℕ). plan.columns + (k - plan.left)) c.columns.ensures.columns in
    let all : c.loop-row.row ≡ rows_of_sum plan second = omega (arith, rows, c.loop-row-test.false, c.loop-row.auto.row-end) in
    ap length c.deref.ensures.value
    ∙ ap (λ (cells : List ℤ). length cells) c.loop-row.invariant
    ∙ ap (λ (k : ℕ). length (flat_map (λ row. map (entries_of plan first second row) (first_lines (columns_of plan second))) (first_lines k))) all
    ∙ whole (rows_of_sum plan second) (columns_of plan second) (entries_of plan first second) ∙ sym (ap₂ (λ (a b : ℕ). a * b) rows columns)

pub from_cells-requires-clause-small : goal.from_cells-requires-clause-small
from_cells-requires-clause-small c =
    let first = c.args.first.now in
    let second = c.args.second.now in
    let plan = c.args.self in
    λ k. subst (λ (cells : List ℤ). IsEntry (get_or cells k (pos 0))) (sym (c.deref.ensures.value ∙ c.loop-row.invariant))
    (small c.loop-row.row (columns_of plan second) (entries_of plan first second) zero_is_entry (entries_small plan first second c.requires.fits c.rows.ensures.shape) k)

pub returns-clause-blocks : goal.returns-clause-blocks
returns-clause-blocks c =
    let first = c.args.first.now in
    let second = c.args.second.now in
    let plan = c.args.self in
    let rows : plan.rows + (c.rows.result - plan.up) ≡ rows_of_sum plan second = ap (λ (k : ℕ). plan.rows + (k - plan.up)) c.rows.ensures.rows in
    let columns : plan.columns + (c.columns.result - plan.left) ≡ columns_of plan second = ap (λ (k : ℕ). plan.columns + (k - plan.left)) c.columns.ensures.columns in
    let all : c.loop-row.row ≡ rows_of_sum plan second = omega (arith, rows, c.loop-row-test.false, c.loop-row.auto.row-end) in
    subst (λ (t : Matrix). IfOk c.from_cells.result (λ sum. sum ≡ t))
    (ap₂ (λ (m n : ℕ). record { rows = cut_rows m n c.deref.result.now; width = n }) rows columns
    ∙ ap (λ (cells : List ℤ). record { rows = cut_rows (rows_of_sum plan second) (columns_of plan second) cells; width = columns_of plan second })
    (c.deref.ensures.value ∙ c.loop-row.invariant ∙ ap (λ (k : ℕ). flat_map (λ row. map (entries_of plan first second row) (first_lines (columns_of plan second))) (first_lines k)) all)
    ∙ ap (λ (r : List (List ℤ)). record { rows = r; width = columns_of plan second }) (cut (rows_of_sum plan second) (columns_of plan second) (entries_of plan first second)))
    c.from_cells.ensures

pub returns-clause-small : goal.returns-clause-small
returns-clause-small c =
    let first = c.args.first.now in
    let second = c.args.second.now in
    let plan = c.args.self in
    IfOk-weaker c.from_cells.result _ _ (λ sum e. subst HasTernaryEntries (sym e) (filled_small (rows_of_sum plan second) (columns_of plan second) (entries_of plan first second) (entries_small plan first second c.requires.fits c.rows.ensures.shape))) (returns-clause-blocks c)
