use Rattle.std.proofs.Common.{◌≡◌, ◌∙◌, sym, ap, subst, List, ℕ}
use Rattle.std.proofs.lemmas.Bool.{true≢false}
use Rattle.cmr_base.specs.Matrix.{height}
use Rattle.cmr_base.specs.LineSets.{first_lines, IsRowSet, IsColumnSet, submatrix}
use Rattle.cmr_base.proofs.GreedyLemmas.{greedy_set_minimal}
use Rattle.cmr_base.proofs.Submatrices.{inherited_from_hereditary}
use Rattle.cmr_base.proofs.WholeMatrices.{is_ternary, whole_submatrix, all_lines_make}
use Rattle.minimal_sets.proofs.Passes.{all_rows, all_columns, greedy_from_all}
use Rattle.minimal_sets.proofs.greedy.minimal_without.Goals as goal

pub holds_on-requires-clause-rows : goal.holds_on-requires-clause-rows
holds_on-requires-clause-rows g c =
    subst (λ (rows : List ℕ). IsRowSet c.args.matrix.now rows) (sym (c.in_ok-all.ensures.rows ∙ ap first_lines c.rows.ensures.rows)) (all_rows c.args.matrix.now)

pub holds_on-requires-clause-columns : goal.holds_on-requires-clause-columns
holds_on-requires-clause-columns g c =
    subst (λ (columns : List ℕ). IsColumnSet c.args.matrix.now columns) (sym (c.in_ok-all.ensures.columns ∙ ap first_lines c.columns.ensures.columns)) (all_columns c.args.matrix.now)

pub returns-then-branch-clause-found : goal.returns-then-branch-clause-found
returns-then-branch-clause-found g c =
    let m = c.args.matrix.now in
    let P = g.P.Property.holds c.args.property.now in
    subst P (all_lines_make m c.in_ok-all.all.rows c.in_ok-all.all.columns c.rows.ensures.shape
    (c.in_ok-all.ensures.rows ∙ ap first_lines c.rows.ensures.rows) (c.in_ok-all.ensures.columns ∙ ap first_lines c.columns.ensures.columns))
    (c.in_ok-holds_on.ensures.0 c.if-branch.true)

pub leave_out-requires-clause-rows : goal.leave_out-requires-clause-rows
leave_out-requires-clause-rows g c =
    subst (λ (rows : List ℕ). IsRowSet c.args.matrix.now rows) (sym (c.in_ok-all.ensures.rows ∙ ap first_lines c.rows.ensures.rows)) (all_rows c.args.matrix.now)

pub leave_out-requires-clause-columns : goal.leave_out-requires-clause-columns
leave_out-requires-clause-columns g c =
    subst (λ (columns : List ℕ). IsColumnSet c.args.matrix.now columns) (sym (c.in_ok-all.ensures.columns ∙ ap first_lines c.columns.ensures.columns)) (all_columns c.args.matrix.now)

pub leave_out-requires-clause-lacks : goal.leave_out-requires-clause-lacks
leave_out-requires-clause-lacks g c p = true≢false (sym (c.in_ok-holds_on.ensures.1 p) ∙ c.if-branch.false)

pub returns-clause-found : goal.returns-clause-found
returns-clause-found g c =
    let m = c.args.matrix.now in
    let P = g.P.Property.holds c.args.property.now in
    let all = c.in_ok-all.all in
    let left = c.in_ok-left.left in
    let r : all.rows ≡ first_lines (height m) = c.in_ok-all.ensures.rows ∙ ap first_lines c.rows.ensures.rows in
    let k : all.columns ≡ first_lines m.width = c.in_ok-all.ensures.columns ∙ ap first_lines c.columns.ensures.columns in
    let whole = all_lines_make m all.rows all.columns c.rows.ensures.shape r k in
    (λ p. true≢false (sym (c.in_ok-holds_on.ensures.1 (subst P (sym whole) p)) ∙ c.if-branch.false), greedy_from_all P m all.rows all.columns left.rows left.columns r k c.in_ok-left.ensures)

pub returns-clause-minimal : goal.returns-clause-minimal
returns-clause-minimal g c =
    let m = c.args.matrix.now in
    let P = g.P.Property.holds c.args.property.now in
    let all = c.in_ok-all.all in
    let left = c.in_ok-left.left in
    let r : all.rows ≡ first_lines (height m) = c.in_ok-all.ensures.rows ∙ ap first_lines c.rows.ensures.rows in
    let k : all.columns ≡ first_lines m.width = c.in_ok-all.ensures.columns ∙ ap first_lines c.columns.ensures.columns in
    let whole = all_lines_make m all.rows all.columns c.rows.ensures.shape r k in
    let lacks : ¬ P (submatrix m (first_lines (height m)) (first_lines m.width)) =
    λ p. true≢false (sym (c.in_ok-holds_on.ensures.1 (subst P (sym (whole ∙ sym (whole_submatrix m c.rows.ensures.shape))) p)) ∙ c.if-branch.false) in
    greedy_set_minimal P m (inherited_from_hereditary P c.requires.hereditary m (is_ternary m c.rows.ensures.shape)) left.rows left.columns lacks
    (greedy_from_all P m all.rows all.columns left.rows left.columns r k c.in_ok-left.ensures)
