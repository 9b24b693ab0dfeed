use Rattle.std.proofs.Common.{◌≡◌, ◌∙◌, ℕ, List, IfOk, ap, sym, subst}
use Rattle.cmr_base.specs.Matrix.{height}
use Rattle.cmr_base.specs.LineSets.{first_lines, AllBelow}
use Rattle.cmr_base.specs.Reductions.{Removal}
use Rattle.cmr_base.proofs.LineSetLemmas.{first_below}
use Rattle.sp_reduce.proofs.StatedOrder.{from_all_lines}
use Rattle.sp_reduce.proofs.removal.reduce.Goals as goal

pub reduce_lines-requires-clause-rows : goal.reduce_lines-requires-clause-rows
reduce_lines-requires-clause-rows c =
    subst (λ (lines : List ℕ). AllBelow (height c.args.matrix.now) lines) (sym (c.in_ok-lines.ensures.rows ∙ ap first_lines c.rows.ensures.rows)) (first_below (height c.args.matrix.now))

pub reduce_lines-requires-clause-columns : goal.reduce_lines-requires-clause-columns
reduce_lines-requires-clause-columns c =
    subst (λ (lines : List ℕ). AllBelow c.args.matrix.now.width lines) (sym (c.in_ok-lines.ensures.columns ∙ ap first_lines c.columns.ensures.columns)) (first_below c.args.matrix.now.width)

pub returns-clause-steps : goal.returns-clause-steps
returns-clause-steps c =
    subst (λ (x : Removal). IfOk c.reduce_lines.result (λ reduction. reduction.steps ≡ x.steps))
    (from_all_lines c.args.binary c.args.matrix.now c.in_ok-lines.lines.rows c.in_ok-lines.lines.columns
    (c.in_ok-lines.ensures.rows ∙ ap first_lines c.rows.ensures.rows) (c.in_ok-lines.ensures.columns ∙ ap first_lines c.columns.ensures.columns)) c.reduce_lines.ensures.steps

pub returns-clause-rows : goal.returns-clause-rows
returns-clause-rows c =
    subst (λ (x : Removal). IfOk c.reduce_lines.result (λ reduction. reduction.rest.rows ≡ x.rows))
    (from_all_lines c.args.binary c.args.matrix.now c.in_ok-lines.lines.rows c.in_ok-lines.lines.columns
    (c.in_ok-lines.ensures.rows ∙ ap first_lines c.rows.ensures.rows) (c.in_ok-lines.ensures.columns ∙ ap first_lines c.columns.ensures.columns)) c.reduce_lines.ensures.rows

pub returns-clause-columns : goal.returns-clause-columns
returns-clause-columns c =
    subst (λ (x : Removal). IfOk c.reduce_lines.result (λ reduction. reduction.rest.columns ≡ x.columns))
    (from_all_lines c.args.binary c.args.matrix.now c.in_ok-lines.lines.rows c.in_ok-lines.lines.columns
    (c.in_ok-lines.ensures.rows ∙ ap first_lines c.rows.ensures.rows) (c.in_ok-lines.ensures.columns ∙ ap first_lines c.columns.ensures.columns)) c.reduce_lines.ensures.columns
