use Rattle.std.proofs.Common.{◌≡◌, ◌∙◌, IfOk, ap, sym, subst}
use Rattle.cmr_base.specs.LineSets.{AllBelow}
use Rattle.cmr_base.specs.Matrix.{Matrix, IsMatrix, height}
use Rattle.tree_type.specs.Invariant.{AreLines}
use Rattle.tree_type.specs.Soundness.{part}
use Rattle.decomp_tree.specs.Obstructions.{IsKnown}
use Rattle.decomp_tree.specs.Shapes.{HasNoLines}
use Rattle.decomp_tree.specs.Seen.{IsSeen}
use Rattle.decomp_tree.proofs.Said.{none_first, none_next, none_after_fault, seen_empty}
use Rattle.decomp_tree.proofs.looking.look.Goals as goal
use Rattle.decomp_tree.proofs.looking.look.Goals.{else-rows-eq0-via-then-rows-eq0+else-columns-eq0, else-rows-eq0-via-else-rows-eq0}

pub part-requires-clause-rows : goal.part-requires-clause-rows
part-requires-clause-rows g c = subst (λ (m : Matrix). AllBelow (height m) c.args.lines.now.rows) (sym c.by_rows-whole.ensures.matrix) c.requires.lines.rows.in_range

pub part-requires-clause-columns : goal.part-requires-clause-columns
part-requires-clause-columns g c = subst (λ (m : Matrix). AllBelow m.width c.args.lines.now.columns) (sym c.by_rows-whole.ensures.matrix) c.requires.lines.columns.in_range

pub invariant_of-node : goal.invariant_of-node
invariant_of-node g c = record {
  shape = subst IsMatrix (sym c.by_rows-whole.ensures.matrix) c.requires.shape;
  are_lines = subst (λ (m : Matrix). AreLines m c.args.lines.now) (sym c.by_rows-whole.ensures.matrix) c.requires.lines;
  submatrix_is = c.of-submatrix.ensures ∙ c.in_ok-part.ensures;
}

pub returns-then-columns-eq0 : goal.returns-then-columns-eq0
returns-then-columns-eq0 g c =
    let same = c.in_ok-part.ensures ∙ ap (λ (m : Matrix). part m c.args.lines.now) c.by_rows-whole.ensures.matrix in
    subst (IsSeen c.args.limits.lines c.args.matrix.now c.args.lines.now) (sym c.leaf.ensures)
    (seen_empty c.args.limits.lines c.args.matrix.now c.requires.shape c.args.lines.now c.requires.lines
    (ap height (sym same) ∙ sym c.rows.ensures.rows ∙ c.if-rows-eq0.true)
    (ap (λ (m : Matrix). m.width) (sym same) ∙ sym c.columns.ensures.columns ∙ c.if-columns-eq0.true))

pub look_filled-requires-clause-none : goal.look_filled-requires-clause-none
look_filled-requires-clause-none g c =
    let m = c.by_rows-whole.result.now in
    let lines = c.args.lines.now in
    let same = c.in_ok-part.ensures in
    let no_lines : ¬ ((height (part m lines) ≡ 0) × ((part m lines).width ≡ 0)) = elim c.else-rows-eq0.branch [
      | else-rows-eq0-via-then-rows-eq0+else-columns-eq0 w ↦ (λ (h : (height (part m lines) ≡ 0) × ((part m lines).width ≡ 0)). w.if-columns-eq0.false (w.columns.ensures.columns ∙ ap (λ (n : Matrix). n.width) same ∙ h.1))
      | else-rows-eq0-via-else-rows-eq0 w ↦ (λ (h : (height (part m lines) ≡ 0) × ((part m lines).width ≡ 0)). w.if-rows-eq0.false (c.rows.ensures.rows ∙ ap height same ∙ h.0))
    ] in
    λ κs lives. none_after_fault c.args.limits.lines (part m lines) (none_next c.args.limits.lines (part m lines) HasNoLines (none_first c.args.limits.lines (part m lines)) no_lines)

pub look_filled-requires-clause-known : goal.look_filled-requires-clause-known
look_filled-requires-clause-known g c = λ κs lives. subst (λ (m : Matrix). IsKnown m c.args.obstruction.now) (sym c.by_rows-whole.ensures.matrix) c.requires.known

pub returns : goal.returns
returns g c = subst (λ (m : Matrix). IfOk c.look_filled.result (IsSeen c.args.limits.lines m c.args.lines.now)) c.by_rows-whole.ensures.matrix c.look_filled.ensures
