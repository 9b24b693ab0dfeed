use Rattle.std.proofs.Common.{◌-◌, ◌∙◌, subst, sym, arith}
use Rattle.std.proofs.lemmas.Result.{IfOk-weaker}
use Rattle.cmr_base.specs.declared.line_set.LineSet.{LineSet}
use Rattle.tree_type.specs.DecompositionTrees.{tree_of}
use Rattle.tree_type.specs.Invariant.{AreLines}
use Rattle.decomp_tree.specs.PivotedShapes.{IsDrawnWith, IsShapeWith}
use Rattle.decomp_tree.proofs.PivotedRoots.{all_are_lines, shape_with_fewer}
use Rattle.decomp_tree.proofs.decomposing.+shallow_root.Goals as goal

pub draw_root-requires-clause-lines : goal.draw_root-requires-clause-lines
draw_root-requires-clause-lines g t c = λ κs lives. subst (AreLines c.args.matrix.now) (sym c.requires.lines) (all_are_lines c.args.matrix.now c.requires.shape)

pub returns : goal.returns
returns g t c =
    let m = c.args.matrix.now in
    let deep = tree_of c.in_ok-root.root in
    let drawn = subst (λ (lines : LineSet). IsDrawnWith c.args.limits.lines c.args.pivots 1 m lines deep) c.requires.lines c.in_ok-root.ensures in
    IfOk-weaker c.shallow_root.result (λ node. IsShapeWith c.args.limits.lines (c.args.pivots - 1) m (tree_of node)) _
    (λ node shape. shape_with_fewer c.args.limits.lines m (tree_of node) c.args.pivots (c.args.pivots - 1) (omega (arith, c.if-pivots-eq0.false)) deep drawn (sym c.is_on_levels.ensures ∙ c.if-is_on_levels.false) shape)
    c.shallow_root.ensures
