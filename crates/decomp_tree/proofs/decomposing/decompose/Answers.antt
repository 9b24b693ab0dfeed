use Rattle.std.proofs.Common.{◌∙◌, ℕ, ap, subst, sym}
use Rattle.cmr_base.specs.LineSets.{first_lines}
use Rattle.tree_type.specs.DecompositionTrees.{SizedTree, tree_of}
use Rattle.tree_type.specs.Soundness.{IsSoundTree}
use Rattle.decomp_tree.specs.PivotedShapes.{IsShapeWith}
use Rattle.decomp_tree.proofs.PivotedRoots.{all_lines_are, whole_sound, whole_tree}
use Rattle.decomp_tree.proofs.decomposing.decompose.Goals as goal

pub shallow_root-requires-clause-lines : goal.shallow_root-requires-clause-lines
shallow_root-requires-clause-lines g c =
    λ κs lives. all_lines_are c.args.matrix.now c.in_ok-lines.lines (c.in_ok-lines.ensures.rows ∙ ap first_lines c.rows.ensures.rows) (c.in_ok-lines.ensures.columns ∙ ap first_lines c.columns.ensures.columns)

pub make-requires : goal.make-requires
make-requires g c =
    let root = tree_of c.in_ok-root.root in
    let shape = subst (λ (limit : ℕ). IsShapeWith limit c.args.pivots c.args.matrix.now root) c.new-limits.ensures.lines c.in_ok-root.ensures in
    whole_tree c.args.limit c.args.pivots c.args.matrix.now root c.rows.ensures.shape c.rows-2.result c.columns-2.result c.rows-2.ensures.rows c.columns-2.ensures.columns shape

pub returns-clause-shape : goal.returns-clause-shape
returns-clause-shape g c =
    let root = tree_of c.in_ok-root.root in
    let shape = subst (λ (limit : ℕ). IsShapeWith limit c.args.pivots c.args.matrix.now root) c.new-limits.ensures.lines c.in_ok-root.ensures in
    subst (λ (t : SizedTree). IsShapeWith c.args.limit c.args.pivots c.args.matrix.now (tree_of t.root)) (sym c.make.ensures) shape

pub returns-clause-sound : goal.returns-clause-sound
returns-clause-sound g c =
    let root = tree_of c.in_ok-root.root in
    let shape = subst (λ (limit : ℕ). IsShapeWith limit c.args.pivots c.args.matrix.now root) c.new-limits.ensures.lines c.in_ok-root.ensures in
    subst (λ (t : SizedTree). IsSoundTree c.args.matrix.now t.rows t.columns (tree_of t.root)) (sym c.make.ensures)
    (whole_sound c.args.limit c.args.pivots c.args.matrix.now root c.rows.ensures.shape c.rows-2.result c.columns-2.result c.rows-2.ensures.rows c.columns-2.ensures.columns shape c.requires)
