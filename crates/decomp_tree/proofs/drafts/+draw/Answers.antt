use Rattle.std.proofs.Common.{rules, ◌≡◌, ◌<◌, ◌+◌, ◌∙◌, List, map, length, ap, sym, subst, arith}
use Rattle.std.specs.List.{AllByRecursion}
use Rattle.cmr_base.specs.declared.line_set.LineSet.{LineSet}
use Rattle.cmr_base.specs.Matrix.{Matrix}
use Rattle.cmr_base.proofs.Lists.{all_at}
use Rattle.tree_type.specs.Invariant.{AreLines}
use Rattle.decomp_tree.specs.declared.drafts.Opening.{Opening}
use Rattle.decomp_tree.specs.Obstructions.{IsKnown}
use Rattle.decomp_tree.specs.Seen.{AreFewer}
use Rattle.decomp_tree.specs.Sketches.{sketches_from, sketch_of, AreDrafted, HasOneMoreDraft}
use Rattle.decomp_tree.proofs.Children.{child_lines}
use Rattle.decomp_tree.proofs.DraftLemmas.{drafted_next, drafted_all, one_more_draft}
use Rattle.decomp_tree.proofs.drafts.+draw.Goals as goal

pub in_child-requires-clause-lines : goal.in_child-requires-clause-lines
in_child-requires-clause-lines g t c =
    let opening = c.in_ok-opening.opening.value in
    let items = c.as_slice-child-items.result.now in
    let same : items ≡ opening.children = c.as_slice-child-items.ensures ∙ ap (λ (f : Opening). f.children) c.deref.ensures in
    let fewer = all_at (AreFewer c.args.lines.now) items c.loop-child.child-index c.child-item.result (subst (AllByRecursion (AreFewer c.args.lines.now)) (sym same) c.in_ok-opening.ensures.said.fewer) c.loop-child-test.true in
    subst (λ (m : Matrix). AreLines m c.child-item.result) (sym c.by_rows.ensures.matrix)
    (child_lines c.args.matrix.now c.args.lines.now c.child-item.result c.requires.lines (subst (AreFewer c.args.lines.now) (sym c.child-item.is) fewer))

pub draw-requires : goal.draw-requires
draw-requires g t c =
    let opening = c.in_ok-opening.opening.value in
    let items = c.as_slice-child-items.result.now in
    let child = c.child-item.result in
    let same : items ≡ opening.children = c.as_slice-child-items.ensures ∙ ap (λ (f : Opening). f.children) c.deref.ensures in
    let at_place = all_at (AreFewer c.args.lines.now) items c.loop-child.child-index child (subst (AllByRecursion (AreFewer c.args.lines.now)) (sym same) c.in_ok-opening.ensures.said.fewer) c.loop-child-test.true in
    let are_fewer : AreFewer c.args.lines.now child = subst (AreFewer c.args.lines.now) (sym c.child-item.is) at_place in
    let fewer : length child.rows + length child.columns < length c.args.lines.now.rows + length c.args.lines.now.columns = are_fewer.fewer in
    let falls : length child.rows + length child.columns < t = omega (arith, c.decreases, fewer) in
    λ κs lives. (
      falls,
      (
        search rules,
        (
          search rules,
          (
            c.requires.shape,
            (
              child_lines c.args.matrix.now c.args.lines.now child c.requires.lines are_fewer,
              (
                subst (λ (m : Matrix). IsKnown m c.in_ok-known.known) c.by_rows.ensures.matrix c.in_ok-known.ensures.known,
                c.in_ok-known.ensures.sought,
              ),
            ),
          ),
        ),
      ),
    )

pub loop-child-preserved : goal.loop-child-preserved
loop-child-preserved g t c =
    let items = c.as_slice-child-items.result.now in
    let i = c.loop-child.child-index in
    drafted_next c.args.limits.lines c.args.matrix.now items i c.child-item.result (map sketch_of c.loop-child.children.items) (map sketch_of c.draw.new.drafts.items) c.loop-child-test.true c.loop-child.invariant
    (subst (λ (child : LineSet). HasOneMoreDraft c.args.limits.lines c.args.matrix.now child (map sketch_of c.loop-child.children.items) (map sketch_of c.draw.new.drafts.items)) c.child-item.is c.in_ok-draw.ensures)

pub returns : goal.returns
returns g t c =
    let opening = c.in_ok-opening.opening.value in
    let items = c.as_slice-child-items.result.now in
    let same : items ≡ opening.children = c.as_slice-child-items.ensures ∙ ap (λ (f : Opening). f.children) c.deref.ensures in
    let all : c.loop-child.child-index ≡ length items = (let a = c.loop-child-test.false in let b = c.loop-child.auto.child-index-end in omega (arith, a, b)) in
    let sketches = map sketch_of c.loop-child.children.items in
    one_more_draft c.args.limits.lines c.args.matrix.now c.args.limits.few_lines c.requires.shape c.args.lines.now c.requires.lines opening c.in_ok-opening.ensures c.loop-child.children.items
    (subst (λ (children : List LineSet). AreDrafted c.args.limits.lines c.args.matrix.now children (sketches_from sketches)) same (drafted_all c.args.limits.lines c.args.matrix.now items c.loop-child.child-index sketches all c.loop-child.invariant))
    (map sketch_of c.args.drafts.now.items) (map sketch_of c.push_draft.new.drafts.items) c.in_ok-push_draft.ensures
