use Rattle.std.proofs.Common.{◌≡◌, ◌∙◌, List, ℕ, [], sym, subst}
use Rattle.cmr_base.specs.LineSets.{AllBelow}
use Rattle.cmr_base.specs.Matrix.{height}
use Rattle.cmr_base.specs.Trees.{support}
use Rattle.cmr_base.specs.ColumnSets.{has_column, Denies}
use Rattle.bridge_split.specs.Cutting.{rows_at_part, AreUncutIn}
use Rattle.bridge_split.proofs.CutTables.{line_more}
use Rattle.bridge_split.proofs.cuts.push_cuts.Goals as goal
use Rattle.std.proofs.lemmas.List.{get_or_default}

pub part_cuts-requires-clause-rows : goal.part_cuts-requires-clause-rows
part_cuts-requires-clause-rows c =
    let p = c.loop-part.part-index in
    let item : c.part-item.result ≡ rows_at_part c.args.parts.now p = c.part-item.is ∙ get_or_default c.args.parts.now p c.part-item.result [] c.loop-part-test.true in
    subst (AllBelow (height c.args.matrix.now)) (sym (c.as_slice.ensures.items ∙ item)) (c.requires.rows p c.loop-part-test.true)

pub loop-part-preserved : goal.loop-part-preserved
loop-part-preserved c =
    let M = support c.args.matrix.now in
    let p = c.loop-part.part-index in
    let item : c.part-item.result ≡ rows_at_part c.args.parts.now p = c.part-item.is ∙ get_or_default c.args.parts.now p c.part-item.result [] c.loop-part-test.true in
    line_more M (has_column c.args.columns.now.words) c.args.parts.now p c.args.cuts.now.items c.loop-part.cuts.items c.push.new.self.items c.part_cuts.result c.loop-part.invariant c.in_ok-push.ensures.items
    (subst (λ (rows : List ℕ). Denies c.part_cuts.result (AreUncutIn M (has_column c.args.columns.now.words) rows)) (c.as_slice.ensures.items ∙ item) c.part_cuts.ensures)
