use Rattle.std.proofs.Common.{below_more, get_or}
use Rattle.cmr_base.specs.Trees.{support}
use Rattle.cmr_base.proofs.Members.{in_at}
use Rattle.cmr_base.proofs.Places.{all_placed}
use Rattle.cmr_base.specs.ColumnSets.{has_column}
use Rattle.bridge_split.specs.Cutting.{IsUncutIn}
use Rattle.bridge_split.proofs.CutTables.{uncut_sets, sets_uncut}
use Rattle.bridge_split.proofs.cuts.part_cuts.Goals as goal

pub returns-then-is_cut_by_words : goal.returns-then-is_cut_by_words
returns-then-is_cut_by_words c = λ all.
    let row = get_or c.args.part.now c.loop-row.row-index 0 in
    c.if-is_cut_by_words.ensures
    (sets_uncut (support c.args.matrix.now) c.args.columns.now.words c.columns_of.result.now row c.columns_of.ensures.columns (all row (in_at c.args.part.now c.loop-row.row-index c.loop-row-test.true)))

pub loop-row-preserved : goal.loop-row-preserved
loop-row-preserved c =
    let M = support c.args.matrix.now in
    let columns = c.args.columns.now.words in
    let part = c.args.part.now in
    below_more (λ k. IsUncutIn M (has_column columns) (get_or part k 0)) c.loop-row.row-index c.loop-row.invariant
    (uncut_sets M columns c.columns_of.result.now (get_or part c.loop-row.row-index 0) c.columns_of.ensures.columns c.if-is_cut_by_words.ensures)

pub returns : goal.returns
returns c = all_placed (IsUncutIn (support c.args.matrix.now) (has_column c.args.columns.now.words)) c.args.part.now c.loop-row.row-index c.loop-row-test.false c.loop-row.invariant
