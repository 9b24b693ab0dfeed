use Rattle.std.proofs.Common.{◌≡◌, ◌∙◌, ◌||◌, List, ℕ, [], ap₂, sym, subst}
use Rattle.std.proofs.lemmas.List.{get_or_default}
use Rattle.cmr_base.specs.LineSets.{AllBelow}
use Rattle.cmr_base.specs.Matrix.{height}
use Rattle.cmr_base.specs.Trees.{support}
use Rattle.cmr_base.specs.ColumnSets.{has_column}
use Rattle.bridge_split.specs.Cutting.{AreCommonColumns, rows_at_part}
use Rattle.bridge_split.proofs.CutTables.{table_more}
use Rattle.bridge_split.proofs.cuts.CutTable.new.Goals as goal

pub set_common-requires-clause-rows : goal.set_common-requires-clause-rows
set_common-requires-clause-rows c =
    let p = c.loop-part.part-index in
    let item : c.part-item.result ≡ rows_at_part c.args.parts.now p = c.part-item.is ∙ get_or_default c.args.parts.now p c.part-item.result [] c.loop-part-test.true in
    subst (AllBelow (height c.args.matrix.now)) (sym item) (c.requires.rows p c.loop-part-test.true)

pub set_common-requires-clause-own : goal.set_common-requires-clause-own
set_common-requires-clause-own c = record {
  size = c.add_words.ensures.size ∙ c.in_ok-own.ensures.size ∙ c.columns.ensures.columns;
  exact = λ column. c.add_words.ensures.columns column ∙ ap₂ (λ s t. s || t) (c.in_ok-own.ensures.none column) (c.columns_of.ensures.columns column);
}

pub loop-part-preserved : goal.loop-part-preserved
loop-part-preserved c =
    let M = support c.args.matrix.now in
    let p = c.loop-part.part-index in
    let item : c.part-item.result ≡ rows_at_part c.args.parts.now p = c.part-item.is ∙ get_or_default c.args.parts.now p c.part-item.result [] c.loop-part-test.true in
    let columns = has_column c.set_common.new.common.words in record {
      size = c.set_common.ensures.size;
      table = table_more M c.args.row c.args.parts.now p columns c.loop-part.cuts.items c.push_cuts.new.cuts.items c.loop-part.invariant.table c.in_ok-push_cuts.ensures
          (subst (λ (part : List ℕ). AreCommonColumns M c.args.row part columns) item c.set_common.ensures.common);
    }
