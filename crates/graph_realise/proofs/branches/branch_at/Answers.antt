use Rattle.std.proofs.Common.{◌∙◌, ◌+◌, ◌*◌, ◌&&◌, ◌||◌, ℕ, List, not, ap, ap₂, refl, subst}
use Rattle.cmr_base.specs.ColumnSets.{has_column, Denies}
use Rattle.cmr_base.specs.Seeds.{count}
use Rattle.cmr_base.specs.Trees.{support}
use Rattle.cmr_base.proofs.Booleans.{one_or_none}
use Rattle.bridge_split.specs.Cutting.{AreUncutIn}
use Rattle.graph_realise.proofs.BranchLemmas.{common_of_rows, weight_by_count, common_by_next}
use Rattle.graph_realise.proofs.branches.branch_at.Goals as goal

pub returns-clause-branch : goal.returns-clause-branch
returns-clause-branch c =
    let M = support c.args.matrix.now in
    let i = c.args.row in
    let part = c.args.part.now in
    let met = c.args.columns.now.words in
    let set = c.add_common_words.new.self in
    let size = c.add_common_words.ensures.size ∙ c.clear.ensures.size ∙ c.requires.size in
    let exact = common_of_rows M i part (has_column met) (has_column set.words) c.requires.columns.columns
    (λ column. c.add_common_words.ensures.columns column ∙ ap₂ (λ s t. s || (has_column met column && t)) (c.clear.ensures.none column) (c.columns_of.ensures.columns column)) in
    let cut = c.part_cuts-is_cut.result in record {
      end_is = refl;
      weight = weight_by_count M i part c.args.matrix.now.width (has_column set.words) cut _ exact
          (subst (λ (rows : List ℕ). Denies cut (AreUncutIn M (has_column set.words) rows)) c.as_slice.ensures.items c.part_cuts-is_cut.ensures)
          (ap₂ (λ (members more : ℕ). 2 * members + more) (c.count.ensures.count ∙ ap (count (has_column set.words)) size) (c.from.ensures ∙ one_or_none (not cut)));
      common = common_by_next M i part set c.next.result exact c.next.ensures;
    }
