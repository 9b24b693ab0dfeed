use Rattle.std.proofs.Common.{◌≡◌, ℕ, Bool, List, Option, Some, None, sym, subst, MatchOption}
use Rattle.std.specs.List.Sorted.{IsStrictlyIncreasing}
use Rattle.std.proofs.lemmas.Result.{IfOk-weaker}
use Rattle.cmr_base.specs.Splits.{AreParts, IsFirstSplit, Splits}
use Rattle.cmr_base.specs.Trees.{support}
use Rattle.bridge_split.specs.declared.splitting.SplitRow.{SplitRow}
use Rattle.graph_realise.specs.TreeSearches.{AreWholeBelow, IsSplit}
use Rattle.graph_realise.proofs.SearchLemmas.{split_is}
use Rattle.graph_realise.proofs.side_search.find_split.Goals as goal

-- a row found in a list is found in an equal list
found : (M : ℕ → ℕ → Bool) (S given : List ℕ) (o : Option SplitRow) → given ≡ S → IsStrictlyIncreasing S
    → MatchOption o ((row : ℕ) → ¬ (Splits M given row)) (λ split. IsFirstSplit M given split.row × AreParts M given split.row split.parts)
    → MatchOption o ((row : ℕ) → ¬ (Splits M S row)) (IsSplit M S)
found M S given None e increases none = subst (λ (rows : List ℕ). (row : ℕ) → ¬ (Splits M rows row)) e none
found M S given (Some split) e increases (first, parts) =
    split_is M S split increases (subst (λ (rows : List ℕ). IsFirstSplit M rows split.row) e first) (subst (λ (rows : List ℕ). AreParts M rows split.row split.parts) e parts)

pub first_splitting_row-requires-clause-tested : goal.first_splitting_row-requires-clause-tested
first_splitting_row-requires-clause-tested c = subst (λ (rows : List ℕ). AreWholeBelow (support c.args.matrix.now) rows c.args.untested) (sym c.as_slice.ensures.items) c.requires.tested

pub returns : goal.returns
returns c =
    let M = support c.args.matrix.now in
    let S = c.args.rows.now in
    let given = c.as_slice.result.now in
    IfOk-weaker c.first_splitting_row.result
    (λ o. MatchOption o ((row : ℕ) → ¬ (Splits M given row)) (λ split. IsFirstSplit M given split.row × AreParts M given split.row split.parts))
    (λ o. MatchOption o ((row : ℕ) → ¬ (Splits M S row)) (IsSplit M S)) (λ o h. found M S given o c.as_slice.ensures.items c.as_slice.ensures.increasing h) c.first_splitting_row.ensures
