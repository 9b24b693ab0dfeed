use Rattle.std.proofs.Common.{ℕ, subst}
use Rattle.cmr_base.specs.declared.separation.Form.TheVariants.{Concentrated}
use Rattle.three_sep.specs.Concentrated.{HasNoneBetween}
use Rattle.three_sep.specs.Connectors.{all_prefix}
use Rattle.three_sep.specs.Searches.{HasNoGood, IsFirstOf}
use Rattle.three_sep.proofs.ConcentratedLemmas.{none_between}
use Rattle.three_sep.proofs.SearchLemmas.{map_found}
use Rattle.three_sep.proofs.row_search.RowSearch.first_of_pair.Goals as goal

pub returns : goal.returns
returns c =
    let self = c.args.self.now in
    let m = self.matrix.now in
    let d = c.args.connectors.now in
    let is_first = IsFirstOf m (all_prefix Concentrated d) in
    map_found (HasNoGood m (all_prefix Concentrated d)) (HasNoneBetween m self.row d.second.column) is_first is_first c.first_of_connectors.result
    (λ none. subst (λ (i : ℕ). HasNoneBetween m i d.second.column) c.requires.row (none_between m d c.requires.connectors none)) (λ x h. h) c.first_of_connectors.ensures
