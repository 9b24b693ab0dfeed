use Rattle.std.proofs.Common.{◌≡◌, ◌∙◌, ℕ, Option, None, MatchOption, sym, subst, ap}
use Rattle.cmr_base.specs.Matrix.{Matrix}
use Rattle.cmr_base.specs.declared.separation.Three.{Three}
use Rattle.three_sep.specs.declared.connectors.Connectors.{Connectors}
use Rattle.cuts.specs.declared.corners.Corners.{Corners}
use Rattle.cmr_base.specs.declared.separation.Form.TheVariants.{Concentrated}
use Rattle.three_sep.specs.Concentrated.{HasNoneBetween, IsFirstPair}
use Rattle.three_sep.specs.Connectors.{all_prefix}
use Rattle.three_sep.specs.Searches.{IsFirstOf}
use Rattle.three_sep.proofs.SearchLemmas.{none_of}
use Rattle.three_sep.proofs.ConcentratedLemmas.{no_candidate, none_at_pair, one_less, pair_found}
use Rattle.three_sep.proofs.row_search.RowSearch.first_of_corners.Goals as goal

pub first_of_pair-requires-clause-row : goal.first_of_pair-requires-clause-row
first_of_pair-requires-clause-row c = ap (λ (z : Corners). z.one.row) c.in-Some.ensures.corners ∙ c.requires.row

pub first_of_pair-requires-clause-connectors : goal.first_of_pair-requires-clause-connectors
first_of_pair-requires-clause-connectors c = c.in-Some.ensures.pair

pub returns-in-Some-2-clause-found : goal.returns-in-Some-2-clause-found
returns-in-Some-2-clause-found c =
    let self = c.args.self.now in
    let d = c.in-Some.connectors in
    let same = ap (λ (z : Corners). z.one.row) c.in-Some.ensures.corners ∙ c.requires.row in
    pair_found self.matrix.now c.args.corners.now d c.in-Some.ensures c.in_ok-three.field-0 c.in-Some-2.three c.in-Some-2.is
    (subst (λ (i : ℕ). MatchOption c.in_ok-three.field-0 (HasNoneBetween self.matrix.now i d.second.column) (IsFirstOf self.matrix.now (all_prefix Concentrated d))) (sym same) c.in_ok-three.ensures)

none_here : (m : Matrix) (row : ℕ) (corners : Corners) (d : Connectors) → corners.one.row ≡ row → IsFirstPair m corners d → (found : Option Three) → found ≡ None
    → MatchOption found (HasNoneBetween m row d.second.column) (IsFirstOf m (all_prefix Concentrated d)) → HasNoneBetween m corners.one.row corners.two.column
none_here m row corners d row_is pair found e is =
    none_at_pair m corners d pair (subst (λ (i : ℕ). HasNoneBetween m i d.second.column) (sym (ap (λ (z : Corners). z.one.row) pair.corners ∙ row_is))
    (none_of (HasNoneBetween m row d.second.column) (IsFirstOf m (all_prefix Concentrated d)) found e is))

pub invariant_of-self : goal.invariant_of-self
invariant_of-self c =
    let self = c.args.self.now in
    let corners = c.args.corners.now in
    let none = none_here self.matrix.now self.row corners c.in-Some.connectors c.requires.row c.in-Some.ensures c.in_ok-three.field-0 c.in_default-2.is c.in_ok-three.ensures in
    record {
      row_in = self.row_in;
      are_candidates = one_less self.matrix.now self.row corners.two.column self.candidates _ self.are_candidates (subst (λ (i : ℕ). HasNoneBetween self.matrix.now i corners.two.column) c.requires.row none) c.remove.ensures.size c.remove.ensures.only;
    }

pub returns-clause-found : goal.returns-clause-found
returns-clause-found c =
    let self = c.args.self.now in
    let corners = c.args.corners.now in
    no_candidate self.matrix.now corners.one.row corners.one.column corners.two.row corners.two.column (none_here self.matrix.now self.row corners c.in-Some.connectors c.requires.row c.in-Some.ensures c.in_ok-three.field-0 c.in_default-2.is c.in_ok-three.ensures)
