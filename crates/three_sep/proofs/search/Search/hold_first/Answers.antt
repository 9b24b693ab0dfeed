use Rattle.std.proofs.Common.{refl, ◌≡◌, ◌∙◌, ◌∷◌, [], ℕ, Bool, List, ap, subst, sym}
use Rattle.cmr_base.specs.declared.line.Line.{Line}
use Rattle.cmr_base.specs.declared.line.Line.TheVariants.{Column, Row}
use Rattle.cmr_base.specs.declared.separation.Form.{Form}
use Rattle.cmr_base.specs.Matrix.{Matrix, entry}
use Rattle.cmr_base.specs.Separations.{Lines, connector_lines, product_at}
use Rattle.cuts.specs.declared.corners.Corners.{Corners}
use Rattle.line_growth.specs.declared.growing_set.GrowingSet.{GrowingSet}
use Rattle.line_growth.specs.declared.rule.GrowthRule.{GrowthRule}
use Rattle.line_growth.specs.GrowingSets.{IsGrowing, DecidesLeaving, set_of}
use Rattle.line_growth.specs.Rules.{IsRuleOf, lower_of, upper_of}
use Rattle.three_sep.specs.Connectors.{rule_of}
use Rattle.three_sep.specs.Searches.{first_at, held_lines}
use Rattle.three_sep.proofs.SearchLemmas.{no_good_first}
use Rattle.line_growth.proofs.SetSteps.{decided_no, decided_yes}
use Rattle.three_sep.proofs.SideLemmas.{no_good_side, rule_inside}
use Rattle.three_sep.proofs.search.Search.hold_first.Goals as goal

pub returns-then-not-is_first_other-clause-no : goal.returns-then-not-is_first_other-clause-no
returns-then-not-is_first_other-clause-no c = λ e. no_good_first c.args.self.now.matrix.now c.args.form c.requires.crossing c.args.corners.now c.args.q (c.is_first_other.ensures.no c.if-not-is_first_other.true)

pub hold-requires-clause-rule : goal.hold-requires-clause-rule
hold-requires-clause-rule c = rw c.args.self.now.sides_fit (subst (λ (r : GrowthRule). IsRuleOf c.args.self.now.matrix.now r) (sym c.rule_at.ensures) (rule_inside c.args.self.now.matrix.now c.args.corners.now c.requires.inside))

module _ (m : Matrix) (form : Form) (d : Corners) (q : ℕ) (rule : GrowthRule) (lines : List Line) (same : rule ≡ rule_of d) (are : lines ≡ held_lines form d q) where
  growing_as : (side : GrowingSet) → IsGrowing m (upper_of m rule) (lower_of m rule) lines side
      → IsGrowing m (product_at (entry m) d.one.row d.two.column) (product_at (entry m) d.two.row d.one.column) (held_lines form d q) side
  growing_as side g = subst (λ (r : GrowthRule). IsGrowing m (upper_of m r) (lower_of m r) (held_lines form d q) side) same (subst (λ (xs : List Line). IsGrowing m (upper_of m rule) (lower_of m rule) xs side) are g)

  decided_as : (out : List Line) (answer : Bool) (S : Lines) → DecidesLeaving m rule lines out 4 answer S → DecidesLeaving m (rule_of d) (held_lines form d q) out 4 answer S
  decided_as out answer S t = subst (λ (r : GrowthRule). DecidesLeaving m r (held_lines form d q) out 4 answer S) same (subst (λ (xs : List Line). DecidesLeaving m rule xs out 4 answer S) are t)

pub returns-clause-held : goal.returns-clause-held
returns-clause-held c =
    let m = c.args.self.now.matrix.now in
    let form = c.args.form in
    let d = c.args.corners.now in
    let q = c.args.q in
    let are = c.lines-first.ensures ∙ ap (λ (z : Bool). connector_lines z (first_at d q)) c.first_is_flat.ensures in
    let side = c.hold.new.self.side in
    let fit = c.args.self.now.sides_fit in
    λ t. record {
      matrix = refl;
      line = c.requires.line;
      tied = c.is_first_other.ensures.yes c.if-not-is_first_other.false;
      growing = growing_as m form d q c.rule_at.result _ c.rule_at.ensures are side (rw fit at c.in_ok-held.ensures.growing);
      least = (decided_yes m (rule_of d) (held_lines form d q) (Row d.two.row ∷ Column d.two.column ∷ []) 4 c.in_ok-held.held (set_of side) (decided_as m form d q c.rule_at.result _ c.rule_at.ensures are (Row d.two.row ∷ Column d.two.column ∷ []) c.in_ok-held.held (set_of side) (rw fit at c.in_ok-held.ensures.decided)) t).grown;
    }

pub returns-clause-no : goal.returns-clause-no
returns-clause-no c =
    let m = c.args.self.now.matrix.now in
    let form = c.args.form in
    let d = c.args.corners.now in
    let q = c.args.q in
    let are = c.lines-first.ensures ∙ ap (λ (z : Bool). connector_lines z (first_at d q)) c.first_is_flat.ensures in
    let side = c.hold.new.self.side in
    let fit = c.args.self.now.sides_fit in
    λ t. no_good_side m form c.requires.crossing d q (decided_no m (rule_of d) (held_lines form d q) (Row d.two.row ∷ Column d.two.column ∷ []) 4 c.in_ok-held.held (set_of side)
    (decided_as m form d q c.rule_at.result _ c.rule_at.ensures are (Row d.two.row ∷ Column d.two.column ∷ []) c.in_ok-held.held (set_of side) (rw fit at c.in_ok-held.ensures.decided)) t)
