use Rattle.std.proofs.Common.{IfOk, refl, sym, subst}
use Rattle.line_growth.specs.declared.rule.GrowthRule.{GrowthRule}
use Rattle.line_growth.specs.GrowingSets.{IsGrowing}
use Rattle.line_growth.specs.Rules.{lower_of, upper_of}
use Rattle.three_sep.specs.declared.connectors.Connectors.{Connectors}
use Rattle.three_sep.specs.Connectors.{AreConnectorsOf, all_prefix, connectors_at, firsts}
use Rattle.three_sep.specs.Searches.{IsFoundSeparation, held_lines}
use Rattle.three_sep.proofs.SideLemmas.{crossing_connectors}
use Rattle.three_sep.proofs.KeptSideLemmas.{held_still}
use Rattle.three_sep.proofs.search.Search.first_of_connectors.Goals as goal

pub first_of_lines-requires-clause-connectors : goal.first_of_lines-requires-clause-connectors
first_of_lines-requires-clause-connectors c =
    let m = c.args.self.now.matrix.now in
    let d = c.args.corners.now in
    rw c.args.self.now.sides_fit (subst (λ (e : Connectors). AreConnectorsOf m c.args.form c.rule_at-rule.result e) (sym c.at-connectors.ensures)
    (subst (λ (r : GrowthRule). AreConnectorsOf m c.args.form r (connectors_at d c.args.q c.args.o)) (sym c.rule_at-rule.ensures)
    (crossing_connectors m c.args.form c.requires.crossing d c.args.q c.args.o c.requires.corners c.requires.held.tied c.requires.tied c.requires.held.line c.requires.line)))

pub first_of_lines-requires-clause-growing : goal.first_of_lines-requires-clause-growing
first_of_lines-requires-clause-growing c =
    let m = c.args.self.now.matrix.now in
    let side = c.args.self.now.sides.side in
    rw c.args.self.now.sides_fit (subst (λ (e : Connectors). IsGrowing m (upper_of m c.rule_at-rule.result) (lower_of m c.rule_at-rule.result) (firsts c.args.form e) side) (sym c.at-connectors.ensures)
    (subst (λ (r : GrowthRule). IsGrowing m (upper_of m r) (lower_of m r) (held_lines c.args.form c.args.corners.now c.args.q) side) (sym c.rule_at-rule.ensures) c.requires.held.growing))

pub returns-clause-found : goal.returns-clause-found
returns-clause-found c = subst (λ (e : Connectors). IfOk c.first_of_lines.result (IsFoundSeparation c.args.self.now.matrix.now (all_prefix c.args.form e))) c.at-connectors.ensures (rw c.args.self.now.sides_fit at c.first_of_lines.ensures.found)

pub returns-clause-held : goal.returns-clause-held
returns-clause-held c = held_still c.args.self.now.matrix.now c.args.form c.args.corners.now c.args.q c.args.self.now _ c.requires.held refl c.first_of_lines.ensures.kept.side
