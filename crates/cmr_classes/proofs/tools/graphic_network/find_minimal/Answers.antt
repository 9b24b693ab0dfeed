use Rattle.std.proofs.Common.{subst, sym}
use Rattle.std.specs.Prelude.{IfOk, IsSomeAnd}
use Rattle.cmr_classes.specs.declared.tools.graphic_network.TestedProperty.TheVariants.{Graphic, Network}
use Rattle.cmr_classes.specs.GraphicNetwork.{Has}
use Rattle.cmr_front.specs.Minimal.{IsMinimalSet}
use Rattle.cmr_classes.proofs.GraphicNetworkAnswers.{minimal_found}
use Rattle.cmr_classes.proofs.tools.graphic_network.find_minimal.Goals as goal

pub returns-in-Graphic : goal.returns-in-Graphic
returns-in-Graphic c =
    let m = c.args.matrix.now in
    subst (λ p. IfOk c.minimal_not_graphic.result (λ found. IsSomeAnd found (IsMinimalSet (Has p) m))) (sym c.in-Graphic.is)
    (minimal_found (Has Graphic) m c.minimal_not_graphic.result (subst (λ p. ¬ (Has p m)) c.in-Graphic.is c.requires.lacks) c.minimal_not_graphic.ensures.found c.minimal_not_graphic.ensures.minimal)

pub returns-in-Network : goal.returns-in-Network
returns-in-Network c =
    let m = c.args.matrix.now in
    subst (λ p. IfOk c.minimal_not_network.result (λ found. IsSomeAnd found (IsMinimalSet (Has p) m))) (sym c.in-Network.is)
    (minimal_found (Has Network) m c.minimal_not_network.result (subst (λ p. ¬ (Has p m)) c.in-Network.is c.requires.lacks) c.minimal_not_network.ensures.found c.minimal_not_network.ensures.minimal)
