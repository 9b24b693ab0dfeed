use Rattle.std.proofs.Common.{subst, sym}
use Rattle.std.specs.Prelude.{IfOk, MatchOption}
use Rattle.std.proofs.lemmas.Result.{IfOk-weaker}
use Rattle.cmr_classes.specs.GraphicNetwork.{Has, Shows}
use Rattle.cmr_classes.proofs.GraphicNetworkAnswers.{graphic_found}
use Rattle.cmr_classes.proofs.tools.graphic_network.find_network.Goals as goal

pub returns-in-Graphic : goal.returns-in-Graphic
returns-in-Graphic c =
    let m = c.args.matrix.now in
    subst (λ p. IfOk c.realise.result (λ found. MatchOption found (¬ (Has p m)) (λ net. Shows p net m))) (sym c.in-Graphic.is)
    (IfOk-weaker c.realise.result _ _ (graphic_found m) c.realise.ensures)
