use Rattle.std.proofs.Common.{true, subst, sym}
use Rattle.cmr_classes.specs.GraphicNetwork.{IsTestable}
use Rattle.cmr_classes.proofs.GraphicNetworkAnswers.{tested_testable}
use Rattle.cmr_classes.proofs.tools.graphic_network.test.Goals as goal

pub decide-requires-clause-testable : goal.decide-requires-clause-testable
decide-requires-clause-testable c =
    subst (IsTestable c.args.property) (sym c.in_ok-transposed.ensures) (tested_testable c.args.property true c.args.matrix.now c.requires)
