use Rattle.cmr_classes.specs.GraphicNetwork.{test_order_of}
use Rattle.cmr_classes.proofs.GraphMatrixAnswers.{test_lawful}
use Rattle.cmr_classes.proofs.tools.graphic_network.PropertyTestTool.lawful.Goals as goal

pub returns : goal.returns
returns c = test_lawful c.args.self.now.property (test_order_of c.args.self.now.options)
