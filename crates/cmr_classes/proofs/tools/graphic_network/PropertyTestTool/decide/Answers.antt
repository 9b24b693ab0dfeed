use Rattle.std.proofs.Common.{◌∙◌, ap, length, map}
use Rattle.cmr_front.specs.Inputs.{bytes_of}
use Rattle.cmr_classes.specs.GraphicNetwork.{test_order_of}
use Rattle.cmr_classes.proofs.GraphMatrixAnswers.{decides_on_graph, decides_on_matrix, test_inputs}
use Rattle.cmr_classes.proofs.tools.graphic_network.PropertyTestTool.decide.Goals as goal

pub decide_on_graph-requires : goal.decide_on_graph-requires
decide_on_graph-requires g c = c.requires.count ∙ ap length (test_inputs c.args.self.now.property (test_order_of c.args.self.now.options))

pub decide_on_matrix-requires : goal.decide_on_matrix-requires
decide_on_matrix-requires g c = c.requires.count ∙ ap length (test_inputs c.args.self.now.property (test_order_of c.args.self.now.options))

pub returns-then-self : goal.returns-then-self
returns-then-self g c = decides_on_graph c.args.self.now.property (test_order_of c.args.self.now.options) (map bytes_of c.args.texts.now) c.decide_on_graph.result c.if-self.true c.decide_on_graph.ensures

pub returns-else-self : goal.returns-else-self
returns-else-self g c = decides_on_matrix c.args.self.now.property (test_order_of c.args.self.now.options) (map bytes_of c.args.texts.now) c.decide_on_matrix.result c.if-self.false c.decide_on_matrix.ensures
