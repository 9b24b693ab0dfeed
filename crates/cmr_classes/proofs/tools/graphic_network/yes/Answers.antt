use Rattle.cmr_classes.proofs.GraphicNetworkAnswers.{shown_network}
use Rattle.cmr_classes.proofs.tools.graphic_network.yes.Goals as goal

pub push_graph-requires-clause-rows : goal.push_graph-requires-clause-rows
push_graph-requires-clause-rows c = (shown_network c.args.property c.args.network.now c.args.tested.now c.requires).tree.count

pub push_graph-requires-clause-columns : goal.push_graph-requires-clause-columns
push_graph-requires-clause-columns c = (shown_network c.args.property c.args.network.now c.args.tested.now c.requires).count
