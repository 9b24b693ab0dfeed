use Rattle.cmr_base.proofs.GraphicMatrices.{graphic_support_from_cuts, network_matrix_from_cuts}
use Rattle.graph_realise.proofs.laws.sides_of_arcs.Goals as goal

pub returns-clause-graphic : goal.returns-clause-graphic
returns-clause-graphic c m is = graphic_support_from_cuts m is.rectangular

pub returns-clause-network : goal.returns-clause-network
returns-clause-network c m is = network_matrix_from_cuts m is.rectangular
