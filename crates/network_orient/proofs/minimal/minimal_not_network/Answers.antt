use Rattle.cmr_base.proofs.GraphicMatrices.{network_matrix_hereditary}
use Rattle.network_orient.proofs.minimal.minimal_not_network.Goals as goal

pub minimal_without-requires-clause-hereditary : goal.minimal_without-requires-clause-hereditary
minimal_without-requires-clause-hereditary c = network_matrix_hereditary
