use Rattle.cmr_base.proofs.GraphicMatrices.{graphic_hereditary}
use Rattle.graph_realise.proofs.minimal.minimal_not_graphic.Goals as goal

pub minimal_without-requires-clause-hereditary : goal.minimal_without-requires-clause-hereditary
minimal_without-requires-clause-hereditary c = graphic_hereditary
