use Rattle.cmr_base.proofs.GraphicMatrices.{graphic_support_from_cuts}
use Rattle.graph_realise.proofs.SplitsCut.{splitting_is_cuts}
use Rattle.graph_realise.proofs.laws.splitting.Goals as goal

pub returns : goal.returns
returns c m is =
    let sides = graphic_support_from_cuts m is.rectangular in
    let splits = splitting_is_cuts m is.rectangular in
    ((λ G. splits.1 (sides.0 G)), (λ s. sides.1 (splits.0 s)))
