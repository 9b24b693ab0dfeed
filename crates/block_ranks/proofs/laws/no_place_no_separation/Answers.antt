use Rattle.block_ranks.proofs.RankSeparations.{no_place_means_no_separation}
use Rattle.block_ranks.proofs.laws.no_place_no_separation.Goals as goal

pub returns : goal.returns
returns c = no_place_means_no_separation
