use Rattle.decomp_tree.proofs.SeymourEnds.{open_ends_refute}
use Rattle.decomp_tree.proofs.laws.open_ends.Goals as goal

pub returns : goal.returns
returns c = open_ends_refute
