use Rattle.decomp_tree.proofs.OneTree.{one_shape}
use Rattle.decomp_tree.proofs.laws.one_shape.Goals as goal

pub returns : goal.returns
returns c = one_shape
