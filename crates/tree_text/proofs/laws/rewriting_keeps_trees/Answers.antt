use Rattle.tree_text.proofs.ReadTrees.{written_again}
use Rattle.tree_text.proofs.laws.rewriting_keeps_trees.Goals as goal

pub returns : goal.returns
returns c = written_again
