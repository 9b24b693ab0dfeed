use Rattle.tree_type.specs.DecompositionTrees.{tree_of}
use Rattle.tree_laws.proofs.SoundTrees.{verdict_means}
use Rattle.tree_laws.proofs.laws.sound_means.Goals as goal

pub returns : goal.returns
returns c = λ m is tree within keeps. verdict_means m is tree.rows tree.columns (tree_of tree.root) within keeps
