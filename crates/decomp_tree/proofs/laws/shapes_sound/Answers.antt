use Rattle.decomp_tree.proofs.PivotedRoots.{shapes_are_trees, shapes_are_sound}
use Rattle.decomp_tree.proofs.laws.shapes_sound.Goals as goal

pub returns-clause-trees : goal.returns-clause-trees
returns-clause-trees c = shapes_are_trees

pub returns-clause-sound : goal.returns-clause-sound
returns-clause-sound c = shapes_are_sound
