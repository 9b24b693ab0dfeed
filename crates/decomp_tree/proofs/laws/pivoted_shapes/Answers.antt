use Rattle.decomp_tree.proofs.OnePivoted.{one_pivoted_shape}
use Rattle.decomp_tree.proofs.MorePivots.{more_pivots_keep_answers}
use Rattle.decomp_tree.proofs.OpenNodes.{open_case, open_end}
use Rattle.decomp_tree.proofs.PivotedRoots.{pivoted_shapes_are_trees, pivoted_shapes_are_sound, no_pivots_change_nothing}
use Rattle.decomp_tree.proofs.laws.pivoted_shapes.Goals as goal

pub returns-clause-trees : goal.returns-clause-trees
returns-clause-trees c = pivoted_shapes_are_trees

pub returns-clause-sound : goal.returns-clause-sound
returns-clause-sound c = pivoted_shapes_are_sound

pub returns-clause-one : goal.returns-clause-one
returns-clause-one c = one_pivoted_shape

pub returns-clause-none : goal.returns-clause-none
returns-clause-none c = no_pivots_change_nothing

pub returns-clause-open_lines : goal.returns-clause-open_lines
returns-clause-open_lines c = open_case

pub returns-clause-more : goal.returns-clause-more
returns-clause-more c = more_pivots_keep_answers

pub returns-clause-ends : goal.returns-clause-ends
returns-clause-ends c = open_end
