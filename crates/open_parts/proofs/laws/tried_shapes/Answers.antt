use Rattle.open_parts.proofs.MorePivots.{more_pivots_keep_tried_answers}
use Rattle.open_parts.proofs.TriedRoots.{no_pivots_try_nothing, one_tried_shape, open_lines_are_tried, tried_shapes_are_sound, tried_shapes_are_trees}
use Rattle.open_parts.proofs.laws.tried_shapes.Goals as goal

pub returns-clause-trees : goal.returns-clause-trees
returns-clause-trees c = tried_shapes_are_trees

pub returns-clause-sound : goal.returns-clause-sound
returns-clause-sound c = tried_shapes_are_sound

pub returns-clause-one : goal.returns-clause-one
returns-clause-one c = one_tried_shape

pub returns-clause-none : goal.returns-clause-none
returns-clause-none c = no_pivots_try_nothing

pub returns-clause-open_lines : goal.returns-clause-open_lines
returns-clause-open_lines c = open_lines_are_tried

pub returns-clause-more : goal.returns-clause-more
returns-clause-more c = more_pivots_keep_tried_answers
