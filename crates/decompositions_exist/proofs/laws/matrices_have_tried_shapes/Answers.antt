use Rattle.decompositions_exist.proofs.TriedExist.{tried_with_exists}
use Rattle.decompositions_exist.proofs.laws.matrices_have_tried_shapes.Goals as goal

pub returns : goal.returns
returns c = λ limit pivots m is none. tried_with_exists limit m is pivots (λ tree. none tree.0 tree.1)
