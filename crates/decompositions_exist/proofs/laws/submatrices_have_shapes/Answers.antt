use Rattle.decompositions_exist.proofs.ShapesExist.{shape_exists}
use Rattle.decompositions_exist.proofs.laws.submatrices_have_shapes.Goals as goal

pub returns : goal.returns
returns c = λ limit m lines is are none. shape_exists limit m is lines are (λ tree. none tree.0 tree.1)
