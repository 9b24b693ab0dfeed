use Rattle.decompositions_exist.proofs.PivotedExist.{shape_with_exists}
use Rattle.decompositions_exist.proofs.laws.matrices_have_shapes.Goals as goal

pub returns : goal.returns
returns c = λ limit pivots m is none. shape_with_exists limit pivots m is (λ tree. none tree.0 tree.1)
