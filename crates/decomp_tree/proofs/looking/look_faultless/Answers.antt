use Rattle.std.proofs.Common.{Option, MatchOption, subst}
use Rattle.cmr_base.specs.declared.separation.Three.{Three}
use Rattle.cmr_base.specs.Matrix.{Matrix}
use Rattle.cmr_base.specs.Separations.{HasNoThreeSeparation}
use Rattle.three_sep.specs.ThreeSeparations.{IsFirstThreeSeparation}
use Rattle.decomp_tree.specs.Shapes.{IsThreeSum}
use Rattle.decomp_tree.proofs.Said.{none_next}
use Rattle.decomp_tree.specs.Nodes.{submatrix_of}
use Rattle.decomp_tree.proofs.looking.look_faultless.Goals as goal

pub look_last-requires-clause-none : goal.look_last-requires-clause-none
look_last-requires-clause-none g c =
    let n = submatrix_of c.args.node.now in
    let no_three = subst (λ (k : Matrix). HasNoThreeSeparation k) c.args.node.now.submatrix_is (subst (λ (o : Option Three). MatchOption o (HasNoThreeSeparation c.args.node.now.submatrix.now) (λ three. IsFirstThreeSeparation c.args.node.now.submatrix.now three)) c.in_default.is c.in_ok-three.ensures) in
    λ κs lives. none_next c.args.node.now.limits.lines n IsThreeSum c.requires.none (λ w. no_three w.0 w.1 w.2 w.3 w.4)
