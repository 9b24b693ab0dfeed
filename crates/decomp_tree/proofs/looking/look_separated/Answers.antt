use Rattle.std.proofs.Common.{Option, MatchOption, sym, subst}
use Rattle.cmr_base.specs.declared.line_set.LineSet.{LineSet}
use Rattle.cmr_base.specs.declared.separation.Two.{Two}
use Rattle.cmr_base.specs.Matrix.{Matrix, entry}
use Rattle.cmr_base.specs.CyclePlaces.{HasNoCycleFault}
use Rattle.cmr_base.specs.Separations.{HasNoTwoSeparation}
use Rattle.two_sep.specs.FirstSeeds.{IsFirstTwoSeparation}
use Rattle.tree_type.specs.Soundness.{part}
use Rattle.decomp_tree.specs.Shapes.{IsTwoSum}
use Rattle.decomp_tree.specs.Seen.{IsNamedFault, IsSeen}
use Rattle.decomp_tree.proofs.Said.{none_next, seen_fault}
use Rattle.decomp_tree.specs.Nodes.{submatrix_of}
use Rattle.decomp_tree.proofs.looking.look_separated.Goals as goal

pub returns-in-Some-2 : goal.returns-in-Some-2
returns-in-Some-2 g c =
    let m = c.args.node.now.matrix.now in
    let lines = c.args.node.now.lines.now in
    subst (IsSeen c.args.node.now.limits.lines m lines) (sym c.leaf.ensures)
    (seen_fault c.args.node.now.limits.lines m c.args.node.now.shape lines c.args.node.now.are_lines c.in-Some-2.fault
    (subst (λ (o : Option LineSet). MatchOption o (HasNoCycleFault (entry (part m lines))) (IsNamedFault m lines)) c.in-Some-2.is c.in_ok-fault.ensures))

pub look_faultless-requires-clause-none : goal.look_faultless-requires-clause-none
look_faultless-requires-clause-none g c =
    let n = submatrix_of c.args.node.now in
    let no_two = subst (λ (k : Matrix). HasNoTwoSeparation k) c.args.node.now.submatrix_is (subst (λ (o : Option Two). MatchOption o (HasNoTwoSeparation c.args.node.now.submatrix.now) (λ two. IsFirstTwoSeparation c.args.node.now.submatrix.now two)) c.in_default.is c.in_ok-two.ensures) in
    λ κs lives. none_next c.args.node.now.limits.lines n IsTwoSum c.requires.none (λ w. no_two w.0 w.1 w.2 w.3)
