use Rattle.std.proofs.Common.{Option, MatchOption, sym, subst}
use Rattle.cmr_base.specs.declared.line_set.LineSet.{LineSet}
use Rattle.cmr_base.specs.Matrix.{entry}
use Rattle.cmr_base.specs.CyclePlaces.{HasNoCycleFault}
use Rattle.tree_type.specs.Soundness.{part}
use Rattle.decomp_tree.specs.Seen.{IsNamedFault, IsSeen}
use Rattle.decomp_tree.proofs.Said.{seen_fault, seen_r10}
use Rattle.decomp_tree.proofs.looking.look_r10.Goals as goal

pub returns-in-Some : goal.returns-in-Some
returns-in-Some c =
    let m = c.args.node.now.matrix.now in
    let lines = c.args.node.now.lines.now in
    subst (IsSeen c.args.node.now.limits.lines m lines) (sym c.leaf.ensures)
    (seen_fault c.args.node.now.limits.lines m c.args.node.now.shape lines c.args.node.now.are_lines c.in-Some.fault
    (subst (λ (o : Option LineSet). MatchOption o (HasNoCycleFault (entry (part m lines))) (IsNamedFault m lines)) c.in-Some.is c.in_ok-fault.ensures))

pub returns : goal.returns
returns c =
    let m = c.args.node.now.matrix.now in
    let lines = c.args.node.now.lines.now in
    subst (IsSeen c.args.node.now.limits.lines m lines) (sym c.leaf-2.ensures)
    (seen_r10 c.args.node.now.limits.lines m c.args.node.now.shape lines c.args.node.now.are_lines c.requires.none
    (subst (λ (o : Option LineSet). MatchOption o (HasNoCycleFault (entry (part m lines))) (IsNamedFault m lines)) c.in_default.is c.in_ok-fault.ensures) c.requires.r10)
