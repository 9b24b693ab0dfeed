use Rattle.std.proofs.Common.{◌∙◌, Option, IfSome, sym, subst}
use Rattle.std.proofs.lemmas.Option.{MatchOption-at_none, MatchOption-at_some}
use Rattle.cmr_base.specs.declared.line_set.LineSet.{LineSet}
use Rattle.cmr_base.specs.Matrix.{Matrix}
use Rattle.cmr_base.specs.Trees.{Reproduces, IsNetworkMatrix}
use Rattle.network_orient.specs.Orientations.{IsOrientation}
use Rattle.tree_type.specs.Soundness.{part}
use Rattle.decomp_tree.specs.Shapes.{IsNetwork}
use Rattle.decomp_tree.specs.Seen.{IsNamedFault, IsSeen}
use Rattle.decomp_tree.proofs.NoNetworks.{directed_decides}
use Rattle.decomp_tree.proofs.Said.{none_next, seen_fault, seen_network}
use Rattle.decomp_tree.proofs.looking.look_tested.Goals as goal

pub certain_fault-requires-clause-of_rows : goal.certain_fault-requires-clause-of_rows
certain_fault-requires-clause-of_rows g c =
    subst (λ (n : Matrix). IsOrientation n c.in_ok-of_rows.of_rows) c.by_rows.ensures.matrix c.in_ok-of_rows.ensures

pub returns-in-Some : goal.returns-in-Some
returns-in-Some g c =
    let m = c.args.node.now.matrix.now in
    let lines = c.args.node.now.lines.now in
    subst (IsSeen c.args.node.now.limits.lines m lines) (sym c.leaf.ensures)
    (seen_fault c.args.node.now.limits.lines m c.args.node.now.shape lines c.args.node.now.are_lines c.in-Some.fault
    (subst (λ (o : Option LineSet). IfSome o (IsNamedFault m lines)) c.in-Some.is c.in_ok-fault.ensures))

pub returns-in-Some-directed : goal.returns-in-Some-directed
returns-in-Some-directed g c =
    let n = c.in-Some-directed.net in
    let reproduces = MatchOption-at_some _ _ n (sym c.directed.ensures ∙ c.in-Some-directed.is) (directed_decides c.by_rows.result.now c.in_ok-of_rows.of_rows c.in_ok-of_rows.ensures) in
    subst (IsSeen c.args.node.now.limits.lines c.args.node.now.matrix.now c.args.node.now.lines.now) (sym c.leaf-in-Some-directed.ensures)
    (seen_network c.args.node.now.limits.lines c.args.node.now.matrix.now c.args.node.now.shape c.args.node.now.lines.now c.args.node.now.are_lines n c.requires.none
    (subst (Reproduces n) (c.by_rows.ensures.matrix ∙ c.args.node.now.submatrix_is) reproduces))

pub look_transposed-requires-clause-none : goal.look_transposed-requires-clause-none
look_transposed-requires-clause-none g c =
    let m = c.args.node.now.matrix.now in
    let lines = c.args.node.now.lines.now in
    let none = MatchOption-at_none _ _ (sym c.directed.ensures ∙ c.in_default-directed.is) (directed_decides c.by_rows.result.now c.in_ok-of_rows.of_rows c.in_ok-of_rows.ensures) in
    let no_network = subst (λ (k : Matrix). ¬ (IsNetworkMatrix k)) (c.by_rows.ensures.matrix ∙ c.args.node.now.submatrix_is) none in
    λ κs lives. none_next c.args.node.now.limits.lines (part m lines) IsNetwork c.requires.none no_network
