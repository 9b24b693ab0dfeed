use Rattle.std.proofs.Common.{Option, IfSome, subst}
use Rattle.cmr_base.specs.declared.line_set.LineSet.{LineSet}
use Rattle.decomp_tree.specs.Obstructions.{IsObstruction}
use Rattle.decomp_tree.proofs.NoNetworks.{no_network_with, within_all}
use Rattle.decomp_tree.proofs.obstructions.Obstruction.is_within.Goals as goal

pub returns-in-Some : goal.returns-in-Some
returns-in-Some c all =
    let m = c.args._matrix.now in
    let own = c.in-Some.own in
    no_network_with m c.requires.shape own c.args.lines.now
    (subst (λ (o : Option LineSet). IfSome o (IsObstruction m)) c.in-Some.is c.requires.known)
    c.requires.lines
    (within_all c.args.lines.now.rows own.rows (c.has_lines.ensures.rows all)) (within_all c.args.lines.now.columns own.columns (c.has_lines.ensures.columns all))
