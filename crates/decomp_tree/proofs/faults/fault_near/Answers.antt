use Rattle.std.proofs.Common.{IfOk, MatchOption, subst}
use Rattle.cmr_base.specs.CyclePlaces.{HasNoCycleFault}
use Rattle.cmr_base.specs.Matrix.{Matrix, entry}
use Rattle.tree_type.specs.Soundness.{part}
use Rattle.decomp_tree.specs.Seen.{IsNamedFault}
use Rattle.decomp_tree.proofs.faults.fault_near.Goals as goal

pub returns : goal.returns
returns c =
    subst (λ (m : Matrix). IfOk c.fault_from.result (λ found. MatchOption found (HasNoCycleFault (entry (part m c.args.lines.now))) (IsNamedFault m c.args.lines.now))) c.by_rows.ensures.matrix c.fault_from.ensures
