use Rattle.std.proofs.Common.{sym, subst}
use Rattle.cmr_base.specs.Matrix.{Matrix, transposed}
use Rattle.cmr_base.specs.Trees.{ReproducesSupport}
use Rattle.network_orient.specs.FirstRows.{HasNoFaultBefore}
use Rattle.network_orient.specs.Orientations.{IsOrientation}
use Rattle.decomp_tree.proofs.faults.certain_fault_transposed.Goals as goal

pub rows_of_transposed-requires : goal.rows_of_transposed-requires
rows_of_transposed-requires c =
    subst (λ (m : Matrix). ReproducesSupport c.in-WrongSigns.net (transposed m)) (sym c.by_rows.ensures.matrix)
    (subst (IsOrientation (transposed c.args.submatrix.now)) c.in-WrongSigns.is c.requires.of_columns).1

pub fault_from-requires-clause-passed : goal.fault_from-requires-clause-passed
fault_from-requires-clause-passed c = subst (λ (m : Matrix). HasNoFaultBefore m c.in_ok-row-in-WrongSigns.row) c.by_rows.ensures.matrix c.in_ok-row-in-WrongSigns.ensures
