use Rattle.std.proofs.Common.{subst}
use Rattle.network_orient.specs.Orientations.{IsOrientation}
use Rattle.decomp_tree.proofs.faults.certain_fault.Goals as goal

pub fault_from-requires-clause-passed : goal.fault_from-requires-clause-passed
fault_from-requires-clause-passed c = ((subst (IsOrientation c.args.submatrix.now) c.in-WrongSigns.is c.requires.of_rows).2).before
