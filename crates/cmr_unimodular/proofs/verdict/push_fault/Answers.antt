use Rattle.std.proofs.Common.{ap}
use Rattle.tree_type.specs.Verdicts.{verdict_shown}
use Rattle.cmr_evidence.proofs.VerdictWords.{fault_rows, fault_columns}
use Rattle.cmr_unimodular.proofs.verdict.push_fault.Goals as goal

pub push_submatrix-requires-clause-rows : goal.push_submatrix-requires-clause-rows
push_submatrix-requires-clause-rows c = fault_rows c.args.matrix.now (verdict_shown c.args.verdict.now) c.in-No.fault.now (ap verdict_shown c.in-No.is) c.requires

pub push_submatrix-requires-clause-columns : goal.push_submatrix-requires-clause-columns
push_submatrix-requires-clause-columns c = fault_columns c.args.matrix.now (verdict_shown c.args.verdict.now) c.in-No.fault.now (ap verdict_shown c.in-No.is) c.requires
