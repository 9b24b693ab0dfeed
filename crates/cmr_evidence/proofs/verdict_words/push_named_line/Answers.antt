use Rattle.std.proofs.Common.{ap}
use Rattle.tree_type.specs.Verdicts.{verdict_shown}
use Rattle.cmr_evidence.proofs.VerdictWords.{fault_rows, fault_columns}
use Rattle.cmr_evidence.proofs.verdict_words.push_named_line.Goals as goal

pub sum-requires-clause-rows : goal.sum-requires-clause-rows
sum-requires-clause-rows c = fault_rows c.args.matrix.now (verdict_shown c.args.verdict.now) c.in-No.fault.now (ap verdict_shown c.in-No.is) c.requires

pub sum-requires-clause-columns : goal.sum-requires-clause-columns
sum-requires-clause-columns c = fault_columns c.args.matrix.now (verdict_shown c.args.verdict.now) c.in-No.fault.now (ap verdict_shown c.in-No.is) c.requires
