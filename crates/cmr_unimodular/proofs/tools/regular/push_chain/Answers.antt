use Rattle.std.proofs.Common.{ap}
use Rattle.cmr_base.specs.Matrix.{height}
use Rattle.tree_type.specs.Verdicts.{verdict_shown}
use Rattle.cmr_unimodular.proofs.RegularAnswers.{fault_lines}
use Rattle.cmr_unimodular.proofs.tools.regular.push_chain.Goals as goal

pub push_chain_with-requires : goal.push_chain_with-requires
push_chain_with-requires c = record { lines = fault_lines (height c.args.matrix.now) c.args.matrix.now.width (verdict_shown c.args.verdict.now) c.in-No.fault.now (ap verdict_shown c.in-No.is) c.requires.lines }
