use Rattle.std.proofs.Common.{◌-◌}
use Rattle.cmr_base.specs.Matrix.{height}
use Rattle.sum_ops.specs.SumCores.{core_determinant_at}
use Rattle.sum_ops.proofs.CoreSums.{last_core_of}
use Rattle.sum_ops.proofs.concentrated.shared_core.Goals as goal

pub returns-in_default-2 : goal.returns-in_default-2
returns-in_default-2 c = λ have.
    let first = c.args.first.now in
    c.in_default.ensures (core_determinant_at first (height first - 3) (first.width - 3)) (last_core_of first c.args.second.now have)
