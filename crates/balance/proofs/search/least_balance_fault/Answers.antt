use Rattle.std.proofs.Common.{subst, IfOk}
use Rattle.cmr_base.specs.Matrix.{Matrix}
use Rattle.balance.specs.SearchedFaults.{HasSearchedFaults}
use Rattle.balance.proofs.LeastFaults.{searched}
use Rattle.balance.proofs.search.least_balance_fault.Goals as goal

pub returns : goal.returns
returns g c =
    subst (λ (m : Matrix). IfOk c.least_submatrix.result (HasSearchedFaults m c.args.budget)) c.of-both.ensures
    (searched c.of-both.result c.rows-rows.ensures.shape c.args.budget c.least_submatrix.result c.least_submatrix.ensures)
