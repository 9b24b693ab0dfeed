use Rattle.cmr_tools.proofs.ReportsOfOrders as orders
use Rattle.cmr_tools.proofs.laws.workers_change_nothing.Goals as goal

pub returns : goal.returns
returns c = orders.workers_change_nothing
