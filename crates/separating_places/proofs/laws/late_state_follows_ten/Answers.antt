use Rattle.std.proofs.Common.{refl}
use Rattle.separating_places.proofs.LateStates.{only_after_ten}
use Rattle.separating_places.proofs.laws.late_state_follows_ten.Goals as goal

pub returns-clause-after : goal.returns-clause-after
returns-clause-after c bound step = refl

pub returns-clause-alone : goal.returns-clause-alone
returns-clause-alone c = only_after_ten
