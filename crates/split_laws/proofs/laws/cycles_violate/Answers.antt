use Rattle.split_laws.proofs.SplitLemmas.{uncancelled_cycles_are_violators}
use Rattle.split_laws.proofs.laws.cycles_violate.Goals as goal

pub returns : goal.returns
returns c = uncancelled_cycles_are_violators
