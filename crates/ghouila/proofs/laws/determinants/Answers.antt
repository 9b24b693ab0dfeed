use Rattle.ghouila.proofs.DeterminantLaw.{ghouila_houri}
use Rattle.ghouila.proofs.laws.determinants.Goals as goal

pub returns : goal.returns
returns c = ghouila_houri
