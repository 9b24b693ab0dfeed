use Rattle.cmr_unimodular.proofs.AlikeTrees.{regular_alike, tu_alike}
use Rattle.cmr_unimodular.proofs.laws.reports_are_alike.Goals as goal

pub returns-clause-tu : goal.returns-clause-tu
returns-clause-tu c = tu_alike

pub returns-clause-regular : goal.returns-clause-regular
returns-clause-regular c = regular_alike
