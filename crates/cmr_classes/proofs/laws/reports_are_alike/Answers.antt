use Rattle.cmr_classes.proofs.AlikeNetworks.{test_alike}
use Rattle.cmr_classes.proofs.laws.reports_are_alike.Goals as goal

pub returns : goal.returns
returns c = record { test = test_alike }
