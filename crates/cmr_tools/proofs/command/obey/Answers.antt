use Rattle.std.proofs.Common.{refl, rules}
use Rattle.cmr_tools.proofs.Obeyed.{means_of, ranges_of, runs_of}
use Rattle.cmr_tools.proofs.command.obey.Goals as goal

pub run-requires-sync-R : goal.run-requires-sync-R
run-requires-sync-R g c κs within = (search rules, ((refl, tt), ranges_of c.args.command.now _ c.in-Tu.is c.requires))

pub run-requires-in-Regular-sync-R : goal.run-requires-in-Regular-sync-R
run-requires-in-Regular-sync-R g c κs within = (search rules, ((refl, tt), ranges_of c.args.command.now _ c.in-Regular.is c.requires))

pub run-requires-in-Test-sync-R : goal.run-requires-in-Test-sync-R
run-requires-in-Test-sync-R g c κs within = (search rules, ((refl, tt), ranges_of c.args.command.now _ c.in-Test.is c.requires))

pub run-requires-in-Generate-sync-R : goal.run-requires-in-Generate-sync-R
run-requires-in-Generate-sync-R g c κs within = (search rules, ((refl, tt), ranges_of c.args.command.now _ c.in-Generate.is c.requires))

pub run-requires-in-Balanced-sync-R : goal.run-requires-in-Balanced-sync-R
run-requires-in-Balanced-sync-R g c κs within = (search rules, ((refl, tt), ranges_of c.args.command.now _ c.in-Balanced.is c.requires))

pub returns-in-Tu-clause-runs : goal.returns-in-Tu-clause-runs
returns-in-Tu-clause-runs g c = runs_of c.args.command.now _ _ _ _ _ c.in-Tu.is c.run.ensures.runs

pub returns-in-Tu-clause-means : goal.returns-in-Tu-clause-means
returns-in-Tu-clause-means g c = means_of c.args.command.now _ _ _ _ c.in-Tu.is c.run.ensures.means

pub returns-in-Regular-clause-runs : goal.returns-in-Regular-clause-runs
returns-in-Regular-clause-runs g c = runs_of c.args.command.now _ _ _ _ _ c.in-Regular.is c.run-in-Regular.ensures.runs

pub returns-in-Regular-clause-means : goal.returns-in-Regular-clause-means
returns-in-Regular-clause-means g c = means_of c.args.command.now _ _ _ _ c.in-Regular.is c.run-in-Regular.ensures.means

pub returns-in-SeriesParallel-clause-runs : goal.returns-in-SeriesParallel-clause-runs
returns-in-SeriesParallel-clause-runs g c = runs_of c.args.command.now _ _ _ _ _ c.in-SeriesParallel.is c.run-in-SeriesParallel.ensures.runs

pub returns-in-SeriesParallel-clause-means : goal.returns-in-SeriesParallel-clause-means
returns-in-SeriesParallel-clause-means g c = means_of c.args.command.now _ _ _ _ c.in-SeriesParallel.is c.run-in-SeriesParallel.ensures.means

pub returns-in-Test-clause-runs : goal.returns-in-Test-clause-runs
returns-in-Test-clause-runs g c = runs_of c.args.command.now _ _ _ _ _ c.in-Test.is c.run-in-Test.ensures.runs

pub returns-in-Test-clause-means : goal.returns-in-Test-clause-means
returns-in-Test-clause-means g c = means_of c.args.command.now _ _ _ _ c.in-Test.is c.run-in-Test.ensures.means

pub returns-in-Generate-clause-runs : goal.returns-in-Generate-clause-runs
returns-in-Generate-clause-runs g c = runs_of c.args.command.now _ _ _ _ _ c.in-Generate.is c.run-in-Generate.ensures.runs

pub returns-in-Generate-clause-means : goal.returns-in-Generate-clause-means
returns-in-Generate-clause-means g c = means_of c.args.command.now _ _ _ _ c.in-Generate.is c.run-in-Generate.ensures.means

pub returns-in-Check-clause-runs : goal.returns-in-Check-clause-runs
returns-in-Check-clause-runs g c = runs_of c.args.command.now _ _ _ _ _ c.in-Check.is c.run-in-Check.ensures.runs

pub returns-in-Check-clause-means : goal.returns-in-Check-clause-means
returns-in-Check-clause-means g c = means_of c.args.command.now _ _ _ _ c.in-Check.is c.run-in-Check.ensures.means

pub returns-in-Upgrade-clause-runs : goal.returns-in-Upgrade-clause-runs
returns-in-Upgrade-clause-runs g c = runs_of c.args.command.now _ _ _ _ _ c.in-Upgrade.is c.run-in-Upgrade.ensures.runs

pub returns-in-Upgrade-clause-means : goal.returns-in-Upgrade-clause-means
returns-in-Upgrade-clause-means g c = means_of c.args.command.now _ _ _ _ c.in-Upgrade.is c.run-in-Upgrade.ensures.means

pub returns-in-Camion-clause-runs : goal.returns-in-Camion-clause-runs
returns-in-Camion-clause-runs g c = runs_of c.args.command.now _ _ _ _ _ c.in-Camion.is c.run-in-Camion.ensures.runs

pub returns-in-Camion-clause-means : goal.returns-in-Camion-clause-means
returns-in-Camion-clause-means g c = means_of c.args.command.now _ _ _ _ c.in-Camion.is c.run-in-Camion.ensures.means

pub returns-in-Sign-clause-runs : goal.returns-in-Sign-clause-runs
returns-in-Sign-clause-runs g c = runs_of c.args.command.now _ _ _ _ _ c.in-Sign.is c.run-in-Sign.ensures.runs

pub returns-in-Sign-clause-means : goal.returns-in-Sign-clause-means
returns-in-Sign-clause-means g c = means_of c.args.command.now _ _ _ _ c.in-Sign.is c.run-in-Sign.ensures.means

pub returns-in-Balanced-clause-runs : goal.returns-in-Balanced-clause-runs
returns-in-Balanced-clause-runs g c = runs_of c.args.command.now _ _ _ _ _ c.in-Balanced.is c.run-in-Balanced.ensures.runs

pub returns-in-Balanced-clause-means : goal.returns-in-Balanced-clause-means
returns-in-Balanced-clause-means g c = means_of c.args.command.now _ _ _ _ c.in-Balanced.is c.run-in-Balanced.ensures.means

pub returns-in-Parts-clause-runs : goal.returns-in-Parts-clause-runs
returns-in-Parts-clause-runs g c = runs_of c.args.command.now _ _ _ _ _ c.in-Parts.is c.run-in-Parts.ensures.runs

pub returns-in-Parts-clause-means : goal.returns-in-Parts-clause-means
returns-in-Parts-clause-means g c = means_of c.args.command.now _ _ _ _ c.in-Parts.is c.run-in-Parts.ensures.means

pub returns-in-Compose-clause-runs : goal.returns-in-Compose-clause-runs
returns-in-Compose-clause-runs g c = runs_of c.args.command.now _ _ _ _ _ c.in-Compose.is c.run-in-Compose.ensures.runs

pub returns-in-Compose-clause-means : goal.returns-in-Compose-clause-means
returns-in-Compose-clause-means g c = means_of c.args.command.now _ _ _ _ c.in-Compose.is c.run-in-Compose.ensures.means
