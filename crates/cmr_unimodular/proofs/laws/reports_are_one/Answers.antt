use Rattle.cmr_unimodular.proofs.AlikeTrees.{generate_has_one_report}
use Rattle.cmr_unimodular.proofs.laws.reports_are_one.Goals as goal

pub returns : goal.returns
returns c = record { generate = generate_has_one_report }
