use Rattle.three_sep.proofs.SeedForms.{found}
use Rattle.three_sep.proofs.search.three_separation_of.Goals as goal

pub returns : goal.returns
returns c = found c.in_ok-new.field-0.matrix.now c.args.matrix.now c.in_ok-new.ensures c.first.result c.first.ensures
