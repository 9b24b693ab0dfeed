use Rattle.cmr_base.proofs.RunWords.{first_inside, none_after}
use Rattle.cmr_base.proofs.runs.first_bits.Goals as goal

pub returns-clause-inside : goal.returns-clause-inside
returns-clause-inside c = first_inside c.args.word c.args.count c.requires.1

pub returns-clause-past : goal.returns-clause-past
returns-clause-past c = none_after c.args.word c.args.count c.requires.1
