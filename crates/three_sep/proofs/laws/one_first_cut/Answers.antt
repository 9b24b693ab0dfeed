use Rattle.three_sep.proofs.OneFirstCut.{first_cuts_agree}
use Rattle.three_sep.proofs.laws.one_first_cut.Goals as goal

pub returns : goal.returns
returns c = first_cuts_agree
