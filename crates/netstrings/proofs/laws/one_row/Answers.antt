use Rattle.netstrings.proofs.NetstringLemmas as lemmas
use Rattle.netstrings.proofs.laws.one_row.Goals as goal

pub returns : goal.returns
returns c = lemmas.one_row
