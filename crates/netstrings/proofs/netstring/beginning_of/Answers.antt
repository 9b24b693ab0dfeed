use Rattle.netstrings.proofs.NetstringLemmas.{has_no_length}
use Rattle.netstrings.proofs.netstring.beginning_of.Goals as goal

pub returns-in-None-length_in : goal.returns-in-None-length_in
returns-in-None-length_in c = has_no_length c.args.bytes.now c.in-Some.end c.in-Some.ensures.some c.in-None-length_in.ensures.none
