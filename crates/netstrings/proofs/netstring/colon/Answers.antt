use Rattle.std.proofs.Common.{arith, rules}
use Rattle.netstrings.proofs.NetstringLemmas.{first_colon, no_colon-each}
use Rattle.netstrings.proofs.netstring.colon.Goals as goal

pub returns-then-byte-eq58-clause-some : goal.returns-then-byte-eq58-clause-some
returns-then-byte-eq58-clause-some c = first_colon c.args.bytes.now c.loop-at.at (search rules) (search rules) c.loop-at.invariant

pub returns-clause-none : goal.returns-clause-none
returns-clause-none c = no_colon-each c.args.bytes.now (λ k h. c.loop-at.invariant k (omega arith))
