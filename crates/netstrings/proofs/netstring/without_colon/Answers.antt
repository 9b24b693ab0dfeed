use Rattle.std.proofs.Common.{rules}
use Rattle.netstrings.proofs.NetstringLemmas.{empty_is_cut, digits_are_cut, no_digits}
use Rattle.netstrings.proofs.netstring.without_colon.Goals as goal

pub returns-then-is_empty : goal.returns-then-is_empty
returns-then-is_empty c = empty_is_cut c.args.bytes.now (search rules)

pub returns-in-Some : goal.returns-in-Some
returns-in-Some c = digits_are_cut c.args.bytes.now c.in-Some.field-0 c.requires c.in-Some.ensures.some c.in-Some.ensures.small

pub returns-in-None : goal.returns-in-None
returns-in-None c = no_digits c.args.bytes.now c.requires (search rules) c.in-None.ensures.none
