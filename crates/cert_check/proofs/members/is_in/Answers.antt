use Rattle.std.proofs.Common.{◌∙◌, sym}
use Rattle.tree_type.proofs.Among.{among_contains, contains_among}
use Rattle.cert_check.proofs.members.is_in.Goals as goal

pub returns : goal.returns
returns c = ((λ yes. among_contains c.args.set.now c.args.line (sym c.has_line.ensures ∙ yes)), λ h. c.has_line.ensures ∙ contains_among c.args.set.now c.args.line h)
