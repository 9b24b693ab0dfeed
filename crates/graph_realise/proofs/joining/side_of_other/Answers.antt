use Rattle.std.proofs.Common.{◌∙◌, ap, sym, false, None}
use Rattle.std.proofs.lemmas.List.{get_or_read}
use Rattle.graph_realise.proofs.joining.side_of_other.Goals as goal

pub is_nonzero-requires-clause-column : goal.is_nonzero-requires-clause-column
is_nonzero-requires-clause-column c =
    let branches = c.args.joint.now.branches.items in
    let read = get_or_read branches c.args.other c.index-other_branch.result.now c.requires.other c.index-other_branch.ensures (record { end = false; weight = 0; common = None }) in
    c.requires.joint.commons c.args.other c.in-Some.column (ap (λ b. b.common) (sym read) ∙ c.in-Some.is)
