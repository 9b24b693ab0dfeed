use Rattle.std.proofs.Common.{arith}
use Rattle.tree_laws.proofs.Leaves.{r10_same}
use Rattle.cert_check.proofs.leaf_rules.has_no_fault.Goals as goal

pub is_clean-requires : goal.is_clean-requires
is_clean-requires c = omega (arith, c.requires.five_rows)

pub returns : goal.returns
returns c =
    let same = r10_same c.args.matrix.now c.rows.ensures.shape c.requires in
    (λ yes. same.0 (c.in_ok-clean.ensures.0 yes), λ none. c.in_ok-clean.ensures.1 (same.1 none))
