use Rattle.std.proofs.Common.{◌∙◌, ◌+◌, ℕ, List, length, ap, arith}
use Rattle.cmr_base.proofs.DrawnNumbers.{length-draws}
use Rattle.generate.proofs.networks.generated_network.Goals as goal

pub arcs_from-requires : goal.arcs_from-requires
arcs_from-requires c =
    let many = ap (λ (xs : List ℕ). length xs) (c.deref.ensures.value ∙ c.in_ok-tails.ensures.numbers) ∙ length-draws c.args.size 1 1 c.args.number in
    omega (arith, many, c.requires.size)

pub pairs_of-requires-clause-nodes : goal.pairs_of-requires-clause-nodes
pairs_of-requires-clause-nodes c =
    ap (λ (xs : List ℕ). length xs) (c.deref-2.ensures.value ∙ c.in_ok-ends.ensures.numbers) ∙ length-draws (c.args.size + c.args.size) (c.args.size + 1) 0 c.in_ok-tails.tails.state
