use Rattle.std.proofs.Common.{sym, subst}
use Rattle.cmr_base.specs.declared.network.Network.{Network}
use Rattle.cmr_base.specs.Trees.{IsNetworkOf}
use Rattle.generate.proofs.RandomTrees.{is_network}
use Rattle.generate.proofs.making.make.Goals as goal

pub matrix-requires-clause-network : goal.matrix-requires-clause-network
matrix-requires-clause-network c =
    subst (λ (net : Network). IsNetworkOf net c.args.size c.args.size) (sym c.in_ok-generated_network-in-Network.ensures) (is_network c.args.size c.args.number)
