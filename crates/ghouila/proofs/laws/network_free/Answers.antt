use Rattle.ghouila.proofs.NetworkSignings.{networks_are_unimodular, conetworks_are_unimodular}
use Rattle.ghouila.proofs.laws.network_free.Goals as goal

pub returns-clause-network : goal.returns-clause-network
returns-clause-network c = networks_are_unimodular

pub returns-clause-conetwork : goal.returns-clause-conetwork
returns-clause-conetwork c = conetworks_are_unimodular
