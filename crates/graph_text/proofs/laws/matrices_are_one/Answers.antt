use Rattle.graph_text.proofs.OneMatrix as one
use Rattle.graph_text.proofs.laws.matrices_are_one.Goals as goal

pub returns-clause-directed : goal.returns-clause-directed
returns-clause-directed c = one.matrices_are_one

pub returns-clause-undirected : goal.returns-clause-undirected
returns-clause-undirected c = one.binary_matrices_are_one
