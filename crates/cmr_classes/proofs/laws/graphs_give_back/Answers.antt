use Rattle.cmr_classes.proofs.GraphsGiveBack as back
use Rattle.cmr_classes.proofs.laws.graphs_give_back.Goals as goal

pub returns-clause-texts : goal.returns-clause-texts
returns-clause-texts c = back.graphs_give_back

pub returns-clause-files : goal.returns-clause-files
returns-clause-files c = back.graph_files_give_back

pub returns-clause-held : goal.returns-clause-held
returns-clause-held c = back.held_graphs_give_back
