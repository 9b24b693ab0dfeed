use Rattle.graph_text.proofs.OneReading as one
use Rattle.graph_text.proofs.laws.readings_are_one.Goals as goal

pub returns : goal.returns
returns c = one.readings_are_one
