use Rattle.std.proofs.Common.{false}
use Rattle.graph_realise.proofs.JoinLemmas.{changed_by}
use Rattle.graph_realise.proofs.joining.clear_arc.Goals as goal

pub returns : goal.returns
returns c = changed_by c.args.sides.now c.clear.new.self c.clear-2.new.self c.clear-3.new.self c.args.arc (λ other. false) (λ end column. false) c.clear.ensures c.clear-2.ensures c.clear-3.ensures c.requires.wide
