use Rattle.ghouila.proofs.HoffmanKruskal.{hoffman_kruskal}
use Rattle.ghouila.proofs.laws.hoffman_kruskal.Goals as goal

pub returns : goal.returns
returns c = hoffman_kruskal
