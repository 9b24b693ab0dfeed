use Rattle.ghouila.proofs.TransposedSignings as lemmas
use Rattle.ghouila.proofs.laws.transposed_unimodular.Goals as goal

pub returns : goal.returns
returns c = lemmas.transposed_unimodular
