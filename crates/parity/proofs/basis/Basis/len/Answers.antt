use Rattle.std.proofs.Common.{arith}
use Rattle.parity.proofs.BasisLemmas.{count_is}
use Rattle.parity.proofs.basis.Basis.len.Goals as goal

pub returns : goal.returns
returns c = omega (arith, c.self.inside.pivots.ok, count_is c.self.inside c.args.self.now c.self.view_is)
